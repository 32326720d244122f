-- What a sweep and a copy give is swept.
use Rattle.std.proofs.Common.{◌≡◌, ℕ, List, sym, subst, ◌∙◌, ap, arith}
use Rattle.grid_core.specs.{declared.bounds.Bounds.Bounds, declared.conn.Conn.Conn, declared.rect.Rect.Rect}
use Rattle.grid_core.specs.{Bounds.LieIn, Bounds.bounds_of, Path.domain_of, Reconstruction.IsReconstruction}
use Rattle.grid_core.specs.Raster.{Raster, IsBelow, IsFilled, IsSized, value_at}
use Rattle.raster_sweeps.specs.{declared.size.Size.Size, Growth.CanClose, Growth.rows_of, OpenBounds.OpenPairsBeginIn}
use Rattle.raster_sweeps.specs.Regrowth.{IsRegrownIn}
use Rattle.raster_sweeps.proofs.Whole.{whole_reconstruction}
use Rattle.tile_generations.specs.declared.ticket.Ticket.{Ticket}
use Rattle.tile_generations.specs.Jobs.{Job, Swept, AreBoundsOf, IsJob, IsSwept, all_of}

-- a job with the reconstruction of its mask from its base
pub swept_job : (job : Job) (mask base pixels : Raster) (conn : Conn) → mask ≡ job.mask → base ≡ job.base
    → conn ≡ job.conn → IsJob job → IsFilled pixels → pixels.width ≡ mask.width → pixels.height ≡ mask.height
    → IsReconstruction (domain_of mask conn) (value_at mask) (value_at base) (value_at pixels)
    → IsSwept (record { job = job; pixels = pixels })
swept_job job mask base pixels conn same_mask same_base same_conn is_job filled width height recon = record {
  job = is_job;
  width = width ∙ ap (λ (r : Raster). r.width) same_mask;
  height = height ∙ ap (λ (r : Raster). r.height) same_mask;
  filled = filled;
  is_reconstruction =
      subst (λ m. IsReconstruction (domain_of m job.conn) (value_at m) (value_at job.base) (value_at pixels)) same_mask
      (subst (λ c. IsReconstruction (domain_of mask c) (value_at mask) (value_at job.base) (value_at pixels)) same_conn
      (subst (λ b. IsReconstruction (domain_of mask conn) (value_at mask) (value_at b) (value_at pixels)) same_base
      recon));
}

-- a swept tile is the one that is made of its parts
pub swept_of_parts : (swept : Swept) (job : Job) (pixels : Raster) → job ≡ swept.job → pixels ≡ swept.pixels
    → swept ≡ record { job = job; pixels = pixels }
swept_of_parts swept job pixels same_job same_pixels = λ i. record {
  job = sym same_job i;
  pixels = sym same_pixels i;
}

-- a job is the one that is made of its parts
pub job_of_parts : (job : Job) (ticket : Ticket) (conn : Conn) (base mask : Raster) → ticket ≡ job.ticket
    → conn ≡ job.conn → base ≡ job.base → mask ≡ job.mask
    → job ≡ record { ticket = ticket; conn = conn; base = base; mask = mask }
job_of_parts job ticket conn base mask same_ticket same_conn same_base same_mask = λ i. record {
  ticket = sym same_ticket i;
  conn = sym same_conn i;
  base = sym same_base i;
  mask = sym same_mask i;
}

-- each pixel of a base lies within the bounds of all of it
pub whole_bounds : (job : Job) → IsBelow job.base job.mask → AreBoundsOf job (bounds_of (all_of job.base))
whole_bounds job below = record {
  lie = (omega arith, omega (arith, below.width), omega arith, omega (arith, below.height));
  begin = λ p q pair. (
    omega arith,
    omega (arith, pair.from_inside.0, below.width),
    omega arith,
    omega (arith, pair.from_inside.1, below.height),
  );
}

-- ---- a base that is raised within its bounds, in rows of cells

module _ (job : Job) (size : Size) (limits cells : List ℕ) (rect : Rect) (conn : Conn) (is_job : IsJob job)
    (of_mask : limits ≡ job.mask.cells) (of_base : rows_of size cells ≡ job.base) (rect_is : rect ≡ all_of job.base)
    (conn_is : conn ≡ job.conn) where
  rows_mask : rows_of size limits ≡ job.mask
  rows_mask = λ i. record {
    width = (ap (λ (r : Raster). r.width) of_base ∙ is_job.below.width) i;
    height = (ap (λ (r : Raster). r.height) of_base ∙ is_job.below.height) i;
    cells = of_mask i;
  }

  all_same : all_of job.mask ≡ rect
  all_same =
      (λ i. record { x = 0; y = 0; w = (sym is_job.below.width) i; h = (sym is_job.below.height) i }) ∙ sym rect_is

  -- the base may grow
  pub base_can_close : IsSized job.base → CanClose rect (rows_of size limits) (rows_of size cells)
  base_can_close sized =
      subst (λ m. CanClose rect m (rows_of size cells)) (sym rows_mask)
      (subst (λ b. CanClose rect job.mask b) (sym of_base)
      (subst (λ r. CanClose r job.mask job.base) (sym rect_is) (record {
        size = sized.size;
        filled = sized.filled;
        mask_filled = is_job.sized.filled;
        below = is_job.below;
        fits = record {
          some_width = sized.size.some_width;
          some_height = sized.size.some_height;
          columns = omega (arith, is_job.below.width);
          rows = omega (arith, is_job.below.height);
        };
      })))

  -- its bounds are those of the rows
  pub rows_begin : (bounds : Bounds) → AreBoundsOf job bounds
      → OpenPairsBeginIn conn rect (rows_of size limits) (rows_of size cells) bounds
  rows_begin bounds are =
      subst (λ k. OpenPairsBeginIn k rect (rows_of size limits) (rows_of size cells) bounds) (sym conn_is)
      (subst (λ m. OpenPairsBeginIn job.conn rect m (rows_of size cells) bounds) (sym rows_mask)
      (subst (λ b. OpenPairsBeginIn job.conn rect job.mask b bounds) (sym of_base)
      (subst (λ r. OpenPairsBeginIn job.conn r job.mask job.base bounds) all_same are.begin)))

  pub rows_lie : (bounds : Bounds) → AreBoundsOf job bounds → LieIn bounds rect
  rows_lie bounds are = subst (LieIn bounds) all_same are.lie

  -- what they grow to is swept
  pub rows_are_swept : (new : List ℕ) (after : Raster) → after ≡ rows_of size new
      → IsRegrownIn conn rect (rows_of size limits) (rows_of size cells) (rows_of size new)
      → IsSwept (record { job = job; pixels = after })
  rows_are_swept new after after_is regrown =
      let grown : IsRegrownIn job.conn (all_of job.mask) job.mask job.base after =
      subst (λ a. IsRegrownIn job.conn (all_of job.mask) job.mask job.base a) (sym after_is)
      (subst (λ r. IsRegrownIn job.conn r job.mask job.base (rows_of size new)) (sym all_same)
      (subst (λ b. IsRegrownIn job.conn rect job.mask b (rows_of size new)) of_base
      (subst (λ m. IsRegrownIn job.conn rect m (rows_of size cells) (rows_of size new)) rows_mask
      (subst (λ k. IsRegrownIn k rect (rows_of size limits) (rows_of size cells) (rows_of size new)) conn_is
      regrown)))) in
      record {
        job = is_job;
        width = grown.below.width;
        height = grown.below.height;
        filled = grown.patch.size.filled;
        is_reconstruction =
            whole_reconstruction job.mask.width job.mask.height job.conn (value_at job.mask) (value_at job.base)
            (value_at after) grown.reconstruction;
      }
