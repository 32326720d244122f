use Rattle.std.proofs.Common.{◌≡◌, length, ap, subst, ◌∙◌, arith}
use Rattle.grid_core.specs.{Lending.with_cells, Raster.Raster, Raster.value_at, Reconstruction.IsReconstruction}
use Rattle.grid_core.specs.{Rects.domain_in, Rects.part}
use Rattle.grid_core.proofs.Images.{closed_is_reconstruction}
use Rattle.raster_sweeps.specs.Growth.{IsGrownUp}
use Rattle.raster_sweeps.proofs.{Grown.grown_filled, Growing.of_rows, Growing.rows_can_close, Whole.whole}
use Rattle.raster_sweeps.proofs.{Whole.whole_reconstruction}
use Rattle.band_growth.proofs.growth.grow_in_bands.Goals as goal

pub grow_rows-requires-clause-close : goal.grow_rows-requires-clause-close
grow_rows-requires-clause-close g c κs within =
    let size = c.of-size.result in
    let wide : size.w ≡ c.args.image.now.width = ap (λ (r : Raster). r.width) c.of-size.ensures.rows in
    let high : size.h ≡ c.args.image.now.height = ap (λ (r : Raster). r.height) c.of-size.ensures.rows in
    rows_can_close size c.args.mask.now c.args.image.now c.cells-mask.result.now c.cells_mut.result.now
    c.cells-mask.ensures.values c.cells_mut.ensures.values c.of-size.ensures.rows c.requires (whole size.w size.h)
    (record {
      some_width = omega (arith, wide, c.cells_mut.ensures.sized.size.some_width);
      some_height = omega (arith, high, c.cells_mut.ensures.sized.size.some_height);
      columns = omega (arith, wide, c.requires.width);
      rows = omega (arith, high, c.requires.height);
    }) c.cells-mask.ensures.sized.filled c.cells_mut.ensures.sized

pub returns-clause-grown : goal.returns-clause-grown
returns-clause-grown g c =
    let conn = c.args.conn in
    let mask = c.args.mask.now in
    let before = c.args.image.now in
    let size = c.of-size.result in
    let rect = whole size.w size.h in
    let new = c.grow_rows.new.image in
    let after = with_cells before new in
    let wide : size.w ≡ mask.width = ap (λ (r : Raster). r.width) c.of-size.ensures.rows ∙ c.requires.width in
    let high : size.h ≡ mask.height = ap (λ (r : Raster). r.height) c.of-size.ensures.rows ∙ c.requires.height in
    let long : length new ≡ length before.cells =
    c.grow_rows.ensures.grown.filled ∙ ap length c.cells_mut.ensures.values in
    let grown : IsGrownUp conn rect mask before after =
    of_rows size mask before c.cells-mask.result.now c.cells_mut.result.now c.cells-mask.ensures.values
    c.cells_mut.ensures.values c.of-size.ensures.rows c.requires (IsGrownUp conn rect) after new
    (c.cells_given_back.ensures before new long) c.grow_rows.ensures in
    let recon =
    whole_reconstruction size.w size.h conn (value_at mask) (value_at before) (value_at after)
    (closed_is_reconstruction (domain_in rect conn) (part rect (value_at mask)) (part rect (value_at before))
    (part rect (value_at after)) grown.grown.lawful grown.closed) in
    record {
      filled = grown_filled c.cells_mut.ensures.sized.filled grown.grown;
      width = grown.grown.below.width;
      height = grown.grown.below.height;
      below = grown.grown.below;
      reconstruction =
          subst (λ h. IsReconstruction (record { width = mask.width; height = h; conn = conn }) (value_at mask)
          (value_at before) (value_at after)) high
          (subst (λ w. IsReconstruction (record { width = w; height = size.h; conn = conn }) (value_at mask)
          (value_at before) (value_at after)) wide recon);
    }
