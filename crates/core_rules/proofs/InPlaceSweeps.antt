-- A tile that is swept in place: the take, the sweep and the give-back that have the same effect.
use Rattle.std.proofs.Common.{◌≡◌, ℕ, ◌*◌, ◌<◌, ◌≤◌, false, List, [], ◌∷◌, ◌++◌, length, refl, sym, ◌∙◌, ap, subst}
use Rattle.std.proofs.Common.{arith, ◌≢◌, Some, None}
use Rattle.std.proofs.{lemmas.Nat.mul-le, lemmas.List.length-set}
use Rattle.grid_core.specs.{declared.pixel.Pixel.Pixel, declared.rect.Rect.Rect, Path.Inside, Tiles.count_of}
use Rattle.grid_core.specs.Raster.{Raster, IsInside, IsImageSize, IsBelow, value_at}
use Rattle.grid_core.specs.Rects.{in_image, domain_in, part}
use Rattle.grid_core.proofs.{Cells.each_pixel_below, Reach.reaches_here, Tilings.tile_pixels, Tilings.tiles_lie_inside}
use Rattle.border_queues.specs.{OpenEdges.open_edges, TileWork.TileWork, TileWork.received}
use Rattle.tile_generations.specs.Jobs.{Job, Swept, IsSwept}
use Rattle.core_rules.specs.{declared.answers.Back.TheVariants.Joined, Image.IsJoinedWith, InPlace.IsSweptInPlace}
use Rattle.core_rules.specs.{Runs.Entry, Runs.IsJobOut, Runs.IsNext, Runs.IsRun, Runs.IsWorkedOff, Events.Take}
use Rattle.core_rules.specs.{Events.GiveBack, Events.OfTake, Events.OfGiveBack, Invariant.IsSound}
use Rattle.core_rules.specs.Work.{Core, domain, tiling, mask_at, image_at, IsTile, work_at}
use Rattle.core_rules.specs.Sweeps.{tile_rect, IsReady, IsNextJob, taken, IsOut, IsKnown, IsUnchanged, sender_of}
use Rattle.core_rules.specs.Sweeps.{hints_of, hints_for, IsJoined, IsGivenBack}
use Rattle.core_rules.proofs.{Cores.work_there, Cores.work_elsewhere, Supporting.reach_at_most}
use Rattle.core_rules.proofs.Pieces.{piece, piece_is_part, reconstruction_same}

-- the job on the tile as the core stands
abbrev next_job : Core → ℕ → Job
next_job core t = record {
  ticket = record { tile = t; generation = (work_at core t).generation; serial = core.serial };
  conn = core.conn;
  base = piece (tile_rect core t) core.image;
  mask = piece (tile_rect core t) core.mask;
}

-- that job, swept, where the image afterwards is this one
abbrev swept_as : Core → ℕ → Raster → Swept
swept_as core t image = record { job = next_job core t; pixels = piece (tile_rect core t) image }

module _ (before after : Core) (t : ℕ) (sound : IsSound before) (ready : IsReady before t)
    (in_place : IsSweptInPlace before t after) where
  abbrev rect : Rect
  rect = tile_rect before t

  -- the work at the tile and the core once the job is taken
  abbrev work_out : TileWork
  work_out = record (work_at before t) { dirty = false; out = Some before.serial }

  abbrev middle : Core
  middle = taken before t

  -- the images of the tile
  abbrev base : Raster
  base = piece rect before.image

  abbrev mask : Raster
  mask = piece rect before.mask

  abbrev grown : Raster
  grown = piece rect after.image

  tile_within : t < count_of (tiling before)
  tile_within = omega (arith, ready.is_tile, sound.shape.tiles)

  inside_image : (p : Pixel) → IsInside rect.w rect.h p → Inside (domain before) (in_image rect p)
  inside_image p inside =
      ((tile_pixels (tiling before) t (in_image rect p) sound.shape.tiled tile_within).1 (p, inside, refl)).0

  value_of : (whole : Raster) (p : Pixel) → IsInside rect.w rect.h p
      → value_at (piece rect whole) p ≡ value_at whole (in_image rect p)
  value_of whole p inside = (piece_is_part rect whole).values p inside

  rect_size : IsImageSize rect.w rect.h
  rect_size =
      let fits = tiles_lie_inside (tiling before) t sound.shape.tiled tile_within in
      let size = sound.shape.tiled.size in
      let columns = fits.columns in
      let rows = fits.rows in
      let pixels : rect.w * rect.h ≤ before.mask.width * before.mask.height =
      mul-le rect.w rect.h before.mask.width before.mask.height (omega (arith, columns)) (omega (arith, rows)) in
      record {
        some_width = fits.some_width;
        some_height = fits.some_height;
        width_within = omega (arith, columns, size.width_within);
        height_within = omega (arith, rows, size.height_within);
        pixels_within = omega (arith, pixels, size.pixels_within);
      }

  base_below_mask : IsBelow base mask
  base_below_mask =
      each_pixel_below base mask (piece_is_part rect before.image).filled refl refl (λ p inside.
      let below = (sound.supported (in_image rect p) (inside_image p inside)).1 in
      omega (arith, value_of before.image p inside, value_of before.mask p inside, below))

  is_swept : IsSwept (swept_as before t after.image)
  is_swept = record {
    job = record {
      sized = record { size = rect_size; filled = (piece_is_part rect before.mask).filled };
      filled = (piece_is_part rect before.image).filled;
      below = base_below_mask;
    };
    width = refl;
    height = refl;
    filled = (piece_is_part rect after.image).filled;
    is_reconstruction =
        reconstruction_same (domain_in rect before.conn) (part rect (mask_at before))
        (value_at mask) (part rect (image_at before)) (value_at base) (part rect (image_at after))
        (value_at grown) (λ p h. sym (value_of before.mask p h))
        (λ p h. sym (value_of before.image p h)) (λ p h. sym (value_of after.image p h)) in_place.grown;
  }

  is_next : IsNextJob before t (next_job before t)
  is_next = record {
    ticket = refl;
    conn = refl;
    base = piece_is_part rect before.image;
    mask = piece_is_part rect before.mask;
  }

  -- ---- the core once the job is taken

  taken_work : work_at middle t ≡ work_out
  taken_work = work_there before t work_out ready.is_tile

  taken_count : length middle.tiles ≡ length before.tiles
  taken_count = length-set before.tiles t work_out

  taken_generation : (work_at middle t).generation ≡ (work_at before t).generation
  taken_generation = ap (λ (w : TileWork). w.generation) taken_work

  is_tile_still : IsTile middle t
  is_tile_still = subst (λ n. t < n) (sym taken_count) ready.is_tile

  known : IsKnown middle (next_job before t)
  known = record {
    is_tile = is_tile_still;
    mask = piece_is_part rect before.mask;
    conn = refl;
    generation = omega (arith, taken_generation);
  }

  is_out : IsOut middle (next_job before t).ticket
  is_out = record {
    is_tile = is_tile_still;
    generation = taken_generation;
    out = ap (λ (w : TileWork). w.out) taken_work;
  }

  unchanged : IsUnchanged middle (next_job before t)
  unchanged = record {
    clean = ap (λ (w : TileWork). w.dirty) taken_work;
    base = piece_is_part rect before.image;
  }

  -- ---- the image, and the hints

  pub risen : (p : Pixel) → IsInside rect.w rect.h p
      → image_at before (in_image rect p) ≤ image_at after (in_image rect p)
  risen p inside =
      let r = in_image rect p in
      let d = domain_in rect before.conn in
      let below = (sound.supported r (inside_image p inside)).1 in
      reach_at_most d (part rect (mask_at before)) (part rect (image_at before))
      (part rect (image_at after)) in_place.grown p (image_at before r) inside
      (reaches_here d (part rect (mask_at before)) (part rect (image_at before)) p
      (image_at before r) inside below (omega arith))

  joined_image : IsJoinedWith rect grown before.image after.image
  joined_image = record {
    size = in_place.size;
    within = λ p inside. omega (arith, value_of after.image p inside, risen p inside);
    beyond = in_place.beyond;
  }

  same_work : record (work_at before t) { dirty = false } ≡ record work_out { out = None }
  same_work = λ i. record (work_at before t) { dirty = false; out = ready.none_out i }

  joined_own : work_at after t ≡ record (work_at middle t) { out = None }
  joined_own = in_place.own ∙ same_work ∙ ap (λ (w : TileWork). record w { out = None }) (sym taken_work)

  same_hints : hints_of before after t ≡ hints_of middle after t
  same_hints =
      ap (λ g. open_edges (record (sender_of before t) { image = image_at after; generation = g }))
      (sym taken_generation)

  joined_others : (u : ℕ) → IsTile middle u → u ≢ t → work_at after u
      ≡ received (work_at middle u) (hints_for before u (hints_of middle after t))
  joined_others u within other =
      let is_tile : IsTile before u = subst (λ n. u < n) taken_count within in
      let same : work_at middle u ≡ work_at before u = work_elsewhere before t u work_out other in
      in_place.others u is_tile other ∙ ap (λ hints. received (work_at before u) (hints_for before u hints)) same_hints
      ∙ ap (λ w. received w (hints_for before u (hints_of middle after t))) (sym same)

  joined : IsJoined middle (swept_as before t after.image) after
  joined = record {
    image = joined_image;
    own = joined_own;
    others = joined_others;
    count = in_place.count ∙ sym taken_count;
    rest = in_place.rest;
  }

  job_out : IsJobOut middle (next_job before t)
  job_out = record {
    out = is_out;
    conn = refl;
    base = piece_is_part rect before.image;
    mask = piece_is_part rect before.mask;
  }

  given_back : IsSwept (swept_as before t after.image)
      × IsGivenBack middle (swept_as before t after.image) Joined after
  given_back = (is_swept, (known, is_out, unchanged, joined))

-- the tile that is the next to be taken can be taken
pub next_is_ready : (core : Core) (t : ℕ) → IsNext core (Take t) → IsReady core t
next_is_ready core t (none_out, no_hints, ((is_tile, dirty), least)) =
    record { is_tile = is_tile; dirty = dirty; none_out = none_out t is_tile }

pub in_place_is_worked_off : (before after : Core) (t : ℕ) → IsSound before → IsNext before (Take t)
    → IsSweptInPlace before t after → (swept : Swept)
    × IsWorkedOff before ((Take t, OfTake (Some swept.job)) ∷ (GiveBack swept, OfGiveBack Joined) ∷ []) after
in_place_is_worked_off before after t sound next in_place =
    let ready = next_is_ready before t next in (
      swept_as before t after.image,
      (
        next,
        (
          taken before t,
          (ready, is_next before after t sound ready in_place, refl),
          (
            job_out before after t sound ready in_place,
            (after, given_back before after t sound ready in_place, refl),
          ),
        ),
      ),
    )

-- any tile that can be taken may be swept in place: that is to take it, to sweep the job and to give that back
pub in_place_is_run : (before after : Core) (t : ℕ) → IsSound before → IsReady before t → IsSweptInPlace before t after
    → (swept : Swept) × IsRun before ((Take t, OfTake (Some swept.job)) ∷ (GiveBack swept, OfGiveBack Joined) ∷ [])
    after
in_place_is_run before after t sound ready in_place = (
  swept_as before t after.image,
  (
    taken before t,
    (ready, is_next before after t sound ready in_place, refl),
    (after, given_back before after t sound ready in_place, refl),
  ),
)

pub work_goes_on : (a b c : Core) (first second : List Entry) → IsWorkedOff a first b → IsWorkedOff b second c
    → IsWorkedOff a (first ++ second) c
work_goes_on a b c [] second same rest = subst (λ m. IsWorkedOff m second c) same rest
work_goes_on a b c (entry ∷ first) second (is_next, (next, happens, more)) rest =
    (is_next, (next, happens, work_goes_on next b c first second more rest))
