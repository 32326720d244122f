-- Bounds outside which an open pair begins only where a hint waits for it: they stay so where they follow each change
-- of the image, and where each hint for a pair that is open still is as good as it was.
use Rattle.std.proofs.Common.{◌≡◌, ℕ, ◌-◌, ◌<◌, ◌≤◌, ◌⊎◌, ◌≢◌, List, [], length, arith, inl, inr, refl, subst, sym, ap}
use Rattle.std.proofs.Common.{◌∙◌, Contains}
use Rattle.std.proofs.lemmas.Bool.{cases_eq, cases_lt}
use Rattle.grid_core.specs.{declared.bounds.Bounds.Bounds, declared.pixel.Pixel.Pixel}
use Rattle.grid_core.specs.{declared.rect.Rect.Rect, Bounds.AreEmpty, Bounds.IsInBounds, Bounds.LieIn}
use Rattle.grid_core.specs.{Bounds.no_bounds, Path.Inside}
use Rattle.grid_core.specs.Raster.{Raster, IsInside, value_at}
use Rattle.grid_core.specs.{Rects.in_image, Rects.part, Tiles.IsTiled, Tiles.count_of, Tiles.rect_of, Tiles.tile_of}
use Rattle.grid_core.proofs.{Pixels.same_pixel, Tilings.each_pixel_in_one_tile, Tilings.tile_pixels}
use Rattle.border_queues.specs.{Laws.EdgesAreOpen, TileWork.TileWork}
use Rattle.stroke_lattice.specs.State.{State}
use Rattle.tile_generations.specs.Jobs.{AreBoundsOf, Job, Swept, IsSwept, all_of}
use Rattle.raster_sweeps.specs.OpenBounds.{OpenPairsBeginIn}
use Rattle.raster_sweeps.proofs.Whole.{whole_part}
use Rattle.tile_work.specs.OpenBounds.{IsWithinItsBounds, bounds_for}
use Rattle.core_rules.specs.{Image.IsOpen, Image.IsPart, Invariant.HasHint, Invariant.IsSound, Runs.HasHints}
use Rattle.core_rules.specs.Work.{Core, domain, tiling, mask_at, image_at}
use Rattle.core_rules.specs.Sweeps.{IsJoined, IsKnown, tile_rect}
use Rattle.core_rules.proofs.Cores.{changed, tile_of_pixel}
use Rattle.core_rules.proofs.Joining.{above_swept, local, open_elsewhere, placed}
use Rattle.core_rules.proofs.{Joining.told_elsewhere, Joining.told_outside, Supporting.neighbours_in_image}
use Rattle.reset_core.specs.Bounding.{AreBounded, AreBoundedOrTold, AreCountedFrom, FollowChange, IsTold}
use Rattle.reset_core.proofs.Bounding.{follow_same}

-- bounds outside which nothing open begins
pub told_of_bounded : (core : Core) (table : List Bounds) → AreBounded core table → AreBoundedOrTold core table
told_of_bounded core table bounded = record {
  count = bounded.count;
  lie = bounded.lie;
  begin = λ p q pair. inl (bounded.begin p q pair);
}

-- where no hint waits, nothing open begins outside them
pub bounded_without_hints : (core : Core) (table : List Bounds) → IsSound core → ((u : ℕ) → HasHints core u → ⊥)
    → AreBoundedOrTold core table → AreBounded core table
bounded_without_hints core table sound none bounded = record {
  count = bounded.count;
  lie = bounded.lie;
  begin = λ p q pair. elim (bounded.begin p q pair) [
    | inl within ↦ within
    | inr told ↦
        let hint = told.hint in
        absurd (none (tile_of (tiling core) q) (
          tile_of_pixel core q sound.shape pair.to_inside,
          λ empty.
              let gone : Contains [] hint.hint = subst (λ hs. Contains hs hint.hint) empty hint.waits in
              absurd (omega (arith, gone.1)),
        ))
  ];
}

-- ---- changes of the image

module _ (before : Core) (image : Raster) (state : State) (rows : List TileWork) (serial : ℕ) (old new : List Bounds)
    (tiled : IsTiled (tiling before)) (bounded : AreBoundedOrTold before old)
    (follow : FollowChange (tiling before) before.conn before.image image old new) where
  abbrev core_then : Core
  core_then = record before { state = state; image = image; tiles = rows; serial = serial }

  -- the bounds follow the change, and a hint for a pair that is open still, and whose first pixel did not rise, is as
  -- good as it was, or the pixel is within the bounds now
  pub told_still : ((p q : Pixel) → IsOpen (domain before) (mask_at before) (value_at image) p q
      → value_at image p ≤ image_at before p → HasHint before p q
      → IsWithinItsBounds (tiling before) new p ⊎ HasHint core_then p q) → AreBoundedOrTold core_then new
  told_still keeps = record {
    count = follow.widened.count ∙ bounded.count;
    lie = λ t within.
        let was : t < length old = omega (arith, within, follow.widened.count) in
        follow.widened.lie t was (bounded.lie t was);
    begin = λ p q wide. elim (cases_lt (image_at before p) (value_at image p)) [
      | inl rose ↦ inl (follow.risen p wide.from_inside rose)
      | inr low ↦ elim (cases_lt (value_at image q) (image_at before q)) [
        | inl fell ↦ inl (follow.fallen p q wide.from_inside wide.to_inside wide.beside fell)
        | inr high ↦
            elim (bounded.begin p q (record {
              from_inside = wide.from_inside;
              to_inside = wide.to_inside;
              beside = wide.beside;
              lower = omega (arith, wide.lower, low, high);
            })) [
              | inl within ↦
                  inl (follow.widened.kept (tile_of (tiling before) p) p
                  (omega (arith, (each_pixel_in_one_tile (tiling before) p tiled wide.from_inside).0, bounded.count))
                  within)
              | inr told ↦ elim (keeps p q wide low told.hint) [
                | inl within ↦ inl within
                | inr hint ↦ inr (record { other = told.other; hint = hint })
              ]
            ]
      ]
    ];
  }

-- the image stays, and each hint is as good as it was
pub told_alike : (before : Core) (rows : List TileWork) (serial : ℕ) (table : List Bounds) → IsTiled (tiling before)
    → AreBoundedOrTold before table
    → ((p q : Pixel) → HasHint before p q → HasHint (record before { tiles = rows; serial = serial }) p q)
    → AreBoundedOrTold (record before { tiles = rows; serial = serial }) table
told_alike before rows serial table tiled bounded keeps =
    told_still before before.image before.state rows serial table table tiled bounded
    (follow_same (tiling before) before.conn before.image table) (λ p q pair low told. inr (keeps p q told))

-- ---- a swept tile that is joined

module _ (before after : Core) (swept : Swept) (sound : IsSound before) (is_swept : IsSwept swept)
    (known : IsKnown before swept.job) (joined : IsJoined before swept after) (edges_open : EdgesAreOpen)
    (below : (p : Pixel) → Inside (local swept) p
    → value_at swept.job.base p ≤ image_at before (placed before swept p)) (table : List Bounds)
    (bounded : AreBoundedOrTold before table) where
  abbrev now : Core
  now = changed before after.image after.tiles before.serial

  abbrev its_tile : ℕ
  its_tile = swept.job.ticket.tile

  -- the tile gets bounds that lie in it, and have each pixel that was above what the sweep gave
  module _ (new : List Bounds) (area : Bounds) (count : length new ≡ length table)
      (others : (u : ℕ) → u ≢ its_tile → bounds_for new u ≡ bounds_for table u) (own : bounds_for new its_tile ≡ area)
      (lie : LieIn area (rect_of (tiling before) its_tile))
      (above : (p : Pixel) → Inside (local swept) p
      → value_at swept.pixels p < image_at before (placed before swept p)
      → IsInBounds area (placed before swept p)) where
    begins_elsewhere : (p q : Pixel) → tile_of (tiling before) p ≢ its_tile
        → IsOpen (domain before) (mask_at before) (image_at after) p q
        → IsWithinItsBounds (tiling before) new p ⊎ IsTold now p q
    begins_elsewhere p q away pair =
        let was = open_elsewhere before after swept sound is_swept known joined edges_open below p q away pair in
        elim (bounded.begin p q was) [
          | inl there ↦ inl (subst (λ b. IsInBounds b p) (sym (others (tile_of (tiling before) p) away)) there)
          | inr told ↦ inr (record {
            other = told.other;
            hint = told_elsewhere before after swept sound is_swept known joined edges_open below p q away
                pair.from_inside pair.to_inside told.hint;
          })
        ]

    -- an open pair of the tile's pixels begins at one that was above what the sweep gave
    begins_inside : (p q : Pixel) → tile_of (tiling before) p ≡ its_tile → tile_of (tiling before) q ≡ its_tile
        → IsOpen (domain before) (mask_at before) (image_at after) p q → IsWithinItsBounds (tiling before) new p
    begins_inside p q home here pair =
        let (a, inside_a, is_a, high) =
        above_swept before after swept sound is_swept known joined edges_open below p q pair home here in
        let high_there : value_at swept.pixels a < image_at before (placed before swept a) =
        subst (λ (r : Pixel). value_at swept.pixels a < image_at before r) (sym is_a) high in
        let there : IsInBounds area p = subst (λ (r : Pixel). IsInBounds area r) is_a (above a inside_a high_there) in
        let at : bounds_for new (tile_of (tiling before) p) ≡ area =
        subst (λ n. bounds_for new n ≡ area) (sym home) own in
        subst (λ b. IsInBounds b p) (sym at) there

    -- each open pair that leads out of the tile has been told
    pub joined_bounded : AreBoundedOrTold now new
    joined_bounded = record {
      count = count ∙ bounded.count;
      lie = λ u there.
          let was : u < length table = omega (arith, there, count) in
          elim (cases_eq u its_tile) [
            | inl same ↦
                subst (λ n. LieIn (bounds_for new n) (rect_of (tiling before) n)) (sym same)
                (subst (λ b. LieIn b (rect_of (tiling before) its_tile)) (sym own) lie)
            | inr other ↦
                subst (λ b. LieIn b (rect_of (tiling before) u)) (sym (others u other)) (bounded.lie u was)
          ];
      begin = λ p q pair. elim (cases_eq (tile_of (tiling before) p) its_tile) [
        | inr away ↦ begins_elsewhere p q away pair
        | inl home ↦ elim (cases_eq (tile_of (tiling before) q) its_tile) [
          | inl here ↦ inl (begins_inside p q home here pair)
          | inr out ↦ inr (record {
            other = λ equal. out (equal ∙ home);
            hint = told_outside before after swept sound is_swept known joined edges_open below p q home out pair;
          })
        ]
      ];
    }

-- ---- a tile of which a job is taken

-- a pair that is open in a tile begins within the tile's bounds
pub begins_in_tile : (core : Core) (table : List Bounds) (t : ℕ) → IsTiled (tiling core) → AreBoundedOrTold core table
    → t < count_of (tiling core)
    → OpenPairsBeginIn core.conn (tile_rect core t) core.mask core.image (bounds_for table t)
begins_in_tile core table t tiled bounded within p q wide =
    let rect : Rect = tile_rect core t in
    let from = (tile_pixels (tiling core) t (in_image rect p) tiled within).1 (p, wide.from_inside, refl) in
    let to = (tile_pixels (tiling core) t (in_image rect q) tiled within).1 (q, wide.to_inside, refl) in
    elim (bounded.begin (in_image rect p) (in_image rect q) (record {
      from_inside = from.0;
      to_inside = to.0;
      beside = neighbours_in_image core.conn rect p q wide.beside;
      lower = wide.lower;
    })) [
      | inl there ↦ rw from.1 at there
      | inr told ↦ absurd (told.other (to.1 ∙ sym from.1))
    ]

-- bounds counted from a rectangle's upper left corner, those of no pixel and others
pub none_counted : (rect : Rect) (bounds : Bounds) → AreEmpty bounds → AreCountedFrom rect bounds no_bounds
none_counted rect bounds empty = record {
  lie = (omega arith, omega arith, omega arith, omega arith);
  kept = λ p there. elim empty [
    | inl thin ↦ absurd (omega (arith, thin, there.0, there.1))
    | inr flat ↦ absurd (omega (arith, flat, there.2, there.3))
  ];
}

pub moved_counted : (rect : Rect) (bounds : Bounds) → LieIn bounds rect → AreCountedFrom rect bounds (record {
  left = bounds.left - rect.x;
  right = bounds.right - rect.x;
  top = bounds.top - rect.y;
  bottom = bounds.bottom - rect.y;
})
moved_counted rect bounds lies = record {
  lie = (omega arith, omega (arith, lies.1), omega arith, omega (arith, lies.3));
  kept = λ p there. (
    omega (arith, there.0),
    omega (arith, there.1),
    omega (arith, there.2),
    omega (arith, there.3),
  );
}

module _ (core : Core) (t : ℕ) (job : Job) (table : List Bounds) (counted : Bounds) (sound : IsSound core)
    (bounded : AreBoundedOrTold core table) (within : t < count_of (tiling core)) (conn_is : job.conn ≡ core.conn)
    (of_image : IsPart (tile_rect core t) core.image job.base)
    (of_mask : IsPart (tile_rect core t) core.mask job.mask)
    (moved : AreCountedFrom (tile_rect core t) (bounds_for table t) counted) where
  abbrev its_rect : Rect
  its_rect = tile_rect core t

  -- the part of an image in all of it is the image
  in_all : (f : Pixel → ℕ) (p : Pixel) → part (all_of job.mask) f p ≡ f p
  in_all f p = ap (λ (g : Pixel → ℕ). g p) (whole_part job.mask.width job.mask.height f)

  job_begins : OpenPairsBeginIn core.conn (all_of job.mask) job.mask job.base counted
  job_begins p q pair =
      let from : IsInside its_rect.w its_rect.h p =
      (omega (arith, pair.from_inside.0, of_mask.width), omega (arith, pair.from_inside.1, of_mask.height)) in
      let to : IsInside its_rect.w its_rect.h q =
      (omega (arith, pair.to_inside.0, of_mask.width), omega (arith, pair.to_inside.1, of_mask.height)) in
      let there = begins_in_tile core table t sound.shape.tiled bounded within p q (record {
        from_inside = from;
        to_inside = to;
        beside = pair.beside;
        lower = omega (
          arith,
          pair.lower,
          in_all (value_at job.base) p,
          in_all (value_at job.base) q,
          in_all (value_at job.mask) q,
          of_image.values p from,
          of_image.values q to,
          of_mask.values q to,
        );
      }) in
      subst (IsInBounds counted) (sym (same_pixel (in_image (all_of job.mask) p) p (omega arith) (omega arith)))
      (moved.kept p there)

  -- the bounds of a tile are those of a job on it
  pub job_bounds : AreBoundsOf job counted
  job_bounds = record {
    lie = (
      omega (arith, moved.lie.0),
      omega (arith, moved.lie.1, of_mask.width),
      omega (arith, moved.lie.2),
      omega (arith, moved.lie.3, of_mask.height),
    );
    begin =
        subst (λ conn. OpenPairsBeginIn conn (all_of job.mask) job.mask job.base counted) (sym conn_is) job_begins;
  }
