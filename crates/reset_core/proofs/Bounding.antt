-- Bounds outside which nothing open begins stay so where they follow each change of the image.
use Rattle.std.proofs.Common.{◌≡◌, ℕ, ◌<◌, ◌≤◌, ◌⊎◌, false, true, Bool, List, [], length, replicate, set, arith, inl}
use Rattle.std.proofs.Common.{inr, refl, subst, sym, ◌∙◌, ◌≢◌, Contains}
use Rattle.std.proofs.lemmas.Bool.{cases_eq, cases_lt, false≢true}
use Rattle.std.proofs.lemmas.List.{get_or-replicate, get_or-set_same, get_or-set_other, length-set, length-replicate}
use Rattle.grid_core.specs.{declared.bounds.Bounds.Bounds, declared.conn.Conn.Conn, declared.pixel.Pixel.Pixel}
use Rattle.grid_core.specs.{Rects.IsInRect, Path.Inside}
use Rattle.grid_core.specs.Bounds.{IsInBounds, LieIn, bounds_at, joined, no_bounds}
use Rattle.grid_core.specs.Raster.{Raster, IsFilled, IsInside, index_of, value_at, with_value}
use Rattle.grid_core.specs.Tiles.{Tiles, IsTiled, count_of, rect_of, tile_of}
use Rattle.grid_core.proofs.{Cells.index_of-within, Cells.set_is_read, Cells.set_keeps_others, Pixels.same_pixel_or_not}
use Rattle.grid_core.proofs.{Tilings.each_pixel_in_one_tile, Tilings.tiles_lie_inside}
use Rattle.tile_work.proofs.OpenBoundsWidened.{widened_by_none, widened_twice}
use Rattle.tile_work.specs.Renewing.{AreMarkedReset, AreResetsWithin, AreRisesWithin, IsLowBeyond, IsRaisedByTags}
use Rattle.tile_work.specs.TileSet.{Has}
use Rattle.tile_work.specs.OpenBounds.{AreWidened, IsWithinItsBounds, bounds_for}
use Rattle.reset_core.specs.Bounding.{FollowChange, AreBounded}
use Rattle.border_queues.specs.{OpenEdges.EdgesBeginIn, OpenEdges.sender_by, TileWork.TileWork, TileWork.work_of}
use Rattle.raster_sweeps.specs.OpenBounds.{RiseWithin}
use Rattle.core_rules.specs.{Sweeps.tile_rect, Opening.blank, Invariant.IsSound, Runs.HasHints, Runs.NoneOut}
use Rattle.core_rules.specs.Image.{IsOfSize, IsOpen}
use Rattle.core_rules.specs.Work.{Core, domain, tiling, mask_at, image_at, IsTile}
use Rattle.stroke_lattice.specs.State.{State}

-- ---- the table

-- one tile's bounds are widened
pub widened_at : (tiles : Tiles) (table : List Bounds) (t : ℕ) (bounds : Bounds) → t < length table
    → LieIn bounds (rect_of tiles t) → AreWidened tiles table (set table t (joined (bounds_for table t) bounds))
widened_at tiles table t bounds within lies =
    let new : List Bounds = set table t (joined (bounds_for table t) bounds) in
    let here : bounds_for new t ≡ joined (bounds_for table t) bounds =
    get_or-set_same table t (joined (bounds_for table t) bounds) no_bounds within in
    record {
      count = length-set table t (joined (bounds_for table t) bounds);
      kept = λ u p within_u there. elim (cases_eq u t) [
        | inl same ↦
            let was : IsInBounds (bounds_for table t) p = subst (λ n. IsInBounds (bounds_for table n) p) same there in
            rw (same, here) (omega (arith, was.0), omega (arith, was.1), omega (arith, was.2), omega (arith, was.3))
        | inr other ↦ rw (get_or-set_other table t u (joined (bounds_for table t) bounds) no_bounds other) there
      ];
      lie = λ u within_u lay. elim (cases_eq u t) [
        | inl same ↦
            let was : LieIn (bounds_for table t) (rect_of tiles t) = rw same at lay in
            rw (same, here) (
              omega (arith, was.0, lies.0),
              omega (arith, was.1, lies.1),
              omega (arith, was.2, lies.2),
              omega (arith, was.3, lies.3),
            )
        | inr other ↦ rw (get_or-set_other table t u (joined (bounds_for table t) bounds) no_bounds other) lay
      ];
    }

-- ---- changes of the image

-- the image stays
pub follow_same : (tiles : Tiles) (conn : Conn) (image : Raster) (table : List Bounds)
    → FollowChange tiles conn image image table table
follow_same tiles conn image table = record {
  widened = widened_by_none tiles table;
  risen = λ p inside rose. absurd (omega (arith, rose));
  fallen = λ p q inside_p inside_q near fell. absurd (omega (arith, fell));
}

-- one change comes after another
pub follow_twice : (tiles : Tiles) (conn : Conn) (a b c : Raster) (old middle new : List Bounds) → IsTiled tiles
    → length old ≡ count_of tiles → FollowChange tiles conn a b old middle → FollowChange tiles conn b c middle new
    → FollowChange tiles conn a c old new
follow_twice tiles conn a b c old middle new tiled count first second =
    let keeps : (p : Pixel) → IsInside tiles.width tiles.height p → IsWithinItsBounds tiles middle p
    → IsWithinItsBounds tiles new p =
    λ p inside there. second.widened.kept (tile_of tiles p) p
    (omega (arith, (each_pixel_in_one_tile tiles p tiled inside).0, count, first.widened.count)) there in
    record {
      widened = widened_twice tiles old middle new first.widened second.widened;
      risen = λ p inside rose. elim (cases_lt (value_at a p) (value_at b p)) [
        | inl early ↦ keeps p inside (first.risen p inside early)
        | inr not ↦ second.risen p inside (omega (arith, rose, not))
      ];
      fallen = λ p q inside_p inside_q near fell. elim (cases_lt (value_at b q) (value_at a q)) [
        | inl early ↦ keeps p inside_p (first.fallen p q inside_p inside_q near early)
        | inr not ↦ second.fallen p q inside_p inside_q near (omega (arith, fell, not))
      ];
    }

-- the bounds of no pixel lie in each tile
pub none_lie : (tiles : Tiles) (t : ℕ) → IsTiled tiles → t < count_of tiles → LieIn no_bounds (rect_of tiles t)
none_lie tiles t tiled within =
    let fits = tiles_lie_inside tiles t tiled within in (
      omega (arith, fits.columns, tiled.size.width_within),
      omega arith,
      omega (arith, fits.rows, tiled.size.height_within),
      omega arith,
    )

-- where no pair is open, nothing open begins outside the bounds of no pixel
pub closed_bounded : (core : Core) (count : ℕ) → IsTiled (tiling core) → count ≡ count_of (tiling core)
    → ((p q : Pixel) → IsOpen (domain core) (mask_at core) (image_at core) p q → ⊥)
    → AreBounded core (replicate count no_bounds)
closed_bounded core count tiled same closed = record {
  count = length-replicate count no_bounds ∙ same;
  lie = λ t within.
      let there : t < count = omega (arith, within, length-replicate count no_bounds) in
      subst (λ b. LieIn b (rect_of (tiling core) t)) (sym (get_or-replicate count t no_bounds no_bounds there))
      (none_lie (tiling core) t tiled (omega (arith, there, same)));
  begin = λ p q wide. absurd (closed p q wide);
}

-- where the image is 0 everywhere, no pair is open
pub none_bounded : (core : Core) (count : ℕ) → IsTiled (tiling core) → count ≡ count_of (tiling core)
    → ((p : Pixel) → Inside (domain core) p → image_at core p ≡ 0) → AreBounded core (replicate count no_bounds)
none_bounded core count tiled same black =
    closed_bounded core count tiled same (λ p q wide. omega (arith, wide.lower, black p wide.from_inside))

module _ (tiles : Tiles) (conn : Conn) (image : Raster) (table : List Bounds) (q : Pixel) (value t : ℕ)
    (tiled : IsTiled tiles) (count : length table ≡ count_of tiles) (filled : IsFilled image)
    (width : image.width ≡ tiles.width) (height : image.height ≡ tiles.height)
    (inside : IsInside tiles.width tiles.height q) (home : tile_of tiles q ≡ t) (rose : value_at image q < value) where
  inside_image : (p : Pixel) → IsInside tiles.width tiles.height p → IsInside image.width image.height p
  inside_image p there = (omega (arith, there.0, width), omega (arith, there.1, height))

  home_within : t < count_of tiles
  home_within = subst (λ n. n < count_of tiles) home (each_pixel_in_one_tile tiles q tiled inside).0

  in_home : IsInRect (rect_of tiles t) q
  in_home = ((each_pixel_in_one_tile tiles q tiled inside).1 t home_within).1 home

  abbrev at : Bounds
  at = joined no_bounds (bounds_at q)

  at_lies : LieIn at (rect_of tiles t)
  at_lies = (
    omega (arith, in_home.0, inside.0, tiled.size.width_within),
    omega (arith, in_home.1),
    omega (arith, in_home.2, inside.1, tiled.size.height_within),
    omega (arith, in_home.3),
  )

  only_rise : (p : Pixel) → IsInside tiles.width tiles.height p
      → (p ≡ q) ⊎ (value_at (with_value image q value) p ≡ value_at image p)
  only_rise p there = elim (same_pixel_or_not p q) [
    | inl same ↦ inl same
    | inr other ↦ inr (set_keeps_others image q p value (inside_image q inside) (inside_image p there) other)
  ]

  -- a pixel is raised, and its tile's bounds are widened by it
  pub follow_rise : FollowChange tiles conn image (with_value image q value) table
      (set table t (joined (bounds_for table t) (joined no_bounds (bounds_at q))))
  follow_rise =
      let new : List Bounds = set table t (joined (bounds_for table t) at) in
      let within : t < length table = omega (arith, home_within, count) in
      let here : bounds_for new t ≡ joined (bounds_for table t) at =
      get_or-set_same table t (joined (bounds_for table t) at) no_bounds within in
      record {
        widened = widened_at tiles table t at within at_lies;
        risen = λ p there more. elim (only_rise p there) [
          | inl same ↦
              rw (same, home, here) (omega arith, omega (arith, inside.0), omega arith, omega (arith, inside.1))
          | inr stays ↦ absurd (omega (arith, more, stays))
        ];
        fallen = λ p r there there_r near fell. elim (only_rise r there_r) [
          | inl same ↦
              let now : value_at (with_value image q value) q ≡ value =
              set_is_read image q value filled (inside_image q inside) in
              let less : value_at (with_value image q value) q < value_at image q = rw same at fell in
              absurd (omega (arith, less, now, rose))
          | inr stays ↦ absurd (omega (arith, fell, stays))
        ];
      }

-- ---- a merge

-- tiles are reset: a pixel that rises lies in one of them, and one that falls too
pub follow_resets : (tiles : Tiles) (conn : Conn) (marks : List Bool) (marker old new : Raster)
    (work after : List TileWork) (before table : List Bounds) → IsTiled tiles → length work ≡ count_of tiles
    → AreMarkedReset tiles marks marker old new work after → AreResetsWithin tiles (Has marks) before table
    → FollowChange tiles conn old new before table
follow_resets tiles conn marks marker old new work after before table tiled count reset within =
    let stays : (p : Pixel) → IsInside tiles.width tiles.height p
    → Has marks (tile_of tiles p) ⊎ (value_at new p ≡ value_at old p) =
    λ p inside. elim (reset.each (tile_of tiles p)
    (omega (arith, (each_pixel_in_one_tile tiles p tiled inside).0, count))) [
      | inl marked ↦ inl marked.0
      | inr kept ↦ inr (kept.1.values p (record { inside = inside; tile = refl }))
    ] in
    record {
      widened = within.widened;
      risen = λ p inside rose. elim (stays p inside) [
        | inl marked ↦ within.own p inside marked
        | inr same ↦ absurd (omega (arith, rose, same))
      ];
      fallen = λ p q inside_p inside_q near fell. elim (stays q inside_q) [
        | inl marked ↦ within.beside conn p q inside_p inside_q near marked
        | inr same ↦ absurd (omega (arith, fell, same))
      ];
    }

-- where the marker was low beside some strokes it is so behind the resets, which make the image the marker
pub low_after_resets : (tiles : Tiles) (marks : List Bool) (s : State) (tags : List ℕ) (marker old new : Raster)
    (work after : List TileWork) → IsTiled tiles → old.width ≡ tiles.width → old.height ≡ tiles.height
    → length work ≡ count_of tiles → AreMarkedReset tiles marks marker old new work after
    → IsLowBeyond s tags marker old → IsLowBeyond s tags marker new
low_after_resets tiles marks s tags marker old new work after tiled width height count reset low p inside out =
    let was : IsInside old.width old.height p = omega (arith, reset.size.width, reset.size.height) in
    let within : IsInside tiles.width tiles.height p = (omega (arith, was.0, width), omega (arith, was.1, height)) in
    elim (reset.each (tile_of tiles p) (omega (arith, (each_pixel_in_one_tile tiles p tiled within).0, count))) [
      | inl marked ↦ omega (arith, marked.1.image p (record { inside = within; tile = refl }))
      | inr kept ↦
          let same = kept.1.values p (record { inside = within; tile = refl }) in
          omega (arith, same, low p was out)
    ]

-- where strokes are born the image falls nowhere
pub births_rise : (tiles : Tiles) (tags : List ℕ) (state : State) (marker old new : Raster) (work after : List TileWork)
    → old.width ≡ tiles.width → old.height ≡ tiles.height → IsRaisedByTags tiles tags state marker old new work after
    → (p : Pixel) → IsInside tiles.width tiles.height p → value_at old p ≤ value_at new p
births_rise tiles tags state marker old new work after width height raised p inside =
    elim (cases_lt (value_at new p) (value_at old p)) [
      | inr high ↦ high
      | inl fell ↦
          let here : IsInside old.width old.height p =
          (omega (arith, inside.0, width), omega (arith, inside.1, height)) in
          let same : value_at new p ≡ value_at old p =
          raised.values.beyond p here (λ under. absurd (omega (arith, raised.values.under p here under, fell))) in
          absurd (omega (arith, same, fell))
    ]

-- an image rises, and none of it falls
pub follow_rises : (tiles : Tiles) (conn : Conn) (old new : Raster) (before table : List Bounds)
    → ((p : Pixel) → IsInside tiles.width tiles.height p → value_at old p ≤ value_at new p)
    → AreRisesWithin tiles old new before table → FollowChange tiles conn old new before table
follow_rises tiles conn old new before table rises within = record {
  widened = within.widened;
  risen = within.rises;
  fallen = λ p q inside_p inside_q near fell. absurd (omega (arith, fell, rises q inside_q));
}

-- an image of zeros is 0 at each pixel
pub blank_is_black : (mask : Raster) (p : Pixel) → IsFilled mask → IsInside mask.width mask.height p
    → value_at (blank mask) p ≡ 0
blank_is_black mask p filled inside =
    get_or-replicate (length mask.cells) (index_of mask.width p) 0 0 (index_of-within mask p filled inside)

-- ---- a tile that is swept in place

-- once a tile has grown, an open edge of it begins at a pixel that lay within its bounds or has risen
pub edges_begin : (core : Core) (table : List Bounds) (t generation : ℕ) (grown : Raster) (area : Bounds)
    → IsTiled (tiling core) → IsOfSize core.mask core.image → AreBounded core table → t < count_of (tiling core)
    → ((p : Pixel) → IsInside core.image.width core.image.height p
    → (IsInRect (tile_rect core t) p → ⊥) → value_at grown p ≡ image_at core p)
    → RiseWithin (tile_rect core t) core.image grown (bounds_for table t) area
    → EdgesBeginIn (sender_by (tiling core) core.conn (mask_at core) (value_at grown) t generation) area
edges_begin core table t generation grown area tiled size bounded within beyond rise p q edge =
    let in_rect : IsInRect (tile_rect core t) p =
    ((each_pixel_in_one_tile (tiling core) p tiled edge.from_inside).1 t within).1 edge.from_tile in
    elim (cases_eq (value_at grown p) (image_at core p)) [
      | inr changed ↦ rise p in_rect (inr changed)
      | inl stays ↦
          let other : value_at grown q ≡ image_at core q =
          beyond q (omega (arith, edge.to_inside.0, size.width), omega (arith, edge.to_inside.1, size.height)) (λ found.
          edge.to_other (((each_pixel_in_one_tile (tiling core) q tiled edge.to_inside).1 t within).0 found)) in
          rise p in_rect (inl (rw edge.from_tile at (bounded.begin p q (record {
            from_inside = edge.from_inside;
            to_inside = edge.to_inside;
            beside = edge.beside;
            lower = omega (arith, edge.lower, stays, other);
          }))))
    ]

module _ (before : Core) (t : ℕ) (grown image : Raster) (rows : List TileWork) (serial : ℕ) (table told : List Bounds)
    (sound : IsSound before) (done : IsSound (record before { image = image; tiles = rows; serial = serial }))
    (bounded : AreBounded before table) (within : t < count_of (tiling before))
    (beyond : (p : Pixel) → IsInside before.image.width before.image.height p
    → (IsInRect (rect_of (tiling before) t) p → ⊥) → value_at grown p ≡ image_at before p)
    (rises : (p : Pixel) → Inside (domain before) p → image_at before p ≤ value_at grown p)
    (clean : (work_of rows t).dirty ≡ false)
    (none_out : NoneOut (record before { image = image; tiles = rows; serial = serial }))
    (no_hints : (u : ℕ) → HasHints (record before { image = image; tiles = rows; serial = serial }) u → ⊥)
    (follow : FollowChange (tiling before) before.conn grown image (set table t no_bounds) told) where
  abbrev after : Core
  after = record before { image = image; tiles = rows; serial = serial }

  tiled : IsTiled (tiling before)
  tiled = sound.shape.tiled

  its_tile : (p : Pixel) → Inside (domain before) p → tile_of (tiling before) p < count_of (tiling before)
  its_tile p inside = (each_pixel_in_one_tile (tiling before) p tiled inside).0

  is_tile : (p : Pixel) → Inside (domain before) p → IsTile after (tile_of (tiling before) p)
  is_tile p inside = omega (arith, its_tile p inside, done.shape.tiles)

  -- no work is left that would close a pair that begins in the tile, so none is open
  none_begins : (p q : Pixel) → IsOpen (domain before) (mask_at before) (value_at image) p q
      → tile_of (tiling before) p ≡ t → ⊥
  none_begins p q wide home =
      elim (done.work p q wide) [
        | inl dirty ↦ false≢true (sym clean ∙ subst (λ n. (work_of rows n).dirty ≡ true) home dirty)
        | inr rest ↦ elim rest [
          | inl out ↦ out (none_out (tile_of (tiling before) p) (is_tile p wide.from_inside))
          | inr hint ↦
              no_hints (tile_of (tiling before) q) (
                is_tile q wide.to_inside,
                λ empty.
                    let none : Contains [] hint.hint = subst (λ hs. Contains hs hint.hint) empty hint.waits in
                    absurd (omega (arith, none.1)),
              )
        ]
      ]

  -- a pair that begins in another tile was open before, or its first pixel rose by a hint
  begins_elsewhere : (p q : Pixel) → IsOpen (domain before) (mask_at before) (value_at image) p q
      → tile_of (tiling before) p ≢ t → IsWithinItsBounds (tiling before) told p
  begins_elsewhere p q wide away =
      let u : ℕ = tile_of (tiling before) p in
      elim (cases_lt (value_at grown p) (value_at image p)) [
        | inl rose ↦ follow.risen p wide.from_inside rose
        | inr low ↦ elim (cases_lt (value_at image q) (value_at grown q)) [
          | inl fell ↦ follow.fallen p q wide.from_inside wide.to_inside wide.beside fell
          | inr high ↦
              let shape = sound.shape.image in
              let own : value_at grown p ≡ image_at before p =
              beyond p (omega (arith, wide.from_inside.0, shape.width), omega (arith, wide.from_inside.1, shape.height))
              (λ found.
              away (((each_pixel_in_one_tile (tiling before) p tiled wide.from_inside).1 t within).0 found)) in
              let was : IsWithinItsBounds (tiling before) table p =
              bounded.begin p q (record {
                from_inside = wide.from_inside;
                to_inside = wide.to_inside;
                beside = wide.beside;
                lower = omega (arith, wide.lower, low, high, own, rises q wide.to_inside);
              }) in
              follow.widened.kept u p
              (omega (arith, its_tile p wide.from_inside, bounded.count, length-set table t no_bounds))
              (subst (λ b. IsInBounds b p) (sym (get_or-set_other table t u no_bounds no_bounds away)) was)
        ]
      ]

  -- once a tile is swept and its hints are handed over, nothing open begins in it, so it needs no bounds; elsewhere the
  -- bounds have followed what the hints raised
  pub swept_bounded : AreBounded after told
  swept_bounded = record {
    count = follow.widened.count ∙ length-set table t no_bounds ∙ bounded.count;
    lie = λ u there.
        let was : u < length (set table t no_bounds) = omega (arith, there, follow.widened.count) in
        follow.widened.lie u was (elim (cases_eq u t) [
          | inl same ↦
              rw (same, get_or-set_same table t no_bounds no_bounds (omega (arith, within, bounded.count)))
              (none_lie (tiling before) t tiled within)
          | inr other ↦
              rw (get_or-set_other table t u no_bounds no_bounds other)
              (bounded.lie u (omega (arith, was, length-set table t no_bounds)))
        ]);
    begin = λ p q wide. elim (cases_eq (tile_of (tiling before) p) t) [
      | inl home ↦ absurd (none_begins p q wide home)
      | inr away ↦ begins_elsewhere p q wide away
    ];
  }
