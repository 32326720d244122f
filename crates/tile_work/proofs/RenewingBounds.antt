-- Bounds that are widened where tiles are reset and where pixels rise.
use Rattle.std.proofs.Common.{◌≡◌, ℕ, ◌+◌, ◌-◌, ◌<◌, ◌≤◌, ◌⊎◌, true, List, length, refl, sym, ap, subst, ◌∙◌, arith}
use Rattle.std.proofs.Common.{get_or, inl, inr, take, ◌↔◌, slice_set, Contains}
use Rattle.std.proofs.{lemmas.Bool.cases_lt, lemmas.Bool.Decides.nat_tests, lemmas.List.take_more}
use Rattle.std.proofs.lemmas.List.Elements.{Contains-push_cases}
use Rattle.grid_core.specs.{declared.bounds.Bounds.Bounds, declared.conn.Conn.Conn, declared.pixel.Pixel.Pixel}
use Rattle.grid_core.specs.{declared.rect.Rect.Rect, Neighbours.AreNeighbours, Rects.IsInRect}
use Rattle.grid_core.specs.Bounds.{IsInBounds, LieIn, bounds_of, intersection, joined, wider}
use Rattle.grid_core.specs.Raster.{Raster, IsInside, value_at}
use Rattle.grid_core.specs.Tiles.{Tiles, IsTiled, AreTouching, count_of, tile_of, rect_of}
use Rattle.grid_core.specs.TileLaws.{EachPixelInOneTile, NeighboursLieInTouchingTiles}
use Rattle.grid_core.proofs.Pixels.{near}
use Rattle.border_queues.specs.OpenEdges.{IsOnTiling}
use Rattle.stroke_core.specs.{declared.span.Span.Span, Spans.span_has}
use Rattle.core_rules.specs.Merge.{HasRisen}
use Rattle.tile_work.specs.OpenBounds.{AreWidened, IsWithinItsBounds, bounds_for}
use Rattle.tile_work.specs.Renewing.{AreWidenedNear, AreResetsWithin, AreRisesWithin, IsMadeWhere, IsPiece, RisesWhere}
use Rattle.tile_work.specs.Renewing.{greater_value, span_bounds}
use Rattle.tile_work.proofs.OpenBoundsWidened.{widened_by_none, widened_twice, still_within, one_widened, within_added}
use Rattle.tile_work.proofs.RenewingRises.{corner_of, on_image, risen_is_tested, risen_in_piece, tile_of_piece}
use Rattle.tile_work.proofs.RenewingTiles.{touching_back}

-- ---- tiles that are widened near a reset one

in_both : (rect : Rect) (near : Bounds) (p : Pixel) → IsInRect rect p → IsInBounds near p
    → IsInBounds (intersection (bounds_of rect) near) p
in_both rect near p (left, right, top, bottom) (after, before, below, above) =
    (omega arith, omega arith, omega arith, omega arith)

-- the tiles up to one of the list are that one and those before it
pub listed_or_last : (tiles : List ℕ) (i t : ℕ) → i < length tiles → Contains (take (i + 1) tiles) t
    → Contains (take i tiles) t ⊎ (t ≡ get_or tiles i 0)
listed_or_last tiles i t within listed =
    elim (Contains-push_cases (take i tiles) (get_or tiles i 0) t
    (subst (λ (l : List ℕ). Contains l t) (take_more tiles i 0 within) listed)) [
      | inl earlier ↦ inl earlier
      | inr last ↦ inr (sym last)
    ]

-- one more tile is widened
pub one_more_near : {tiles : Tiles} {near : Bounds} {before after : ℕ → Type 0} {old middle new : List Bounds}
    {tile : ℕ} {added : Bounds} → AreWidenedNear tiles near before old middle → tile < length middle
    → added ≡ intersection (bounds_of (rect_of tiles tile)) near
    → new ≡ slice_set middle tile (joined (bounds_for middle tile) added)
    → ((t : ℕ) → after t → before t ⊎ (t ≡ tile)) → AreWidenedNear tiles near after old new
one_more_near {tiles} {near} {old = old} {middle} {new} {tile} {added} so_far there is_added is_new more =
    let part = intersection (bounds_of (rect_of tiles tile)) near in
    let part_lies : LieIn part (rect_of tiles tile) = (omega arith, omega arith, omega arith, omega arith) in
    let lies : LieIn added (rect_of tiles tile) =
    subst (λ (b : Bounds). LieIn b (rect_of tiles tile)) (sym is_added) part_lies in
    let widened : AreWidened tiles middle new = one_widened tiles middle new tile added there is_new lies in
    record {
      widened = widened_twice tiles old middle new so_far.widened widened;
      within = λ t p listed in_rect in_near. elim (more t listed) [
        | inl earlier ↦ still_within tiles middle new t p widened (so_far.within t p earlier in_rect in_near)
        | inr this ↦
            subst (λ u. IsInBounds (bounds_for new u) p) (sym this)
            (within_added tiles middle new tile added there is_new p
            (subst (λ (b : Bounds). IsInBounds b p) (sym is_added)
            (in_both (rect_of tiles tile) near p (subst (λ u. IsInRect (rect_of tiles u) p) this in_rect) in_near)))
      ];
    }

-- ---- a tile that is reset

-- a neighbour of a pixel of the rectangle lies within the bounds that are wider by one pixel
beside_rect : (rect : Rect) (conn : Conn) (p q : Pixel) → AreNeighbours conn p q → IsInRect rect q
    → IsInBounds (wider (bounds_of rect)) p
beside_rect rect conn p q beside (left, right, top, bottom) =
    let (columns, rows) = near conn p q beside in
    (omega arith, omega arith, omega arith, omega arith)

-- the tile is widened by its area, and those around it near the area
module _ (tiling : Tiles) (tile : ℕ) (area wide : Bounds) (old middle new : List Bounds) (around listed : List ℕ)
    (tiled : IsTiled tiling) (is_tile : tile < count_of tiling) (in_one : EachPixelInOneTile)
    (touch : NeighboursLieInTouchingTiles) (is_area : area ≡ bounds_of (rect_of tiling tile))
    (is_wide : wide ≡ wider area) (count : length old ≡ count_of tiling)
    (is_middle : middle ≡ slice_set old tile (joined (bounds_for old tile) area)) (is_listed : listed ≡ around)
    (members : (other : ℕ) → Contains around other ↔ (AreTouching tiling tile other × (other < count_of tiling)))
    (near_it : AreWidenedNear tiling wide (Contains listed) middle new) where
  there : tile < length old
  there = omega (arith, is_tile, count)

  in_tile : (p : Pixel) → IsInside tiling.width tiling.height p → tile_of tiling p ≡ tile
      → IsInRect (rect_of tiling tile) p
  in_tile p inside same = ((in_one tiling p tiled inside).1 tile is_tile).1 same

  area_lies : LieIn area (rect_of tiling tile)
  area_lies =
      let lies : LieIn (bounds_of (rect_of tiling tile)) (rect_of tiling tile) =
      (omega arith, omega arith, omega arith, omega arith) in
      subst (λ (b : Bounds). LieIn b (rect_of tiling tile)) (sym is_area) lies

  own_within : (p : Pixel) → IsInside tiling.width tiling.height p → tile_of tiling p ≡ tile
      → IsWithinItsBounds tiling new p
  own_within p inside same =
      still_within tiling middle new (tile_of tiling p) p near_it.widened
      (subst (λ t. IsInBounds (bounds_for middle t) p) (sym same)
      (within_added tiling old middle tile area there is_middle p
      (subst (λ (b : Bounds). IsInBounds b p) (sym is_area) (in_tile p inside same))))

  -- a pixel of a tile around it
  around_within : (p : Pixel) → IsInside tiling.width tiling.height p → AreTouching tiling (tile_of tiling p) tile
      → IsInBounds (wider (bounds_of (rect_of tiling tile))) p → IsWithinItsBounds tiling new p
  around_within p inside touching in_wider =
      let (is_one, which) = in_one tiling p tiled inside in
      let in_list : Contains listed (tile_of tiling p) =
      subst (λ (l : List ℕ). Contains l (tile_of tiling p)) (sym is_listed)
      ((members (tile_of tiling p)).1 (touching_back tiling (tile_of tiling p) tile touching, is_one)) in
      near_it.within (tile_of tiling p) p in_list ((which (tile_of tiling p) is_one).1 refl)
      (subst (λ (b : Bounds). IsInBounds b p) (sym (is_wide ∙ ap wider is_area)) in_wider)

  pub tile_reset_within : AreResetsWithin tiling (λ t. t ≡ tile) old new
  tile_reset_within = record {
    widened =
        widened_twice tiling old middle new
        (one_widened tiling old middle tile area there is_middle area_lies) near_it.widened;
    own = own_within;
    beside = λ conn p q in_p in_q beside marked. elim (touch tiling conn p q tiled in_p in_q beside) [
      | inl same ↦ own_within p in_p (same ∙ marked)
      | inr touching ↦
          around_within p in_p (subst (λ t. AreTouching tiling (tile_of tiling p) t) marked touching)
          (beside_rect (rect_of tiling tile) conn p q beside (in_tile q in_q marked))
    ];
  }

-- ---- tiles that are reset one after the other

pub none_within : {tiles : Tiles} {is_marked : ℕ → Type 0} {table : List Bounds} → ((t : ℕ) → is_marked t → ⊥)
    → AreResetsWithin tiles is_marked table table
none_within {tiles} {table = table} none = record {
  widened = widened_by_none tiles table;
  own = λ p _ marked. absurd (none (tile_of tiles p) marked);
  beside = λ conn p q _ _ _ marked. absurd (none (tile_of tiles q) marked);
}

-- tiles that are reset at first, and others that are later
pub resets_also : {tiles : Tiles} {a b both : ℕ → Type 0} {old middle new : List Bounds}
    → AreResetsWithin tiles a old middle → AreResetsWithin tiles b middle new → ((t : ℕ) → both t → a t ⊎ b t)
    → AreResetsWithin tiles both old new
resets_also {tiles} {old = old} {middle} {new} first second either = record {
  widened = widened_twice tiles old middle new first.widened second.widened;
  own = λ p inside marked. elim (either (tile_of tiles p) marked) [
    | inl earlier ↦ still_within tiles middle new (tile_of tiles p) p second.widened (first.own p inside earlier)
    | inr later ↦ second.own p inside later
  ];
  beside = λ conn p q in_p in_q beside marked. elim (either (tile_of tiles q) marked) [
    | inl earlier ↦
        still_within tiles middle new (tile_of tiles p) p second.widened
        (first.beside conn p q in_p in_q beside earlier)
    | inr later ↦ second.beside conn p q in_p in_q beside later
  ];
}

-- some of the marked tiles
pub resets_of_some : {tiles : Tiles} {a b : ℕ → Type 0} {old new : List Bounds} → AreResetsWithin tiles a old new
    → ((t : ℕ) → b t → a t) → AreResetsWithin tiles b old new
resets_of_some {tiles} resets part = record {
  widened = resets.widened;
  own = λ p inside marked. resets.own p inside (part (tile_of tiles p) marked);
  beside = λ conn p q in_p in_q beside marked.
      resets.beside conn p q in_p in_q beside (part (tile_of tiles q) marked);
}

-- ---- pixels that rise

pub none_rises : {tiles : Tiles} {image : Raster} {table : List Bounds} → AreRisesWithin tiles image image table table
none_rises {tiles} {table = table} = record {
  widened = widened_by_none tiles table;
  rises = λ p _ rose. absurd (omega (arith, rose));
}

pub rises_also : {tiles : Tiles} {old middle new : Raster} {before between after : List Bounds}
    → AreRisesWithin tiles old middle before between → AreRisesWithin tiles middle new between after
    → AreRisesWithin tiles old new before after
rises_also {tiles} {old} {middle} {before = before} {between} {after} first second = record {
  widened = widened_twice tiles before between after first.widened second.widened;
  rises = λ p inside rose. elim (cases_lt (value_at old p) (value_at middle p)) [
    | inl earlier ↦ still_within tiles between after (tile_of tiles p) p second.widened (first.rises p inside earlier)
    | inr not_earlier ↦ second.rises p inside (omega (arith, not_earlier, rose))
  ];
}

-- a span in one tile is raised, and the tile is widened by the span
module _ {tiling : Tiles} (piece : Span) {marker old new : Raster} (before : List Bounds) {after : List Bounds}
    {tile : ℕ} (on : IsOnTiling tiling old) (tiled : IsTiled tiling) (is_piece : IsPiece tiling piece)
    (in_one : EachPixelInOneTile) (is_tile : tile ≡ tile_of tiling (corner_of piece))
    (count : length before ≡ count_of tiling)
    (is_after : after ≡ slice_set before tile (joined (bounds_for before tile) (span_bounds piece)))
    (made : IsMadeWhere (span_has piece) greater_value marker old new) where
  -- a pixel of the span lies in the tile
  in_span : (p : Pixel) → span_has piece p ≡ true → tile_of tiling p ≡ tile
  in_span p has = tile_of_piece tiling piece p is_piece.side is_piece.tile has ∙ sym is_tile

  in_image : (p : Pixel) → span_has piece p ≡ true → IsInside tiling.width tiling.height p
  in_image p has =
      let row : p.y ≡ piece.y = grind (arith, nat_tests) in
      let below : p.x < piece.end = grind (arith, nat_tests) in
      (omega (arith, below, is_piece.columns), omega (arith, row, is_piece.row))

  tile_there : tile < count_of tiling
  tile_there =
      let has : span_has piece (corner_of piece) ≡ true = grind (arith, nat_tests, is_piece.some) in
      omega (arith, (in_one tiling (corner_of piece) tiled (in_image (corner_of piece) has)).0, is_tile)

  in_its_rect : (p : Pixel) → span_has piece p ≡ true → IsInRect (rect_of tiling tile) p
  in_its_rect p has = ((in_one tiling p tiled (in_image p has)).1 tile tile_there).1 (in_span p has)

  in_span_bounds : (p : Pixel) → span_has piece p ≡ true → IsInBounds (span_bounds piece) p
  in_span_bounds p has =
      let row : p.y ≡ piece.y = grind (arith, nat_tests) in
      let above : piece.first ≤ p.x = grind (arith, nat_tests) in
      let below : p.x < piece.end = grind (arith, nat_tests) in
      (omega arith, omega arith, omega arith, omega arith)

  span_lies : LieIn (span_bounds piece) (rect_of tiling tile)
  span_lies =
      let last : Pixel = record { x = piece.end - 1; y = piece.y } in
      let has_first : span_has piece (corner_of piece) ≡ true = grind (arith, nat_tests, is_piece.some) in
      let has_last : span_has piece last ≡ true = grind (arith, nat_tests, is_piece.some) in
      let first_in = in_its_rect (corner_of piece) has_first in
      let last_in = in_its_rect last has_last in (
        omega (arith, first_in.0),
        omega (arith, last_in.1, is_piece.some),
        omega (arith, first_in.2),
        omega (arith, first_in.3),
      )

  pub piece_rises_within : AreRisesWithin tiling old new before after
  piece_rises_within =
      let there : tile < length before = omega (arith, tile_there, count) in
      record {
        widened = one_widened tiling before after tile (span_bounds piece) there is_after span_lies;
        rises = λ p inside rose.
            let has =
            risen_is_tested (span_has piece p) (value_at old p) (value_at marker p) (value_at new p)
            (made.values p (on_image tiling old on p inside)) rose in
            subst (λ t. IsInBounds (bounds_for after t) p) (sym (in_span p has))
            (within_added tiling before after tile (span_bounds piece) there is_after p (in_span_bounds p has));
      }

-- no pixel of the span rises
pub piece_stays_within : {tiling : Tiles} (piece : Span) {marker old new : Raster} {table : List Bounds}
    → IsOnTiling tiling old → IsMadeWhere (span_has piece) greater_value marker old new
    → (RisesWhere (span_has piece) old new → ⊥) → AreRisesWithin tiling old new table table
piece_stays_within {tiling} piece {old = old} {new = new} {table = table} on made none = record {
  widened = widened_by_none tiling table;
  rises = λ p inside rose.
      let risen : HasRisen tiling (tile_of tiling p) old new =
      record { p = p; in_tile = record { inside = inside; tile = refl }; rose = rose } in
      absurd (none (risen_in_piece piece on made risen));
}
