-- Pixels outside the bounds tell nothing.
use Rattle.std.proofs.Common.{◌≡◌, ℕ, zero, suc, ◌+◌, ◌-◌, ◌<◌, ◌≤◌, List, [], ◌++◌, map, ap, sym, ◌∙◌, inl, inr, arith}
use Rattle.std.proofs.Common.{flat_map}
use Rattle.std.proofs.lemmas.Bool.{cases_lt}
use Rattle.std.specs.List.{range_with_len}
use Rattle.grid_core.specs.{declared.bounds.Bounds.Bounds, declared.pixel.Pixel.Pixel, Bounds.IsInBounds}
use Rattle.grid_core.specs.{Bounds.bounds_of, Raster.IsInside, RasterLaws.NeighboursByRows, Rects.IsInRect}
use Rattle.grid_core.specs.{Rows.rows_around, TileLaws.EachPixelInOneTile, Tiles.IsTiled, Tiles.count_of, Tiles.rect_of}
use Rattle.border_queues.specs.{declared.border.Border.Border, declared.hint.Hint.Hint}
use Rattle.border_queues.specs.OpenEdges.{Sender, EdgesBeginIn, hint_to, is_open, hints_from}
use Rattle.border_queues.specs.Borders.{sender_of, hints_of_row, hints_of_all, IsBorder}
use Rattle.grid_core.proofs.Common.{not_true}
use Rattle.border_queues.proofs.{EdgesOpen.open_tells, Interior.filter_none, Interior.none_told, Told.by_columns}
use Rattle.border_queues.proofs.{Told.by_rows}

-- a pixel of the tile outside the bounds tells nothing
pub outside_tells_none : (b : Border) (p : Pixel) → IsBorder b → NeighboursByRows → IsInRect b.rect p
    → (IsInBounds b.bounds p → ⊥) → hints_from (sender_of b) p ≡ []
outside_tells_none b p border by_rows found outside =
    let s = sender_of b in
    let inside : IsInside b.tiling.width b.tiling.height p =
    (omega (arith, found, border.fits.columns), omega (arith, found, border.fits.rows)) in
    let around = by_rows b.conn b.tiling.width b.tiling.height p inside in
    ap (map (hint_to s (s.image p))) (filter_none (is_open s (s.image p))
    (rows_around b.conn b.tiling.width b.tiling.height p) (λ q there.
    let beside = (around.0 q).0 there in
    not_true (is_open s (s.image p) q) (λ passes.
    let told = open_tells s (s.image p) q passes in
    outside (border.begin p q (record {
      from_inside = inside;
      from_tile = (border.own p inside).0 found;
      to_inside = beside.1;
      to_other = told.0;
      beside = beside.0;
      lower = told.1;
    })))))

-- where numbers before the first and from the last on tell nothing, those between tell as much as all
told_between : (f : ℕ → List Hint) (a n from to : ℕ) → a ≤ from → to ≤ a + n
    → ((k : ℕ) → a ≤ k → k < a + n → ((from ≤ k) × (k < to) → ⊥) → f k ≡ [])
    → flat_map f (range_with_len from (to - from)) ≡ flat_map f (range_with_len a n)
told_between f a zero from to low high none =
    let nothing : to - from ≡ 0 = omega arith in
    ap (λ m. flat_map f (range_with_len from m)) nothing
told_between f a (suc n) from to low high none = elim (cases_lt a from) [
  | inl before ↦
      told_between f (a + 1) n from to (omega arith) (omega arith) (λ k above below outside.
      none k (omega arith) (omega arith) outside)
      ∙ sym (ap (λ hs. hs ++ flat_map f (range_with_len (a + 1) n))
      (none a (omega arith) (omega arith) (λ within. omega (arith, within))))
  | inr at ↦ elim (cases_lt a to) [
    | inl within ↦
        let first : from ≡ a = omega arith in
        let more : to - a ≡ suc (to - (a + 1)) = omega arith in
        ap (λ k. flat_map f (range_with_len k (to - k))) first
        ∙ ap (λ m. flat_map f (range_with_len a m)) more
        ∙ ap (λ hs. f a ++ hs) (told_between f (a + 1) n (a + 1) to (omega arith) (omega arith)
        (λ k above below outside. none k (omega arith) (omega arith) (λ between.
        outside (omega (arith, above), between.1))))
    | inr beyond ↦
        let nothing : to - from ≡ 0 = omega arith in
        ap (λ m. flat_map f (range_with_len from m)) nothing
        ∙ sym (none_told f a (suc n) (λ k above below. none k above below (λ within. omega (arith, within))))
  ]
]

-- a row tells what its pixels within the bounds tell
pub columns_told : (b : Border) (y : ℕ) → IsBorder b → NeighboursByRows → b.rect.y ≤ y → y < b.rect.y + b.rect.h
    → flat_map (λ x. hints_from (sender_of b) (record { x = x; y = y }))
    (range_with_len b.bounds.left (b.bounds.right - b.bounds.left)) ≡ hints_of_row b y
columns_told b y border around above below =
    told_between (λ x. hints_from (sender_of b) (record { x = x; y = y })) b.rect.x b.rect.w b.bounds.left
    b.bounds.right
    border.lie.0 border.lie.1 (λ x left right outside.
    outside_tells_none b (record { x = x; y = y }) border around (left, right, above, below) (λ within.
    outside (within.0, within.1)))
    ∙ sym (by_columns (sender_of b) b.rect y)

-- a row outside the bounds tells nothing
row_outside : (b : Border) (y : ℕ) → IsBorder b → NeighboursByRows → b.rect.y ≤ y → y < b.rect.y + b.rect.h
    → ((b.bounds.top ≤ y) × (y < b.bounds.bottom) → ⊥) → hints_of_row b y ≡ []
row_outside b y border around above below outside =
    by_columns (sender_of b) b.rect y
    ∙ none_told (λ x. hints_from (sender_of b) (record { x = x; y = y })) b.rect.x b.rect.w (λ x left right.
    outside_tells_none b (record { x = x; y = y }) border around (left, right, above, below) (λ within.
    outside (within.2, within.3)))

-- a tile tells what its rows within the bounds tell
pub rows_told : (b : Border) → IsBorder b → NeighboursByRows
    → flat_map (hints_of_row b) (range_with_len b.bounds.top (b.bounds.bottom - b.bounds.top)) ≡ hints_of_all b
rows_told b border around =
    told_between (hints_of_row b) b.rect.y b.rect.h b.bounds.top b.bounds.bottom border.lie.2 border.lie.3
    (λ y above below outside. row_outside b y border around above below outside)
    ∙ sym (by_rows (sender_of b) b.rect)

-- ---- which bounds serve

-- the open edges of a tile begin within the bounds of its rectangle
pub tile_has_edges : EachPixelInOneTile → (s : Sender) → IsTiled s.tiles → s.tile < count_of s.tiles
    → EdgesBeginIn s (bounds_of (rect_of s.tiles s.tile))
tile_has_edges in_one s tiled within p q edge =
    ((in_one s.tiles p tiled edge.from_inside).1 s.tile within).1 edge.from_tile

-- senders whose images are equal at each pixel have their open edges within the same bounds
pub same_begin : (s : Sender) (image : Pixel → ℕ) (bounds : Bounds)
    → ((p : Pixel) → IsInside s.tiles.width s.tiles.height p → s.image p ≡ image p)
    → EdgesBeginIn (record s { image = image }) bounds → EdgesBeginIn s bounds
same_begin s image bounds same begin p q edge =
    let other : Sender = record s { image = image } in
    begin p q (record {
      from_inside = edge.from_inside;
      from_tile = edge.from_tile;
      to_inside = edge.to_inside;
      to_other = edge.to_other;
      beside = edge.beside;
      lower = omega (arith, edge.lower, same p edge.from_inside, same q edge.to_inside);
    })
