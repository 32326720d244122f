-- The hints of a tile are those of its open edges, in order.
use Rattle.std.proofs.Common.{◌≡◌, ℕ, ◌<◌, true, List, [], ◌∷◌, ◌++◌, map, refl, ap, sym, subst, ◌∙◌, inl, inr, arith}
use Rattle.std.proofs.Common.{◌≢◌, not, nat_eq, nat_lt, Contains, filter, flat_map}
use Rattle.std.proofs.{lemmas.Bool.ltb-true, lemmas.Bool.lt-ltb, lemmas.Bool.Decides.eqb_tells, lemmas.List.map-append}
use Rattle.std.specs.List.{range_with_len}
use Rattle.grid_core.specs.{declared.pixel.Pixel.Pixel, declared.rect.Rect.Rect, RasterLaws.NeighboursByRows}
use Rattle.grid_core.specs.{Neighbours.IsBefore, Neighbours.IsInRasterOrder, Rects.IsInRect, Rows.rows_around}
use Rattle.grid_core.specs.{TileLaws.EachPixelInOneTile, TileLaws.TilesLieInside}
use Rattle.grid_core.specs.Tiles.{IsTiled, count_of, tile_of, rect_of}
use Rattle.border_queues.specs.{declared.hint.Hint.Hint, Laws.IsPairBefore, Laws.AreInPairOrder, Laws.AreHintsOf}
use Rattle.border_queues.specs.OpenEdges.{Sender, IsOpenEdge, level_to, hint_to, is_open, hints_from, row_of, pixels_of}
use Rattle.border_queues.specs.OpenEdges.{open_edges}
use Rattle.grid_core.proofs.Common.{both_true, true_and, in_flat_map, flat_map_has, in_map, map_has, in_filter}
use Rattle.grid_core.proofs.Common.{filter_has, range_has}
use Rattle.border_queues.proofs.InOrder.{InOrder, order_flat_map, order_map, order_filter, order_range}
use Rattle.border_queues.proofs.SameEdges.{pixels_in_rect, pixels_inside}

-- the open edges from p, and those of the tile
abbrev pairs_from : Sender → Pixel → List (Pixel × Pixel)
pairs_from s p =
    map (λ q. (p, q)) (filter (is_open s (s.image p)) (rows_around s.conn s.tiles.width s.tiles.height p))

abbrev open_pairs : Sender → List (Pixel × Pixel)
open_pairs s = flat_map (pairs_from s) (pixels_of (rect_of s.tiles s.tile))

-- ---- the hints

map_flat_map : {X Y Z : Type 0} (h : Y → Z) (f : X → List Y) (xs : List X)
    → map h (flat_map f xs) ≡ flat_map (λ x. map h (f x)) xs
map_flat_map h f [] = refl
map_flat_map h f (x ∷ xs) =
    map-append h (f x) (flat_map f xs) ∙ ap (λ zs. map h (f x) ++ zs) (map_flat_map h f xs)

map_pairs : (h : Pixel × Pixel → Hint) (p : Pixel) (qs : List Pixel)
    → map h (map (λ q. (p, q)) qs) ≡ map (λ q. h (p, q)) qs
map_pairs h p [] = refl
map_pairs h p (q ∷ qs) = ap (λ hs. h (p, q) ∷ hs) (map_pairs h p qs)

same_hints : (s : Sender) (ps : List Pixel)
    → flat_map (λ p. map (λ a. hint_to s (s.image a.0) a.1) (pairs_from s p)) ps ≡ flat_map (hints_from s) ps
same_hints s [] = refl
same_hints s (p ∷ ps) =
    let h : Pixel × Pixel → Hint = λ a. hint_to s (s.image a.0) a.1 in
    let qs = filter (is_open s (s.image p)) (rows_around s.conn s.tiles.width s.tiles.height p) in
    ap (λ hs. hs ++ flat_map (λ r. map h (pairs_from s r)) ps) (map_pairs h p qs)
    ∙ ap (λ hs. hints_from s p ++ hs) (same_hints s ps)

hints_are : (s : Sender) → open_edges s ≡ map (λ a. hint_to s (s.image a.0) a.1) (open_pairs s)
hints_are s =
    let h : Pixel × Pixel → Hint = λ a. hint_to s (s.image a.0) a.1 in
    let ps = pixels_of (rect_of s.tiles s.tile) in
    sym (map_flat_map h (pairs_from s) ps ∙ same_hints s ps)

-- ---- which edges they are

pub open_tells : (s : Sender) (value : ℕ) (q : Pixel) → is_open s value q ≡ true
    → (tile_of s.tiles q ≢ s.tile) × (s.image q < level_to s value q)
open_tells s value q passes =
    let other = not (nat_eq (tile_of s.tiles q) s.tile) in
    let tests = both_true other (nat_lt (s.image q) (level_to s value q)) passes in (
      elim (eqb_tells (tile_of s.tiles q) s.tile) [
        | inl (equal, same) ↦ absurd (let no : not true ≡ true = ap not (sym equal) ∙ tests.0 in cc)
        | inr (differ, other) ↦ other
      ],
      ltb-true (s.image q) (level_to s value q) tests.1,
    )

open_from : (s : Sender) (value : ℕ) (q : Pixel) → tile_of s.tiles q ≢ s.tile → s.image q < level_to s value q
    → is_open s value q ≡ true
open_from s value q other lower =
    true_and (not (nat_eq (tile_of s.tiles q) s.tile)) (nat_lt (s.image q) (level_to s value q))
    (elim (eqb_tells (tile_of s.tiles q) s.tile) [
      | inl (equal, same) ↦ absurd (other same)
      | inr (differ, not_same) ↦ ap not differ
    ])
    (lt-ltb (s.image q) (level_to s value q) lower)

-- a rectangle has its pixels
pixels_has : (rect : Rect) (p : Pixel) → IsInRect rect p → Contains (pixels_of rect) p
pixels_has rect p found =
    flat_map_has (row_of rect) (range_with_len rect.y rect.h) p.y p
    (range_has rect.y rect.h p.y found.2 found.3)
    (map_has (λ x. record { x = x; y = p.y }) (range_with_len rect.x rect.w) p.x
    (range_has rect.x rect.w p.x found.0 found.1))

edge_from : EachPixelInOneTile → NeighboursByRows → TilesLieInside → (s : Sender) → IsTiled s.tiles
    → s.tile < count_of s.tiles → (p q : Pixel) → Contains (open_pairs s) (p, q) → IsOpenEdge s p q
edge_from in_one by_rows lie_inside s tiled within p q there =
    let rect = rect_of s.tiles s.tile in
    let (r, in_pixels, in_pairs) = in_flat_map (pairs_from s) (pixels_of rect) (p, q) there in
    let qs = rows_around s.conn s.tiles.width s.tiles.height r in
    let (t, in_kept, same) = in_map (λ t. (r, t)) (filter (is_open s (s.image r)) qs) (p, q) in_pairs in
    let inside = pixels_inside s.tiles.width s.tiles.height rect r (lie_inside s.tiles s.tile tiled within) in_pixels in
    let kept = in_filter (is_open s (s.image r)) qs t in_kept in
    let beside = ((by_rows s.conn s.tiles.width s.tiles.height r inside).0 t).0 kept.0 in
    let told = open_tells s (s.image r) t kept.1 in
    let Is : Pixel × Pixel → Type 0 = λ a. IsOpenEdge s a.0 a.1 in
    subst Is same (record {
      from_inside = inside;
      from_tile = ((in_one s.tiles r tiled inside).1 s.tile within).0 (pixels_in_rect rect r in_pixels);
      to_inside = beside.1;
      to_other = told.0;
      beside = beside.0;
      lower = told.1;
    })

edge_has : EachPixelInOneTile → NeighboursByRows → (s : Sender) → IsTiled s.tiles → s.tile < count_of s.tiles
    → (p q : Pixel) → IsOpenEdge s p q → Contains (open_pairs s) (p, q)
edge_has in_one by_rows s tiled within p q edge =
    let rect = rect_of s.tiles s.tile in
    let qs = rows_around s.conn s.tiles.width s.tiles.height p in
    let found = ((in_one s.tiles p tiled edge.from_inside).1 s.tile within).1 edge.from_tile in
    flat_map_has (pairs_from s) (pixels_of rect) p (p, q) (pixels_has rect p found)
    (map_has (λ t. (p, t)) (filter (is_open s (s.image p)) qs) q
    (filter_has (is_open s (s.image p)) qs q
    (((by_rows s.conn s.tiles.width s.tiles.height p edge.from_inside).0 q).1 (edge.beside, edge.to_inside))
    (open_from s (s.image p) q edge.to_other edge.lower)))

-- ---- their order

from_raster : (qs : List Pixel) → IsInRasterOrder qs → InOrder IsBefore qs
from_raster [] order = tt
from_raster (q ∷ qs) order = (order.0, from_raster qs order.1)

to_pairs : (pairs : List (Pixel × Pixel)) → InOrder IsPairBefore pairs → AreInPairOrder pairs
to_pairs [] order = tt
to_pairs (a ∷ rest) order = (order.0, to_pairs rest order.1)

in_row_y : (rect : Rect) (y : ℕ) (p : Pixel) → Contains (row_of rect y) p → y ≡ p.y
in_row_y rect y p there =
    let (x, in_columns, same) = in_map (λ x. record { x = x; y = y }) (range_with_len rect.x rect.w) p there in
    ap (λ (q : Pixel). q.y) same

pixels_in_order : (rect : Rect) → InOrder IsBefore (pixels_of rect)
pixels_in_order rect =
    order_flat_map (λ y z. y < z) IsBefore (row_of rect) (range_with_len rect.y rect.h) (order_range rect.y rect.h)
    (λ y there. order_map (λ x z. x < z) IsBefore (λ x. record { x = x; y = y }) (range_with_len rect.x rect.w)
    (order_range rect.x rect.w) (λ x z less. inr (refl, less)))
    (λ y z p q less in_y in_z.
    let row = in_row_y rect y p in_y in
    let lower = in_row_y rect z q in_z in
    let above : p.y < q.y = omega (arith, row, lower, less) in
    inl above)

from_pixel : (s : Sender) (p : Pixel) (a : Pixel × Pixel) → Contains (pairs_from s p) a → p ≡ a.0
from_pixel s p a there =
    let (q, in_kept, same) = in_map (λ t. (p, t)) (filter (is_open s (s.image p))
    (rows_around s.conn s.tiles.width s.tiles.height p)) a there in
    ap (λ (b : Pixel × Pixel). b.0) same

pairs_in_order : NeighboursByRows → TilesLieInside → (s : Sender) → IsTiled s.tiles → s.tile < count_of s.tiles
    → InOrder IsPairBefore (open_pairs s)
pairs_in_order by_rows lie_inside s tiled within =
    let rect = rect_of s.tiles s.tile in
    let fits = lie_inside s.tiles s.tile tiled within in
    order_flat_map IsBefore IsPairBefore (pairs_from s) (pixels_of rect) (pixels_in_order rect)
    (λ p there.
    let qs = rows_around s.conn s.tiles.width s.tiles.height p in
    let inside = pixels_inside s.tiles.width s.tiles.height rect p fits there in
    order_map IsBefore IsPairBefore (λ q. (p, q)) (filter (is_open s (s.image p)) qs)
    (order_filter IsBefore (is_open s (s.image p)) qs
    (from_raster qs (by_rows s.conn s.tiles.width s.tiles.height p inside).1))
    (λ q r before. inr (refl, before)))
    (λ p q a b before in_a in_b.
    let first = subst (λ r. IsBefore r q) (from_pixel s p a in_a) before in
    inl (subst (λ r. IsBefore a.0 r) (from_pixel s q b in_b) first))

pub edges_are_open : EachPixelInOneTile → NeighboursByRows → TilesLieInside → (s : Sender) → IsTiled s.tiles
    → s.tile < count_of s.tiles → (pairs : List (Pixel × Pixel)) × AreHintsOf s pairs
edges_are_open in_one by_rows lie_inside s tiled within = (
  open_pairs s,
  record {
    edges = λ p q. (
      λ there. edge_from in_one by_rows lie_inside s tiled within p q there,
      λ edge. edge_has in_one by_rows s tiled within p q edge,
    );
    order = to_pairs (open_pairs s) (pairs_in_order by_rows lie_inside s tiled within);
    hints = hints_are s;
  },
)
