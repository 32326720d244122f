-- The hints of a tile's open edges, in the order of the tiles that they are for.
use Rattle.std.proofs.Common.{◌≡◌, ℕ, suc, ◌<◌, ◌≤◌, List, [], ◌∷◌, ◌++◌, map, refl, sym, ap, ◌∙◌, subst, arith, inl}
use Rattle.std.proofs.Common.{inr, ◌⊎◌, ◌==◌, Contains, flat_map, AllPairs}
use Rattle.std.proofs.lemmas.Bool.{cases_eq, eqb-true}
use Rattle.std.proofs.{lemmas.List.append-nil, lemmas.List.Kept.AllPairs-from_increasing}
use Rattle.std.proofs.lemmas.List.Elements.{Contains-append_cases, filter-append}
use Rattle.std.specs.List.Sorted.{IsStrictlyIncreasing}
use Rattle.grid_core.specs.{declared.pixel.Pixel.Pixel, Raster.IsInside}
use Rattle.grid_core.specs.Tiles.{Tiles, IsTiled, AreTouching, tile_of, count_of}
use Rattle.grid_core.specs.TileLaws.{EachPixelInOneTile, NeighboursLieInTouchingTiles}
use Rattle.border_queues.specs.{declared.hint.Hint.Hint, Laws.EdgesAreOpen}
use Rattle.border_queues.specs.OpenEdges.{Sender, hint_to, open_edges}
use Rattle.grid_core.proofs.Common.{here, later, first_or_later, in_flat_map, not_in_empty}
use Rattle.reset_core.specs.Telling.{hints_in, AreInTileOrder, AreByTile}
use Rattle.core_rules.proofs.Removals.{passed_was_there, passed_test, from_map}
use Rattle.reset_core.proofs.Telling.{none_for, first_for_its_tile}

-- ---- where the hints of open edges come from, and where they go

pub record IsToldBy (s : Sender) (hint : Hint) : Type 0 where
  pub from : hint.from ≡ s.tile
  pub generation : hint.from_generation ≡ s.generation
  pub inside : IsInside s.tiles.width s.tiles.height hint.to_pixel
  pub touching : AreTouching s.tiles s.tile (tile_of s.tiles hint.to_pixel)
  pub is_tile : tile_of s.tiles hint.to_pixel < count_of s.tiles

pub told_by : EdgesAreOpen → NeighboursLieInTouchingTiles → EachPixelInOneTile → (s : Sender) → IsTiled s.tiles
    → s.tile < count_of s.tiles → (hint : Hint) → Contains (open_edges s) hint → IsToldBy s hint
told_by edges_open touch in_one s tiled is_tile hint there =
    let (pairs, are_hints) = edges_open s tiled is_tile in
    let make : Pixel × Pixel → Hint = λ a. hint_to s (s.image a.0) a.1 in
    let listed : Contains (map make pairs) hint = subst (λ hs. Contains hs hint) are_hints.hints there in
    let (pair, held, is) = from_map make pairs hint (hint.to_pixel, hint.to_pixel) listed in
    let edge = (are_hints.edges pair.0 pair.1).0 held in
    let to : pair.1 ≡ hint.to_pixel = ap (λ (h : Hint). h.to_pixel) is in
    let touching : AreTouching s.tiles s.tile (tile_of s.tiles pair.1) =
    elim (touch s.tiles s.conn pair.0 pair.1 tiled edge.from_inside edge.to_inside edge.beside) [
      | inl same ↦ absurd (edge.to_other (sym same ∙ edge.from_tile))
      | inr beside ↦ subst (λ t. AreTouching s.tiles t (tile_of s.tiles pair.1)) edge.from_tile beside
    ] in
    record {
      from = sym (ap (λ (h : Hint). h.from) is);
      generation = sym (ap (λ (h : Hint). h.from_generation) is);
      inside = subst (IsInside s.tiles.width s.tiles.height) to edge.to_inside;
      touching = subst (λ (p : Pixel). AreTouching s.tiles s.tile (tile_of s.tiles p)) to touching;
      is_tile = rw to at (in_one s.tiles pair.1 tiled edge.to_inside).0;
    }

-- ---- hints, tile by tile

-- each number is less than all later ones
abbrev Rises : List ℕ → Type 0
Rises [] = Unit {0}
Rises (u ∷ us) = ((v : ℕ) → Contains us v → u < v) × Rises us

pairs_rise : (us : List ℕ) → AllPairs (λ x y. x < y) us → Rises us
pairs_rise [] pairs = tt
pairs_rise (u ∷ us) pairs = (
  λ v there. subst (λ n. u < n) there.2 (pairs 0 (suc there.0) v (omega arith) (omega (arith, there.1))),
  pairs_rise us (λ i j d less within. pairs (suc i) (suc j) d (omega (arith, less)) (omega (arith, within))),
)

in_tile : (tiles : Tiles) (hints : List Hint) (u : ℕ) (hint : Hint) → Contains (hints_in tiles hints u) hint
    → tile_of tiles hint.to_pixel ≡ u
in_tile tiles hints u hint there =
    eqb-true (tile_of tiles hint.to_pixel) u
    (passed_test (λ (h : Hint). tile_of tiles h.to_pixel == u) hints hint there)

-- the hints for a tile are all for that tile
all_for : (tiles : Tiles) (hints : List Hint) (t : ℕ)
    → ((hint : Hint) → Contains hints hint → tile_of tiles hint.to_pixel ≡ t) → hints_in tiles hints t ≡ hints
all_for tiles [] t all = refl
all_for tiles (hint ∷ hints) t all =
    first_for_its_tile tiles hint hints t (all hint (here hint hints hint refl))
    ∙ ap (λ hs. hint ∷ hs) (all_for tiles hints t (λ h there. all h (later hint hints h there)))

-- the hints, tile by tile
abbrev by_tiles : Tiles → List Hint → List ℕ → List Hint
by_tiles tiles hints us = flat_map (hints_in tiles hints) us

module _ (tiles : Tiles) (hints : List Hint) where
  -- a hint of the list for these tiles is one of the hints, and for one of these tiles
  from_tile : (us : List ℕ) (hint : Hint) → Contains (by_tiles tiles hints us) hint
      → Contains us (tile_of tiles hint.to_pixel) × Contains hints hint
  from_tile us hint there =
      let (u, in_us, held) = in_flat_map (hints_in tiles hints) us hint there in (
        subst (λ n. Contains us n) (sym (in_tile tiles hints u hint held)) in_us,
        passed_was_there (λ (h : Hint). tile_of tiles h.to_pixel == u) hints hint held,
      )

  none_elsewhere : (us : List ℕ) (t : ℕ) → (Contains us t → ⊥) → hints_in tiles (by_tiles tiles hints us) t ≡ []
  none_elsewhere us t absent =
      none_for tiles (by_tiles tiles hints us) t (λ hint there same.
      absent (subst (λ n. Contains us n) same (from_tile us hint there).0))

  part_of : (u : ℕ) (us : List ℕ) (t : ℕ) → hints_in tiles (by_tiles tiles hints (u ∷ us)) t
      ≡ hints_in tiles (hints_in tiles hints u) t ++ hints_in tiles (by_tiles tiles hints us) t
  part_of u us t =
      filter-append (λ (h : Hint). tile_of tiles h.to_pixel == t) (hints_in tiles hints u) (by_tiles tiles hints us)

  own_part : (t : ℕ) → hints_in tiles (hints_in tiles hints t) t ≡ hints_in tiles hints t
  own_part t = all_for tiles (hints_in tiles hints t) t (in_tile tiles hints t)

  other_part : (u t : ℕ) → (u ≡ t → ⊥) → hints_in tiles (hints_in tiles hints u) t ≡ []
  other_part u t other =
      none_for tiles (hints_in tiles hints u) t (λ hint there same.
      other (sym (in_tile tiles hints u hint there) ∙ same))

  -- a tile of the list has its part, and another one none
  each_part : (us : List ℕ) → Rises us → (t : ℕ)
      → (Contains us t × (hints_in tiles (by_tiles tiles hints us) t ≡ hints_in tiles hints t)) ⊎ (Contains us t → ⊥)
  each_part [] rises t = inr (not_in_empty t)
  each_part (u ∷ us) rises t = elim (cases_eq u t) [
    | inl same ↦
        let none : Contains us t → ⊥ = λ there. omega (arith, rises.0 t there, same) in
        let first : hints_in tiles (hints_in tiles hints u) t ≡ hints_in tiles hints t =
        ap (λ n. hints_in tiles (hints_in tiles hints n) t) same ∙ own_part t in
        inl (
          here u us t same,
          part_of u us t ∙ ap (λ hs. hs ++ hints_in tiles (by_tiles tiles hints us) t) first
              ∙ ap (λ hs. hints_in tiles hints t ++ hs) (none_elsewhere us t none)
              ∙ append-nil (hints_in tiles hints t),
        )
    | inr other ↦ elim (each_part us rises.1 t) [
      | inl found ↦
          inl (
            later u us t found.0,
            part_of u us t
                ∙ ap (λ hs. hs ++ hints_in tiles (by_tiles tiles hints us) t) (other_part u t other) ∙ found.1,
          )
      | inr absent ↦
          inr (λ there. elim (first_or_later u us t there) [ inl same ↦ other same | inr behind ↦ absent behind ])
    ]
  ]

  in_order_append : (u : ℕ) (xs ys : List Hint) → ((hint : Hint) → Contains xs hint → tile_of tiles hint.to_pixel ≡ u)
      → ((hint : Hint) → Contains ys hint → u ≤ tile_of tiles hint.to_pixel) → AreInTileOrder tiles ys
      → AreInTileOrder tiles (xs ++ ys)
  in_order_append u [] ys at_u from_u order = order
  in_order_append u (x ∷ xs) ys at_u from_u order =
      let first = at_u x (here x xs x refl) in (
        λ hint there. elim (Contains-append_cases xs ys hint there) [
          | inl in_xs ↦ omega (arith, first, at_u hint (later x xs hint in_xs))
          | inr in_ys ↦ omega (arith, first, from_u hint in_ys)
        ],
        in_order_append u xs ys (λ hint there. at_u hint (later x xs hint there)) from_u order,
      )

  in_order : (us : List ℕ) → Rises us → AreInTileOrder tiles (by_tiles tiles hints us)
  in_order [] rises = tt
  in_order (u ∷ us) rises =
      in_order_append u (hints_in tiles hints u) (by_tiles tiles hints us) (in_tile tiles hints u) (λ hint there.
      omega (arith, rises.0 (tile_of tiles hint.to_pixel) (from_tile us hint there).0)) (in_order us rises.1)

  -- where each hint is for a tile of the list
  pub are_by_tile : (us : List ℕ) → IsStrictlyIncreasing us
      → ((hint : Hint) → Contains hints hint → Contains us (tile_of tiles hint.to_pixel))
      → AreByTile tiles hints (flat_map (hints_in tiles hints) us)
  are_by_tile us rising to =
      let rises = pairs_rise us (AllPairs-from_increasing us rising) in
      record {
        same = λ t within. elim (each_part us rises t) [
          | inl found ↦ found.1
          | inr absent ↦
              none_elsewhere us t absent ∙ sym (none_for tiles hints t (λ hint there same.
              absent (subst (λ n. Contains us n) same (to hint there))))
        ];
        order = in_order us rises;
        those = λ hint there. (from_tile us hint there).1;
      }
