-- Hints that are told within a band, and so in the whole that it is put into.
use Rattle.std.proofs.Common.{◌≡◌, ℕ, ◌+◌, ◌-◌, ◌<◌, ◌≤◌, sym, ap, ◌∙◌, subst, arith, refl, List, [], ◌∷◌, ◌++◌, map}
use Rattle.std.proofs.Common.{length, Bool, true, false, cond, ◌==◌, Contains, inl, inr, if◌then◌else◌, sum_by}
use Rattle.std.proofs.lemmas.Bool.{cases_lt, cases_eq, eq-eqb, ne_eqb}
use Rattle.std.proofs.lemmas.List.{length-append}
use Rattle.std.proofs.lemmas.List.Sums.{sum_by-append}
use Rattle.grid_core.specs.{Raster.IsInside, Raster.max_level}
use Rattle.grid_core.specs.Tiles.{Tiles, IsTiled, count_of, tile_of}
use Rattle.grid_core.proofs.Common.{in_map, map_has}
use Rattle.grid_core.proofs.Tilings.{tile_of-within}
use Rattle.border_queues.specs.{declared.hint.Hint.Hint, TileWork.TileWork}
use Rattle.reset_core.specs.Telling.{ImageAndWork, hints_in, AreInTileOrder, AreByTile, AreTold}
use Rattle.reset_core.specs.Bands.{IsBandOf, tiles_above, lowered_hint, Around, put_in, FitsIn}
use Rattle.reset_core.proofs.Telling.{none_for}
use Rattle.reset_core.proofs.Bands.Tiles.{tile_of_lowered}
use Rattle.reset_core.proofs.Bands.States.{all_handed_put}

same_test : (n a b : ℕ) → (n + a == n + b) ≡ (a == b)
same_test n a b = elim (cases_eq a b) [
  | inl same ↦ eq-eqb (n + a) (n + b) (ap (λ k. n + k) same) ∙ sym (eq-eqb a b same)
  | inr other ↦ ne_eqb (n + a) (n + b) (λ same. other (omega (arith, same))) ∙ sym (ne_eqb a b other)
]

-- a sum over three lists is the sum of theirs
sum_between : {X : Type 0} (f : X → ℕ) (a b c : List X)
    → sum_by f (a ++ (b ++ c)) ≡ sum_by f a + (sum_by f b + sum_by f c)
sum_between f a b c = omega (arith, sum_by-append f a (b ++ c), sum_by-append f b c)

module _ (whole : Tiles) (above : ℕ) (band : Tiles) (tiled : IsTiled whole) (band_tiled : IsTiled band)
    (of : IsBandOf whole above band) where
  abbrev tiles : ℕ
  tiles = tiles_above whole above

  abbrev down : Hint → Hint
  down = lowered_hint whole above

  pub hints_in_lowered : (hints : List Hint) (u : ℕ)
      → hints_in whole (map down hints) (tiles + u) ≡ map down (hints_in band hints u)
  hints_in_lowered [] u = refl
  hints_in_lowered (hint ∷ rest) u =
      let more = hints_in_lowered rest u in
      let test : (tile_of whole (down hint).to_pixel == tiles + u) ≡ (tile_of band hint.to_pixel == u) =
      ap (λ n. n == tiles + u) (tile_of_lowered whole above band tiled band_tiled of hint.to_pixel)
      ∙ same_test tiles (tile_of band hint.to_pixel) u in
      ap (λ b. cond b (down hint ∷ hints_in whole (map down rest) (tiles + u))
      (hints_in whole (map down rest) (tiles + u))) test
      ∙ ap (λ l. cond (tile_of band hint.to_pixel == u) (down hint ∷ l) l) more
      ∙ either (tile_of band hint.to_pixel == u) where
        either : (b : Bool) → cond b (down hint ∷ map down (hints_in band rest u)) (map down (hints_in band rest u))
            ≡ map down (cond b (hint ∷ hints_in band rest u) (hints_in band rest u))
        either true = refl
        either false = refl

  -- no hint of a band is for a tile above it
  none_above : (hints : List Hint) (t : ℕ) → t < tiles → hints_in whole (map down hints) t ≡ []
  none_above hints t less =
      none_for whole (map down hints) t (λ hint there same.
      let (own, found, is) = in_map down hints hint there in
      let home = tile_of_lowered whole above band tiled band_tiled of own.to_pixel in
      let lower : tile_of whole (down own).to_pixel ≡ tile_of whole hint.to_pixel =
      ap (λ (h : Hint). tile_of whole h.to_pixel) is in
      omega (arith, home, lower, same, less))

  order_lowered : (hints : List Hint) → AreInTileOrder band hints → AreInTileOrder whole (map down hints)
  order_lowered [] order = tt
  order_lowered (hint ∷ rest) order = (
    λ other there.
        let (own, found, is) = in_map down rest other there in
        let first = tile_of_lowered whole above band tiled band_tiled of hint.to_pixel in
        let second = tile_of_lowered whole above band tiled band_tiled of own.to_pixel in
        let same : tile_of whole (down own).to_pixel ≡ tile_of whole other.to_pixel =
        ap (λ (h : Hint). tile_of whole h.to_pixel) is in
        omega (arith, order.0 own found, first, second, same),
    order_lowered rest order.1,
  )

  module _ (hints : List Hint)
      (inside : (hint : Hint) → Contains hints hint → IsInside band.width band.height hint.to_pixel) where
    by_tile_lowered : (by_tile : List Hint) → AreByTile band hints by_tile
        → AreByTile whole (map down hints) (map down by_tile)
    by_tile_lowered by_tile sorted =
        let in_band : (some : List Hint) → ((hint : Hint) → Contains some hint → Contains hints hint)
        → (u : ℕ) → count_of band ≤ u → hints_in band some u ≡ [] =
        λ some those u past. none_for band some u (λ hint there same.
        let home = tile_of-within band hint.to_pixel band_tiled (inside hint (those hint there)) in
        omega (arith, home, same, past)) in
        let band_same : (u : ℕ) → hints_in band by_tile u ≡ hints_in band hints u = λ u.
        elim (cases_lt u (count_of band)) [
          | inl within ↦ sorted.same u within
          | inr past ↦ in_band by_tile sorted.those u past ∙ sym (in_band hints (λ hint there. there) u past)
        ] in
        record {
          same = λ t within. elim (cases_lt t tiles) [
            | inl less ↦ none_above by_tile t less ∙ sym (none_above hints t less)
            | inr more ↦
                let there : tiles + (t - tiles) ≡ t = omega (arith, more) in
                subst (λ n. hints_in whole (map down by_tile) n ≡ hints_in whole (map down hints) n) there
                (hints_in_lowered by_tile (t - tiles) ∙ ap (map down) (band_same (t - tiles))
                ∙ sym (hints_in_lowered hints (t - tiles)))
          ];
          order = order_lowered by_tile sorted.order;
          those = λ hint there.
              let (own, found, is) = in_map down by_tile hint there in
              subst (λ h. Contains (map down hints) h) is (map_has down hints own (sorted.those own found));
        }

    pub told_put : (around : Around) (s after : ImageAndWork) → FitsIn whole above band around s
        → AreTold band hints s after → AreTold whole (map down hints) (put_in around s) (put_in around after)
    told_put around s after fits told = record {
      by_tile = map down told.by_tile;
      sorted = by_tile_lowered told.by_tile told.sorted;
      over = record {
        result =
            all_handed_put whole above band tiled band_tiled of around told.by_tile
            (λ hint there. inside hint (told.sorted.those hint there)) s fits ∙ ap (put_in around) told.over.result;
        width = refl;
        height = refl;
        cells = length_between around.cells_above after.image.cells s.image.cells around.cells_below told.over.cells;
        count = length_between around.works_above after.rows s.rows around.works_below told.over.count;
        burden =
            let low : ℕ → ℕ = λ v. max_level - v in
            let one : TileWork → ℕ = λ work. if work.dirty then 1 else 0 in
            omega (
              arith,
              told.over.burden,
              sum_between low around.cells_above s.image.cells around.cells_below,
              sum_between low around.cells_above after.image.cells around.cells_below,
              sum_between one around.works_above s.rows around.works_below,
              sum_between one around.works_above after.rows around.works_below,
            );
      };
    } where
      length_between : {X : Type 0} (a b other c : List X) → length b ≡ length other
          → length (a ++ (b ++ c)) ≡ length (a ++ (other ++ c))
      length_between a b other c same =
          omega (
            arith,
            length-append a (b ++ c),
            length-append b c,
            length-append a (other ++ c),
            length-append other c,
            same,
          )
