-- Hints that are counted, by the places of their tiles among those at and around one.
use Rattle.std.proofs.Common.{◌≡◌, ℕ, ◌+◌, ◌<◌, ◌≤◌, Bool, true, cond, List, [], ◌∷◌, length, get_or, replicate}
use Rattle.std.proofs.Common.{set, take, length-take, refl, sym, ◌∙◌, ap, subst, arith, inl, inr, ◌⊎◌, ◌==◌, All}
use Rattle.std.proofs.Common.{slice_index, filter}
use Rattle.std.proofs.lemmas.Bool.{cases_eq, cases_lt, eq-eqb, ne_eqb, eqb-true}
use Rattle.std.proofs.lemmas.List.{get_or-replicate, get_or-set_same, get_or-set_other, length-set, take_all}
use Rattle.std.proofs.lemmas.List.Elements.{All-head, All-tail, All-filter, All-replicate, All-set, filter_passes}
use Rattle.std.proofs.lemmas.List.Filters.{length-filter_more}
use Rattle.std.proofs.lemmas.List.Sums.{length-filter, count_by-le-length}
use Rattle.grid_core.specs.Tiles.{Tiles, count_of, tile_of}
use Rattle.border_queues.specs.{declared.hint.Hint.Hint, TileWork.hints_at}
use Rattle.tile_work.specs.declared.work_table.delivery.Coming.{Coming}
use Rattle.tile_work.specs.Beside.{AreCounted, IsPixelNear, place_among}
use Rattle.tile_work.specs.WorkTable.{IsToTouching}
use Rattle.tile_work.proofs.Beside.{tile_among, at_its_place}

-- a hint to a tile that touches this one is to a pixel that is near
pub is_near : {tiles : Tiles} {tile : ℕ} {hint : Hint} → IsToTouching tiles tile hint
    → IsPixelNear tiles tile hint.to_pixel
is_near to = record { inside = to.inside; columns = to.touching.columns; rows = to.touching.rows }

-- whether the hint goes to the tile at this place
abbrev pub is_to_place : Tiles → ℕ → ℕ → Hint → Bool
is_to_place tiles tile k hint = place_among tiles tile (tile_of tiles hint.to_pixel) == k

-- the first i of the hints are counted
pub record IsCounting (tiles : Tiles) (tile : ℕ) (hints : List Hint) (i : ℕ) (ts counts : List ℕ) : Type 0 where
  pub places : length ts ≡ 9
  pub count_places : length counts ≡ 9
  pub within : All (λ t. t < count_of tiles) ts
  pub counted : (k : ℕ) → k < 9
      → slice_index counts k ≡ length (filter (is_to_place tiles tile k) (take i hints))
  pub known : (k : ℕ) → k < 9 → 0 < slice_index counts k → slice_index ts k ≡ tile_among tiles tile k

-- at first none is
pub none_counted : (tiles : Tiles) (tile : ℕ) (hints : List Hint) → tile < count_of tiles
    → IsCounting tiles tile hints 0 (replicate 9 tile) (replicate 9 0)
none_counted tiles tile hints within = record {
  places = refl;
  count_places = refl;
  within = All-replicate (λ t. t < count_of tiles) 9 tile within;
  counted = λ k in_places. get_or-replicate {A = ℕ} 9 k 0 0 in_places;
  known = λ k in_places some.
      let none = get_or-replicate {A = ℕ} 9 k 0 0 in_places in
      absurd (omega (arith, none, some));
}

module _ {tiles : Tiles} {tile : ℕ} {hints : List Hint} {i : ℕ} {ts counts : List ℕ}
    (so_far : IsCounting tiles tile hints i ts counts) where
  -- no more are counted at a place than there are
  pub count_at_most : (k : ℕ) → k < 9 → slice_index counts k ≤ i
  count_at_most k below =
      let is = so_far.counted k below in
      let made = length-filter (is_to_place tiles tile k) (take i hints) in
      let most = count_by-le-length (is_to_place tiles tile k) (take i hints) in
      let taken = length-take i hints in
      omega (arith, is, made, most, taken)

  -- the next hint is counted at its place
  module _ (default : Hint) (within : i < length hints) (to : IsToTouching tiles tile (get_or hints i default))
      (place t : ℕ) (below : place < 9) (t_is : t ≡ tile_of tiles (get_or hints i default).to_pixel)
      (place_is : place ≡ place_among tiles tile (tile_of tiles (get_or hints i default).to_pixel))
      (in_tiling : t < count_of tiles) where
    one_more : (k : ℕ) → k < 9 → slice_index (set counts place (slice_index counts place + 1)) k
        ≡ length (filter (is_to_place tiles tile k) (take (i + 1) hints))
    one_more k in_places =
        let more = length-filter_more (is_to_place tiles tile k) hints i default within in
        let before = so_far.counted k in_places in
        elim (cases_eq k place) [
          | inl here ↦
              let in_counts : place < length counts = omega (arith, below, so_far.count_places) in
              let now : slice_index (set counts place (slice_index counts place + 1)) k ≡ slice_index counts k + 1 =
              ap (λ n. slice_index (set counts place (slice_index counts place + 1)) n) here
              ∙ get_or-set_same counts place (slice_index counts place + 1) 0 in_counts
              ∙ ap (λ n. slice_index counts n + 1) (sym here) in
              let one : cond (is_to_place tiles tile k (get_or hints i default)) 1 0 ≡ (let n : ℕ = 1 in n) =
              ap (λ (b : Bool). cond b 1 0) (eq-eqb _ k (sym (here ∙ place_is))) in
              omega (arith, now, before, more, one)
          | inr apart ↦
              let now = get_or-set_other counts place k (slice_index counts place + 1) 0 apart in
              let none : cond (is_to_place tiles tile k (get_or hints i default)) 1 0 ≡ (let n : ℕ = 0 in n) =
              ap (λ (b : Bool). cond b 1 0) (ne_eqb _ k (λ same. apart (sym (place_is ∙ same)))) in
              omega (arith, now, before, more, none)
        ]

    one_more_known : (k : ℕ) → k < 9 → 0 < slice_index (set counts place (slice_index counts place + 1)) k
        → slice_index (set ts place t) k ≡ tile_among tiles tile k
    one_more_known k in_places some = elim (cases_eq k place) [
      | inl here ↦
          let in_ts : place < length ts = omega (arith, below, so_far.places) in
          let near = is_near to in
          ap (λ n. slice_index (set ts place t) n) here ∙ get_or-set_same ts place t 0 in_ts ∙ t_is
          ∙ sym (at_its_place tiles tile (tile_of tiles (get_or hints i default).to_pixel) near.columns near.rows)
          ∙ ap (tile_among tiles tile) (sym (here ∙ place_is))
      | inr apart ↦
          let now = get_or-set_other counts place k (slice_index counts place + 1) 0 apart in
          get_or-set_other ts place k t 0 apart ∙ so_far.known k in_places (subst (λ n. 0 < n) now some)
    ]

    pub counting_goes_on :
        IsCounting tiles tile hints (i + 1) (set ts place t) (set counts place (slice_index counts place + 1))
    counting_goes_on = record {
      places = length-set ts place t ∙ so_far.places;
      count_places = length-set counts place (slice_index counts place + 1) ∙ so_far.count_places;
      within = All-set (λ u. u < count_of tiles) ts place t in_tiling so_far.within;
      counted = one_more;
      known = one_more_known;
    }

-- tests that agree on each of the hints let the same ones through
filter_alike : (P : Hint → Type 0) (p q : Hint → Bool) → ((hint : Hint) → P hint → p hint ≡ q hint)
    → (hints : List Hint) → All P hints → filter p hints ≡ filter q hints
filter_alike P p q same [] all = refl
filter_alike P p q same (hint ∷ hints) all =
    ap (λ (b : Bool). cond b (hint ∷ filter p hints) (filter p hints)) (same hint (All-head P hint hints all))
    ∙ ap (λ (hs : List Hint). cond (q hint) (hint ∷ hs) hs)
    (filter_alike P p q same hints (All-tail P hint hints all))

-- there is none of these hints, or one of them
first_or_none : (P : Hint → Type 0) (hints : List Hint) → All P hints
    → (length hints ≡ 0) ⊎ ((hint : Hint) × P hint)
first_or_none P [] all = inl refl
first_or_none P (hint ∷ hints) all = inr (hint, All-head P hint hints all)

-- all hints are counted
module _ {tiles : Tiles} {tile : ℕ} {hints : List Hint} {ts counts : List ℕ}
    (counting : IsCounting tiles tile hints (length hints) ts counts) (to : All (IsToTouching tiles tile) hints) where
  -- a hint goes to the place of a tile that another one goes to exactly where it goes to that tile
  to_place : (one : Hint) → IsToTouching tiles tile one → (hint : Hint) → IsToTouching tiles tile hint
      → is_to_place tiles tile (place_among tiles tile (tile_of tiles one.to_pixel)) hint
      ≡ (tile_of tiles hint.to_pixel == tile_of tiles one.to_pixel)
  to_place one to_one hint to_hint =
      let t = tile_of tiles one.to_pixel in
      let u = tile_of tiles hint.to_pixel in
      elim (cases_eq u t) [
        | inl same ↦ eq-eqb _ _ (ap (place_among tiles tile) same) ∙ sym (eq-eqb u t same)
        | inr other ↦
            ne_eqb _ _ (λ places. other
            (sym (at_its_place tiles tile u to_hint.touching.columns to_hint.touching.rows)
            ∙ ap (tile_among tiles tile) places
            ∙ at_its_place tiles tile t to_one.touching.columns to_one.touching.rows))
            ∙ sym (ne_eqb u t other)
      ]

  counted_at : (t : ℕ) → 0 < length (hints_at tiles t hints)
      → (k : ℕ) × (k < length ts) × (slice_index ts k ≡ t) × (slice_index counts k ≡ length (hints_at tiles t hints))
  counted_at t some =
      let test : Hint → Bool = λ h. tile_of tiles h.to_pixel == t in
      let P : Hint → Type 0 = λ h. IsToTouching tiles tile h × (test h ≡ true) in
      let all : All P (hints_at tiles t hints) =
      λ k d there. (
        All-filter test (IsToTouching tiles tile) hints to k d there,
        filter_passes test hints k d there,
      ) in
      elim (first_or_none P (hints_at tiles t hints) all) [
        | inl none ↦ absurd (omega (arith, none))
        | inr (one, to_one) ↦
            let here : tile_of tiles one.to_pixel ≡ t = eqb-true (tile_of tiles one.to_pixel) t to_one.1 in
            let k = place_among tiles tile (tile_of tiles one.to_pixel) in
            let near = to_one.0.touching in
            let below : k < 9 = omega (arith, near.columns, near.rows) in
            let all_taken : take (length hints) hints ≡ hints = take_all (length hints) hints (omega arith) in
            let count : slice_index counts k ≡ length (hints_at tiles t hints) =
            counting.counted k below ∙ ap (λ hs. length (filter (is_to_place tiles tile k) hs)) all_taken
            ∙ ap (λ (hs : List Hint). length hs)
            (filter_alike (IsToTouching tiles tile) (is_to_place tiles tile k)
            (λ h. tile_of tiles h.to_pixel == tile_of tiles one.to_pixel) (to_place one to_one.0) hints to)
            ∙ ap (λ u. length (hints_at tiles u hints)) here in (
              k,
              omega (arith, below, counting.places),
              counting.known k below (subst (λ n. 0 < n) (sym count) some)
                  ∙ at_its_place tiles tile (tile_of tiles one.to_pixel) near.columns near.rows ∙ here,
              count,
            )
      ]

  pub all_counted : AreCounted tiles hints (record { tiles = ts; counts = counts })
  all_counted = record {
    places = omega (arith, counting.places, counting.count_places);
    within = counting.within;
    counted = counted_at;
  }

-- there is room for all the hints at each tile, where there is room for as many as are counted
pub room_for_all : {tiles : Tiles} {hints : List Hint} {coming : Coming} → AreCounted tiles hints coming
    → (rooms : List ℕ) → ((k : ℕ) → k < length coming.tiles
    → slice_index coming.counts k ≤ slice_index rooms (slice_index coming.tiles k))
    → (t : ℕ) → length (hints_at tiles t hints) ≤ slice_index rooms t
room_for_all {tiles} {hints} {coming} counted rooms made t = elim (cases_lt 0 (length (hints_at tiles t hints))) [
  | inr none ↦ omega (arith, none)
  | inl some ↦
      let (k, within, t_is, count) = counted.counted t some in
      let room = made k within in
      subst (λ u. length (hints_at tiles t hints) ≤ slice_index rooms u) t_is (omega (arith, room, count))
]
