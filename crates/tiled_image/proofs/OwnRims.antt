-- The rims of some tiles that stand one behind another, in a list of their own.
use Rattle.std.proofs.Common.{◌≡◌, ℕ, ◌+◌, ◌-◌, ◌*◌, ◌<◌, ◌≤◌, List, ◌++◌, length, get_or, ap, sym, subst, ◌∙◌}
use Rattle.std.proofs.Common.{inl, inr, arith, refl, zero-add, ◌⊎◌}
use Rattle.std.proofs.lemmas.{Bool.cases_eq, Bool.cases_lt, Nat.mul-add-lt, Nat.mul-le}
use Rattle.std.proofs.lemmas.List.{get_or_append_left, get_or-append_right, length-append}
use Rattle.grid_core.specs.{declared.pixel.Pixel.Pixel, Raster.Raster, Raster.index_of, Raster.value_at}
use Rattle.grid_core.specs.{Rects.IsInRect, Tiles.Tiles, Tiles.IsTiled, Tiles.count_of}
use Rattle.row_scans.proofs.Replacing.{IsReplaced}
use Rattle.tiled_image.specs.declared.rims.Edge.{Edge}
use Rattle.tiled_image.specs.declared.rims.Edge.TheVariants as edges
use Rattle.tiled_image.specs.{Shown.place_in, Rims.AreTaken, Rims.rank_of, Rims.strip_of}
use Rattle.tiled_image.specs.OwnRims.{ArePartTaken, IsEdgeTaken, IsOwnRimOf, own_place}
use Rattle.tiled_image.proofs.Strips.{count_within, in_strip_room, rank_below, room_within}

-- ---- places

-- the value of a pixel stands among those of its tile's rim
pub own_below : (tiling : Tiles) (tile : ℕ) → IsTiled tiling → tile < count_of tiling → (edge : Edge) (p : Pixel)
    → IsInRect (strip_of tiling tile edge) p → own_place tiling tile edge p < 4 * tiling.side
own_below tiling tile tiled within edge p inside =
    let k : ℕ = index_of (strip_of tiling tile edge).w (place_in (strip_of tiling tile edge) p) in
    omega (
      arith,
      mul-add-lt (rank_of edge) tiling.side k 4 (rank_below edge)
          (in_strip_room tiling tile tiled within edge p inside),
    )

place_is_own : (tile rank side k : ℕ) → (tile * 4 + rank) * side + k ≡ tile * 4 * side + (rank * side + k)
place_is_own tile rank side k = omega arith

pub by_fours : (n side : ℕ) → n * (4 * side) ≡ n * 4 * side
by_fours n side = omega arith

-- some of the tiles have no more room than all of them
pub part_fits : (count part side room : ℕ) → part ≤ count → room ≡ count * 4 * side → part * (4 * side) ≤ room
part_fits count part side room less room_is =
    let parts : part + (count - part) ≡ count = omega (arith, less) in
    let all : room ≡ (part + (count - part)) * 4 * side = room_is ∙ ap (λ n. n * 4 * side) (sym parts) in
    omega (arith, all)

-- there are no more of their values than a program counts
pub part_small : (tiling : Tiles) (first count : ℕ) → IsTiled tiling → first + count ≤ count_of tiling
    → count * 4 * tiling.side ≤ 68719476736
part_small tiling first count tiled within =
    room_within count tiling.side (omega (arith, within, count_within tiling tiled)) tiled.tile_side.at_most

-- there is room for the tiles behind some of them
pub rest_room : (count half side room rest : ℕ) → half ≤ count → room ≡ count * 4 * side
    → rest + half * (4 * side) ≡ room → rest ≡ (count - half) * 4 * side
rest_room count half side room rest less room_is rest_is =
    let parts : half + (count - half) ≡ count = omega (arith, less) in
    let all : room ≡ (half + (count - half)) * 4 * side = room_is ∙ ap (λ n. n * 4 * side) (sym parts) in
    omega (arith, all, rest_is)

-- ---- one tile

module _ (tiling : Tiles) (image : Raster) (tile : ℕ) (tiled : IsTiled tiling) (within : tile < count_of tiling) where
  -- a strip with a lower rank stays as it is
  before_edge : (e edge : Edge) (old new : List ℕ) → IsEdgeTaken tiling image tile edge old new
      → rank_of e < rank_of edge → (p : Pixel) → IsInRect (strip_of tiling tile e) p
      → get_or old (own_place tiling tile e p) 0 ≡ value_at image p
      → get_or new (own_place tiling tile e p) 0 ≡ value_at image p
  before_edge e edge old new taken lower p inside had =
      let k : ℕ = index_of (strip_of tiling tile e).w (place_in (strip_of tiling tile e) p) in
      let rows : rank_of e * tiling.side + k < tiling.side * rank_of edge =
      mul-add-lt (rank_of e) tiling.side k (rank_of edge) lower (in_strip_room tiling tile tiled within e p inside) in
      taken.ahead (own_place tiling tile e p) (omega (arith, rows)) ∙ had

  pub own_taken : (start top bottom left end : List ℕ) → IsEdgeTaken tiling image tile edges.Top start top
      → IsEdgeTaken tiling image tile edges.Bottom top bottom
      → IsEdgeTaken tiling image tile edges.Left bottom left
      → IsEdgeTaken tiling image tile edges.Right left end → IsOwnRimOf tiling image tile end
  own_taken start top bottom left end by_top by_bottom by_left by_right edges.Top p inside =
      before_edge edges.Top edges.Right left end by_right (omega arith) p inside
      (before_edge edges.Top edges.Left bottom left by_left (omega arith) p inside
      (before_edge edges.Top edges.Bottom top bottom by_bottom (omega arith) p inside (by_top.here p inside)))
  own_taken start top bottom left end by_top by_bottom by_left by_right edges.Bottom p inside =
      before_edge edges.Bottom edges.Right left end by_right (omega arith) p inside
      (before_edge edges.Bottom edges.Left bottom left by_left (omega arith) p inside (by_bottom.here p inside))
  own_taken start top bottom left end by_top by_bottom by_left by_right edges.Left p inside =
      before_edge edges.Left edges.Right left end by_right (omega arith) p inside (by_left.here p inside)
  own_taken start top bottom left end by_top by_bottom by_left by_right edges.Right p inside = by_right.here p inside

  -- the strip's values are copied into their part of the list
  pub edge_taken : (edge : Edge) (cells old new : List ℕ) → IsReplaced (rank_of edge * tiling.side) cells old new
      → length cells ≡ tiling.side
      → ((p : Pixel) → IsInRect (strip_of tiling tile edge) p
      → get_or cells (index_of (strip_of tiling tile edge).w (place_in (strip_of tiling tile edge) p)) 0
      ≡ value_at image p)
      → IsEdgeTaken tiling image tile edge old new
  edge_taken edge cells old new replaced long values = record {
    count = replaced.long;
    here = λ p inside.
        let k : ℕ = index_of (strip_of tiling tile edge).w (place_in (strip_of tiling tile edge) p) in
        replaced.inside k
        (subst (λ n. k < n) (sym long) (in_strip_room tiling tile tiled within edge p inside))
        ∙ values p inside;
    ahead = replaced.ahead;
    behind = λ i after. replaced.behind i (subst (λ n. rank_of edge * tiling.side + n ≤ i) (sym long) after);
  }

-- ---- some tiles

-- it holds of the numbers so far
abbrev pub HoldsBefore : (ℕ → Type 0) → ℕ → ℕ → Type 0
HoldsBefore P end t = P t × (t < end)

module _ (P : ℕ → Type 0) (tiling : Tiles) (image : Raster) (first : ℕ) where
  pub none_part_taken : (count : ℕ) (values : List ℕ)
      → ArePartTaken (HoldsBefore P (first + 0)) tiling image first count values values
  none_part_taken count values = record {
    long = refl;
    taken = λ n below holds edge p inside. absurd (omega (arith, holds.1));
    others = λ n below spared k in_rim. refl;
  }

  -- the place of a tile's value lies outside the values of each other tile
  outside_own : (n m k : ℕ) → (m ≡ n → ⊥) → k < 4 * tiling.side
      → (m * 4 * tiling.side + k < n * 4 * tiling.side)
      ⊎ (n * 4 * tiling.side + 4 * tiling.side ≤ m * 4 * tiling.side + k)
  outside_own n m k other below = elim (cases_lt m n) [
    | inl before ↦
        let rows : (m + 1) * (4 * tiling.side) ≤ n * (4 * tiling.side) =
        mul-le (m + 1) (4 * tiling.side) n (4 * tiling.side) (omega (arith, before)) (omega arith) in
        inl (omega (arith, rows, below))
    | inr not_before ↦
        let rows : (n + 1) * (4 * tiling.side) ≤ m * (4 * tiling.side) =
        mul-le (n + 1) (4 * tiling.side) m (4 * tiling.side) (omega (arith, not_before, other)) (omega arith) in
        inr (omega (arith, rows))
  ]

  module _ (n count : ℕ) (old mid : List ℕ)
      (so_far : ArePartTaken (HoldsBefore P (first + n)) tiling image first count old mid) where
    -- the rim of the next tile is taken over
    pub one_more_taken : (own new : List ℕ) → P (first + n) → IsReplaced (n * 4 * tiling.side) own mid new
        → length own ≡ 4 * tiling.side → IsTiled tiling → first + count ≤ count_of tiling
        → IsOwnRimOf tiling image (first + n) own
        → ArePartTaken (HoldsBefore P (first + (n + 1))) tiling image first count old new
    one_more_taken own new holds_here replaced long tiled within rim =
        let elsewhere : (m k : ℕ) → (m ≡ n → ⊥) → k < 4 * tiling.side
        → get_or new (m * 4 * tiling.side + k) 0 ≡ get_or mid (m * 4 * tiling.side + k) 0 = λ m k other below.
        elim (outside_own n m k other below) [
          | inl before ↦ replaced.ahead (m * 4 * tiling.side + k) before
          | inr after ↦
              replaced.behind (m * 4 * tiling.side + k)
              (subst (λ j. n * 4 * tiling.side + j ≤ m * 4 * tiling.side + k) (sym long) after)
        ] in
        record {
          long = replaced.long ∙ so_far.long;
          taken = λ m below holds edge p inside. elim (cases_eq m n) [
            | inl is ↦
                let inside_here = subst (λ j. IsInRect (strip_of tiling (first + j) edge) p) is inside in
                let in_own : own_place tiling (first + n) edge p < 4 * tiling.side =
                own_below tiling (first + n) tiled (omega (arith, below, within, is)) edge p inside_here in
                ap (λ j. get_or new (j * 4 * tiling.side + own_place tiling (first + j) edge p) 0) is
                ∙ replaced.inside (own_place tiling (first + n) edge p)
                (subst (λ j. own_place tiling (first + n) edge p < j) (sym long) in_own)
                ∙ rim edge p inside_here
            | inr other ↦
                elsewhere m (own_place tiling (first + m) edge p) other
                (own_below tiling (first + m) tiled (omega (arith, below, within)) edge p inside)
                ∙ so_far.taken m below (holds.0, omega (arith, holds.1, other)) edge p inside
          ];
          others = λ m below spared k in_rim. elim (cases_eq m n) [
            | inl is ↦ absurd (spared (subst (λ j. P (first + j)) (sym is) holds_here, omega (arith, is)))
            | inr other ↦
                elsewhere m k other in_rim
                ∙ so_far.others m below (λ had. spared (had.0, omega (arith, had.1))) k in_rim
          ];
        }

    -- the next tile is none of them
    pub none_more_taken : (P (first + n) → ⊥)
        → ArePartTaken (HoldsBefore P (first + (n + 1))) tiling image first count old mid
    none_more_taken spared_here = record {
      long = so_far.long;
      taken = λ m below holds. elim (cases_eq m n) [
        | inl is ↦ absurd (spared_here (subst (λ j. P (first + j)) is holds.0))
        | inr other ↦ so_far.taken m below (holds.0, omega (arith, holds.1, other))
      ];
      others = λ m below spared. so_far.others m below (λ had. spared (had.0, omega (arith, had.1)));
    }

  -- all of them are taken over
  pub all_part_taken : (count : ℕ) (old new : List ℕ)
      → ArePartTaken (HoldsBefore P (first + count)) tiling image first count old new
      → ArePartTaken P tiling image first count old new
  all_part_taken count old new so_far = record {
    long = so_far.long;
    taken = λ n below holds. so_far.taken n below (holds, omega (arith, below));
    others = λ n below spared. so_far.others n below (λ had. spared had.0);
  }

  -- those of two parts are those of the whole
  pub both_taken : (half rest : ℕ) (here behind here_new behind_new : List ℕ) → IsTiled tiling
      → first + (half + rest) ≤ count_of tiling → length here ≡ half * 4 * tiling.side
      → ArePartTaken P tiling image first half here here_new
      → ArePartTaken P tiling image (first + half) rest behind behind_new
      → ArePartTaken P tiling image first (half + rest) (here ++ behind) (here_new ++ behind_new)
  both_taken half rest here behind here_new behind_new tiled within long front back =
      let room : ℕ = half * 4 * tiling.side in
      let long_new : length here_new ≡ room = front.long ∙ long in
      let in_front : (n k : ℕ) → n < half → k < 4 * tiling.side → n * 4 * tiling.side + k < room = λ n k below in_rim.
      let rows : n * (4 * tiling.side) + k < 4 * tiling.side * half =
      mul-add-lt n (4 * tiling.side) k half below in_rim in
      omega (arith, rows) in
      let in_back : (xs ys : List ℕ) → length xs ≡ room → (n k : ℕ) → half ≤ n
      → get_or (xs ++ ys) (n * 4 * tiling.side + k) 0 ≡ get_or ys ((n - half) * 4 * tiling.side + k) 0 =
      λ xs ys same n k from.
      let n_is : half + (n - half) ≡ n = omega (arith, from) in
      let place : n * 4 * tiling.side + k ≡ room + ((n - half) * 4 * tiling.side + k) =
      subst (λ j. j * 4 * tiling.side + k ≡ room + ((n - half) * 4 * tiling.side + k)) n_is (omega arith) in
      get_or-append_right xs ys room (n * 4 * tiling.side + k) 0 same (omega (arith, place))
      ∙ ap (λ i. get_or ys i 0) (omega (arith, place)) in
      record {
        long =
            omega (arith, length-append here_new behind_new, length-append here behind, front.long, back.long);
        taken = λ n below holds edge p inside. elim (cases_lt n half) [
          | inl before ↦
              let in_own = own_below tiling (first + n) tiled (omega (arith, below, within)) edge p inside in
              get_or_append_left here_new behind_new 0 (n * 4 * tiling.side + own_place tiling (first + n) edge p)
              (subst (λ j. n * 4 * tiling.side + own_place tiling (first + n) edge p < j) (sym long_new)
              (in_front n (own_place tiling (first + n) edge p) before in_own))
              ∙ front.taken n before holds edge p inside
          | inr from ↦
              let m : ℕ = n - half in
              let tile_is : first + half + m ≡ first + n = omega (arith, from) in
              in_back here_new behind_new long_new n (own_place tiling (first + n) edge p) from
              ∙ ap (λ t. get_or behind_new (m * 4 * tiling.side + own_place tiling t edge p) 0) (sym tile_is)
              ∙ back.taken m (omega (arith, below, from)) (subst P (sym tile_is) holds) edge p
              (subst (λ t. IsInRect (strip_of tiling t edge) p) (sym tile_is) inside)
        ];
        others = λ n below spared k in_rim. elim (cases_lt n half) [
          | inl before ↦
              let place = in_front n k before in_rim in
              get_or_append_left here_new behind_new 0 (n * 4 * tiling.side + k)
              (subst (λ j. n * 4 * tiling.side + k < j) (sym long_new) place)
              ∙ front.others n before spared k in_rim
              ∙ sym (get_or_append_left here behind 0 (n * 4 * tiling.side + k)
              (subst (λ j. n * 4 * tiling.side + k < j) (sym long) place))
          | inr from ↦
              let m : ℕ = n - half in
              let tile_is : first + half + m ≡ first + n = omega (arith, from) in
              in_back here_new behind_new long_new n k from
              ∙ back.others m (omega (arith, below, from)) (λ had. spared (subst P tile_is had)) k in_rim
              ∙ sym (in_back here behind long n k from)
        ];
      }

-- the rims of all tiles are a part, too
pub all_rims_taken : (P : ℕ → Type 0) (tiling : Tiles) (image : Raster) (old new : List ℕ) → IsTiled tiling
    → ArePartTaken P tiling image 0 (count_of tiling) old new → AreTaken P tiling image old new
all_rims_taken P tiling image old new tiled part = record {
  count = part.long;
  taken = λ t in_t holds edge p inside.
      let is : 0 + t ≡ t = zero-add t in
      let k : ℕ = index_of (strip_of tiling t edge).w (place_in (strip_of tiling t edge) p) in
      let there : get_or new (t * 4 * tiling.side + own_place tiling t edge p) 0 ≡ value_at image p =
      subst (λ u. IsInRect (strip_of tiling u edge) p
      → get_or new (t * 4 * tiling.side + own_place tiling u edge p) 0 ≡ value_at image p) is
      (part.taken t in_t (subst P (sym is) holds) edge p) inside in
      ap (λ i. get_or new i 0) (place_is_own t (rank_of edge) tiling.side k) ∙ there;
  others = λ t in_t spared edge p inside.
      let is : 0 + t ≡ t = zero-add t in
      let k : ℕ = index_of (strip_of tiling t edge).w (place_in (strip_of tiling t edge) p) in
      let there = part.others t in_t (λ had. spared (subst P is had)) (own_place tiling t edge p)
      (own_below tiling t tiled in_t edge p inside) in
      ap (λ i. get_or new i 0) (place_is_own t (rank_of edge) tiling.side k) ∙ there
      ∙ ap (λ i. get_or old i 0) (sym (place_is_own t (rank_of edge) tiling.side k));
}
