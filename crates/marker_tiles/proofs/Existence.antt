-- Each state has a greatest level at each pixel, and so a marker.
use Rattle.std.proofs.Common.{◌≡◌, ℕ, ◌≤◌, ◌⊎◌, inl, inr, Bool, true, false, min, max, List, [], ◌∷◌, Option, Some}
use Rattle.std.proofs.Common.{None, refl, ap, subst, ◌∙◌, sym, arith, is_some, nat_cmp}
use Rattle.std.proofs.{lemmas.Bool.cases_lt, lemmas.Bool.Decides.nat_tests}
use Rattle.std.specs.{List.list_any, Ordering.eq_by_cmp}
use Rattle.grid_core.specs.{declared.pixel.Pixel.Pixel, Path.Domain}
use Rattle.grid_core.proofs.Common.{either, not_true}
use Rattle.stroke_core.specs.Seed.{Seed, covers}
use Rattle.stroke_lattice.specs.State.{State, HasStroke}
use Rattle.marker_tiles.specs.{Marker.IsMarkedAt, Marker.IsTopLevel, Marker.IsMarker, UnderTags.level_at}
use Rattle.marker_tiles.proofs.Levels.{level_or_none, level_where}
use Rattle.std.specs.FinMap as map
use Rattle.std.specs.FinSet as set

-- the level at the pixel of what a tag has, where it is not withdrawn
abbrev pub level_of : Option Seed → Bool → Pixel → ℕ
level_of None withdrawn p = 0
level_of (Some seed) true p = 0
level_of (Some seed) false p = level_at seed p

-- the greatest of the levels that tags of the state have at the pixel
abbrev pub top_of : State → List ℕ → Pixel → ℕ
top_of s [] p = 0
top_of s (tag ∷ tags) p = max (level_of (map.get s.strokes tag) (set.contains s.tombstones tag) p) (top_of s tags p)

level_is_marked : (s : State) (p : Pixel) (tag : ℕ) (has : Option Seed) (withdrawn : Bool)
    → map.get s.strokes tag ≡ has
    → set.contains s.tombstones tag ≡ withdrawn
    → (level_of has withdrawn p ≡ 0) ⊎ IsMarkedAt s p (level_of has withdrawn p)
level_is_marked s p tag None withdrawn e f = inl refl
level_is_marked s p tag (Some seed) true e f = inl refl
level_is_marked s p tag (Some seed) false e f = elim (level_or_none (covers seed p) seed.level) [
  | inl has ↦ inr (record {
    tag = tag;
    seed = seed;
    live = (e, λ gone. let both : false ≡ true = sym f ∙ gone in cc);
    covered = has.0;
    same_level = has.1;
  })
  | inr none ↦ inl none
]

-- it is 0 or that of a live stroke
top_is_marked : (s : State) (p : Pixel) (tags : List ℕ) → (top_of s tags p ≡ 0) ⊎ IsMarkedAt s p (top_of s tags p)
top_is_marked s p [] = inl refl
top_is_marked s p (tag ∷ tags) =
    let here = level_of (map.get s.strokes tag) (set.contains s.tombstones tag) p in
    elim (cases_lt (top_of s tags p) here) [
      | inl less ↦
          let same : here ≡ top_of s (tag ∷ tags) p = omega arith in
          elim (level_is_marked s p tag (map.get s.strokes tag) (set.contains s.tombstones tag) refl refl) [
            | inl none ↦ absurd (omega arith)
            | inr marked ↦ inr (subst (IsMarkedAt s p) same marked)
          ]
      | inr at_most ↦
          let same : top_of s tags p ≡ top_of s (tag ∷ tags) p = omega arith in
          elim (top_is_marked s p tags) [
            | inl none ↦ inl (sym same ∙ none)
            | inr marked ↦ inr (subst (IsMarkedAt s p) same marked)
          ]
    ]

same_tag : (a b : ℕ) → eq_by_cmp nat_cmp a b ≡ true → a ≡ b
same_tag a b e = grind (arith, nat_tests)

-- and no live stroke of the tags has a greater one
top_is_greatest : (s : State) (p : Pixel) (tags : List ℕ) (level : ℕ) (marked : IsMarkedAt s p level)
    → list_any (eq_by_cmp nat_cmp marked.tag) tags ≡ true → level ≤ top_of s tags p
top_is_greatest s p [] level marked among = absurd cc
top_is_greatest s p (tag ∷ tags) level marked among =
    elim (either (eq_by_cmp nat_cmp marked.tag tag) (list_any (eq_by_cmp nat_cmp marked.tag) tags) among) [
      | inl here ↦
          let same : marked.tag ≡ tag = same_tag marked.tag tag here in
          let stands : level_of (map.get s.strokes marked.tag) (set.contains s.tombstones marked.tag) p ≡ level =
          rw (marked.live.0, not_true (set.contains s.tombstones marked.tag) marked.live.1)
          (level_where (covers marked.seed p) marked.seed.level marked.covered ∙ marked.same_level) in
          let at_tag : level_of (map.get s.strokes tag) (set.contains s.tombstones tag) p ≡ level =
          subst (λ t. level_of (map.get s.strokes t) (set.contains s.tombstones t) p ≡ level) same stands in
          omega arith
      | inr there ↦
          let below : level ≤ top_of s tags p = top_is_greatest s p tags level marked there in
          omega arith
    ]

among_keys : (s : State) (tag : ℕ) (seed : Seed) → HasStroke s tag seed
    → list_any (eq_by_cmp nat_cmp tag) (map.keys s.strokes) ≡ true
among_keys s tag seed has = sym (map.contains_key-keys s.strokes tag) ∙ ap is_some has

-- the greatest level of the live strokes that cover the pixel
abbrev pub top_at : State → Pixel → ℕ
top_at s p = top_of s (map.keys s.strokes) p

pub has_top : (s : State) (p : Pixel) → IsTopLevel s p (top_at s p)
has_top s p = record {
  attained = top_is_marked s p (map.keys s.strokes);
  greatest = λ level marked.
      top_is_greatest s p (map.keys s.strokes) level marked (among_keys s marked.tag marked.seed marked.live.0);
}

pub some_marker : (d : Domain) (mask : Pixel → ℕ) (s : State) → (marker : Pixel → ℕ) × IsMarker d mask s marker
some_marker d mask s =
    (λ p. min (mask p) (top_at s p), λ p inside. (top_at s p, has_top s p, refl))
