-- The greatest level at a pixel.
use Rattle.std.proofs.Common.{◌≡◌, ℕ, ◌≤◌, ◌⊎◌, ◌↔◌, inl, inr, Bool, true, false, min, max, List, [], ◌∷◌, ◌++◌, refl}
use Rattle.std.proofs.Common.{ap, ◌∙◌, sym, arith, Contains, IsTrue, if◌then◌else◌}
use Rattle.std.proofs.lemmas.Bool.{cases_lt}
use Rattle.grid_core.specs.{declared.pixel.Pixel.Pixel, Path.Domain, Path.Inside}
use Rattle.stroke_core.specs.Seed.{Seed, covers}
use Rattle.stroke_lattice.specs.State.{State, IsLive}
use Rattle.marker_tiles.specs.{Marker.IsTopLevel, Marker.IsMarker, UnderTags.level_at}
use Rattle.grid_core.proofs.Common.{first, later, first_or_later, not_in_empty}

-- ---- it is one number, and so the marker is one

top_at_most : (s : State) (p : Pixel) (a b : ℕ) → IsTopLevel s p a → IsTopLevel s p b → a ≤ b
top_at_most s p a b one other = elim one.attained [
  | inl none ↦ omega arith
  | inr marked ↦ other.greatest a marked
]

one_top : (s : State) (p : Pixel) (a b : ℕ) → IsTopLevel s p a → IsTopLevel s p b → a ≡ b
one_top s p a b one other =
    let below : a ≤ b = top_at_most s p a b one other in
    let above : b ≤ a = top_at_most s p b a other one in
    omega arith

pub one_marker : (d : Domain) (mask : Pixel → ℕ) (s : State) (a b : Pixel → ℕ) → IsMarker d mask s a
    → IsMarker d mask s b
    → (p : Pixel) → Inside d p → a p ≡ b p
one_marker d mask s a b is_a is_b p inside =
    let at_a = is_a p inside in
    let at_b = is_b p inside in
    at_a.2 ∙ ap (λ top. min (mask p) top) (one_top s p at_a.0 at_b.0 at_a.1 at_b.1) ∙ sym at_b.2

pub marker_within : (d : Domain) (mask : Pixel → ℕ) (s : State) (marker : Pixel → ℕ) → IsMarker d mask s marker
    → (p : Pixel) → Inside d p → marker p ≤ mask p
marker_within d mask s marker is p inside = omega (arith, (is p inside).2)

-- ---- that of a list of strokes

-- a stroke under its tag
abbrev pub Entry : Type 0
Entry = ℕ × Seed

-- the greatest of the levels that the seeds have at the pixel
abbrev pub top_level : List Entry → Pixel → ℕ
top_level [] p = 0
top_level (entry ∷ entries) p = max (level_at entry.1 p) (top_level entries p)

pub level_or_none : (b : Bool) (level : ℕ)
    → ((b ≡ true) × (level ≡ (if b then level else 0))) ⊎ ((if b then level else 0) ≡ 0)
level_or_none true level = inl (refl, refl)
level_or_none false level = inr refl

pub level_where : (b : Bool) (level : ℕ) → b ≡ true → (if b then level else 0) ≡ level
level_where b level e = ap (λ t. if t then level else 0) e

-- an entry of the list has this level at the pixel
record HasLevel (entries : List Entry) (p : Pixel) (level : ℕ) : Type 0 where
  tag : ℕ
  seed : Seed
  member : Contains entries (tag, seed)
  covered : IsTrue (covers seed p)
  same_level : seed.level ≡ level

-- the greatest level is 0 or that of an entry
top_attained : (entries : List Entry) (p : Pixel)
    → (top_level entries p ≡ 0) ⊎ HasLevel entries p (top_level entries p)
top_attained [] p = inl refl
top_attained (entry ∷ entries) p = elim (cases_lt (top_level entries p) (level_at entry.1 p)) [
  | inl here ↦ elim (level_or_none (covers entry.1 p) entry.1.level) [
    | inl has ↦ inr (record {
      tag = entry.0;
      seed = entry.1;
      member = first entry entries;
      covered = has.0;
      same_level = omega (arith, has.1);
    })
    | inr none ↦ absurd (omega arith)
  ]
  | inr there ↦ elim (top_attained entries p) [
    | inl none ↦ inl (omega arith)
    | inr has ↦ inr (record {
      tag = has.tag;
      seed = has.seed;
      member = later entry entries (has.tag, has.seed) has.member;
      covered = has.covered;
      same_level = omega (arith, has.same_level);
    })
  ]
]

-- and no entry has a greater one
top_greatest : (entries : List Entry) (p : Pixel) (tag : ℕ) (seed : Seed) → Contains entries (tag, seed)
    → IsTrue (covers seed p)
    → seed.level ≤ top_level entries p
top_greatest [] p tag seed member covered = absurd (not_in_empty (tag, seed) member)
top_greatest (entry ∷ entries) p tag seed member covered = elim (first_or_later entry entries (tag, seed) member) [
  | inl here ↦
      let same : level_at entry.1 p ≡ seed.level =
      ap (λ (e : Entry). level_at e.1 p) here ∙ level_where (covers seed p) seed.level covered in
      omega arith
  | inr there ↦
      let below : seed.level ≤ top_level entries p = top_greatest entries p tag seed there covered in
      omega arith
]

-- of the live strokes it is the state's
pub top_of_live : (s : State) (entries : List Entry) (p : Pixel)
    → ((tag : ℕ) (seed : Seed) → Contains entries (tag, seed) ↔ IsLive s tag seed)
    → IsTopLevel s p (top_level entries p)
top_of_live s entries p each = record {
  attained = elim (top_attained entries p) [
    | inl none ↦ inl none
    | inr has ↦ inr (record {
      tag = has.tag;
      seed = has.seed;
      live = (each has.tag has.seed).0 has.member;
      covered = has.covered;
      same_level = has.same_level;
    })
  ];
  greatest = λ level marked.
      let member = (each marked.tag marked.seed).1 marked.live in
      let below : marked.seed.level ≤ top_level entries p =
      top_greatest entries p marked.tag marked.seed member marked.covered in
      omega (arith, marked.same_level, below);
}

-- one entry more
pub top_level-push : (entries : List Entry) (entry : Entry) (p : Pixel)
    → top_level (entries ++ entry ∷ []) p ≡ max (top_level entries p) (level_at entry.1 p)
top_level-push [] entry p = omega arith
top_level-push (first ∷ entries) entry p =
    let rest = top_level-push entries entry p in
    let a = level_at first.1 p in
    let b = top_level entries p in
    let c = level_at entry.1 p in
    ap (λ n. max a n) rest ∙ (let e : max a (max b c) ≡ max (max a b) c = omega arith in e)
