-- The first entry of a walk that clashes, or that does not fit, has the least such tag.
use Rattle.std.proofs.Common.{◌≡◌, ℕ, List, ◌∷◌, subst}
use Rattle.stroke_core.specs.Seed.{Seed, Fits}
use Rattle.stroke_lattice.specs.State.{State, HasStroke, IsLeastClash, IsLeastOutside}
use Rattle.stroke_lattice.proofs.Walking.{StrokesLeft, stroke_here, stroke_least}

-- the state has another seed at the tag
abbrev pub HasOther : State → ℕ → Seed → Type 0
HasOther s tag seed = (other : Seed) × HasStroke s tag other × (other ≡ seed → ⊥)

-- the state has no other seed at the tag
abbrev pub HasNoOther : State → ℕ → Seed → Type 0
HasNoOther s tag seed = HasOther s tag seed → ⊥

pub least_clash : (s delta : State) (tag : ℕ) (seed : Seed) (before left : List (ℕ × Seed))
    → before ≡ (tag, seed) ∷ left → StrokesLeft (HasNoOther s) delta before → HasOther s tag seed
    → IsLeastClash s delta tag
least_clash s delta tag seed before left is walk other =
    let at : StrokesLeft (HasNoOther s) delta ((tag, seed) ∷ left) = subst (StrokesLeft (HasNoOther s) delta) is
    walk in (
      record {
        seed = other.0;
        other = seed;
        in_first = other.1;
        in_second = stroke_here (HasNoOther s) delta (tag, seed) left at;
        differ = other.2;
      },
      λ t clash. stroke_least (HasNoOther s) delta (tag, seed) left at t clash.other clash.in_second
          (λ none. none (clash.seed, clash.in_first, clash.differ)),
    )

pub least_outside : (w h : ℕ) (s : State) (tag : ℕ) (seed : Seed) (before left : List (ℕ × Seed))
    → before ≡ (tag, seed) ∷ left → StrokesLeft (λ t x. Fits w h x) s before → (Fits w h seed → ⊥)
    → IsLeastOutside w h s tag
least_outside w h s tag seed before left is walk unfit =
    let at : StrokesLeft (λ t x. Fits w h x) s ((tag, seed) ∷ left) = subst (StrokesLeft (λ t x. Fits w h x) s) is
    walk in (
      (seed, stroke_here (λ t x. Fits w h x) s (tag, seed) left at, unfit),
      λ t outside. stroke_least (λ t x. Fits w h x) s (tag, seed) left at t outside.0 outside.1 outside.2,
    )
