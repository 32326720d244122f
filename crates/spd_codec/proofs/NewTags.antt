-- A tag that is read above the one before it is new to the state of those before it.
use Rattle.std.proofs.Common.{◌≡◌, ℕ, ◌<◌, true, List, [], ◌∷◌, Option, Some, None, Ok, Err, refl, sym, ap, ◌∙◌, inl}
use Rattle.std.proofs.Common.{inr, arith}
use Rattle.std.proofs.lemmas.Bool.{ltb-true, lt-ltb}
use Rattle.std.specs.Int.{w128, from_be_bytes}
use Rattle.stroke_core.specs.Seed.{Seed}
use Rattle.stroke_lattice.specs.State.{State, HasSomeStroke, HasTombstone}
use Rattle.stroke_lattice.proofs.Shared.{only_one_stroke_more, only_one_more}
use Rattle.spd_codec.specs.{declared.version.Version.Version, Faults.is_above, Faults.tag_field}
use Rattle.spd_codec.specs.Reading.{◌>>=◌, Read, taken_at, judged, tag_at, kind_at, seed_at, stroke_at, with_stroke}
use Rattle.spd_codec.specs.Reading.{with_tombstone, gathered, onto}
use Rattle.spd_codec.proofs.{Steps.bind_ok, Steps.judged_ok, Steps.ok_is, RunLists.unless_none}

-- ---- what is read is above

-- a tag that was read
pub tag_above : (before : Option ℕ) (text : List ℕ) (x : ℕ × List ℕ) → tag_at before text ≡ Ok x
    → is_above before x.0 ≡ true
unfolding tag_at
tag_above before text x e =
    let a = bind_ok (taken_at 16 (from_be_bytes w128) text) (λ y. judged ((tag_field before).fault y.0) y) x e in
    let j = judged_ok ((tag_field before).fault a.0.0) a.0 x a.2 in
    let above : is_above before a.0.0 ≡ true = unless_none _ _ j.0 in
    ap (λ (y : ℕ × List ℕ). is_above before y.0) (sym j.1) ∙ above

-- that of a stroke that was read
pub stroke_above : (version : Version) (before : Option ℕ) (text : List ℕ) (x : (ℕ × Seed) × List ℕ)
    → stroke_at version before text ≡ Ok x → is_above before x.0.0 ≡ true
unfolding stroke_at
stroke_above version before text x e =
    let a = bind_ok (tag_at before text) (λ tag. kind_at version tag.1 >>= λ kind. seed_at kind.0 kind.1
    >>= λ seed. Ok ((tag.0, seed.0), seed.1)) x e in
    let b = bind_ok (kind_at version a.0.1) (λ kind. seed_at kind.0 kind.1
    >>= λ seed. Ok ((a.0.0, seed.0), seed.1)) x a.2 in
    let s = bind_ok (seed_at b.0.0 b.0.1) (λ seed. Ok ((a.0.0, seed.0), seed.1)) x b.2 in
    let is = ok_is ((a.0.0, s.0.0), s.0.1) x s.2 in
    ap (λ (y : (ℕ × Seed) × List ℕ). is_above before y.0.0) (sym is) ∙ tag_above before text a.0 a.1

-- ---- what is above is new

-- none that may come next is there
abbrev pub AreNewAbove : (ℕ → Type 0) → Option ℕ → Type 0
AreNewAbove Has last = (tag : ℕ) → is_above last tag ≡ true → Has tag → ⊥

-- above a tag that is above another
above_through : (last : Option ℕ) (tag next : ℕ) → is_above last tag ≡ true → tag < next → is_above last next ≡ true
above_through None tag next above lt = refl
above_through (Some before) tag next above lt =
    let low : before < tag = ltb-true before tag above in lt-ltb before next (omega arith)

-- one stroke more
pub strokes_new : (s : State) (tag : ℕ) (seed : Seed) (last : Option ℕ) → is_above last tag ≡ true
    → AreNewAbove (HasSomeStroke s) last → AreNewAbove (HasSomeStroke (with_stroke s (tag, seed))) (Some tag)
strokes_new s tag seed last above new next later some =
    let lt : tag < next = ltb-true tag next later in
    elim (only_one_stroke_more s tag seed next some) [
      | inl same ↦ absurd (omega arith)
      | inr before ↦ new next (above_through last tag next above lt) before
    ]

-- one tombstone more
pub tombstones_new : (s : State) (tag : ℕ) (last : Option ℕ) → is_above last tag ≡ true
    → AreNewAbove (HasTombstone s) last → AreNewAbove (HasTombstone (with_tombstone s tag)) (Some tag)
tombstones_new s tag last above new next later has =
    let lt : tag < next = ltb-true tag next later in
    elim (only_one_more s tag next has) [
      | inl same ↦ absurd (omega arith)
      | inr before ↦ new next (above_through last tag next above lt) before
    ]

-- ---- strokes leave tombstones alone

gathered_tombstones : (s : State) (xs : List (ℕ × Seed)) → (gathered with_stroke s xs).tombstones ≡ s.tombstones
gathered_tombstones s [] = refl
gathered_tombstones s (x ∷ xs) = gathered_tombstones (with_stroke s x) xs

-- where strokes were added to a state
pub same_tombstones : (s : State) (read : Read (List (ℕ × Seed))) (x : State × List ℕ)
    → onto with_stroke s read ≡ Ok x → x.0.tombstones ≡ s.tombstones
same_tombstones s (Ok xs) x e =
    ap (λ (y : State × List ℕ). y.0.tombstones) (sym (ok_is (gathered with_stroke s xs.0, xs.1) x e))
    ∙ gathered_tombstones s xs.0
same_tombstones s (Err d) x e = absurd cc
