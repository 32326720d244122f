-- A delta of one stroke or one tombstone, beside an image and a state.
use Rattle.std.proofs.Common.{ℕ, refl, sym, subst, ◌∙◌, arith}
use Rattle.stroke_core.specs.Seed.{Seed, Fits}
use Rattle.stroke_lattice.specs.State.{State, HasStroke, HasSomeStroke, HasTombstone, HasOtherStroke, placed, withdrawn}
use Rattle.stroke_lattice.specs.State.{StateFits, IsLeastOutside, AreCompatible, IsLeastClash, IsJoin}
use Rattle.stroke_lattice.proofs.Joins.{nothing_has_no_stroke, nothing_has_no_tombstone}
use Rattle.stroke_lattice.proofs.Growing.{with_stroke, with_tombstone, placed_has, withdrawn_has, stroke_of_new}
use Rattle.stroke_lattice.proofs.Growing.{tombstone_of_new, between_at_first, grows_by_stroke, grows_by_tombstone}
use Rattle.stroke_lattice.proofs.Growing.{grown_is_join}

-- ---- beside an image

pub one_fits : (w h tag : ℕ) (seed : Seed) → Fits w h seed → StateFits w h (placed tag seed)
one_fits w h tag seed fits t x has = subst (Fits w h) (sym ((placed_has tag t seed x).0 has).1) fits

pub one_outside : (w h tag : ℕ) (seed : Seed) → (Fits w h seed → ⊥) → IsLeastOutside w h (placed tag seed) tag
one_outside w h tag seed unfit = (
  (seed, (placed_has tag tag seed seed).1 (refl, refl), unfit),
  λ other out. omega (arith, ((placed_has tag other seed out.0).0 out.1).0),
)

pub tombstone_fits : (w h tag : ℕ) → StateFits w h (withdrawn tag)
tombstone_fits w h tag t x has = absurd (nothing_has_no_stroke t x has)

-- ---- beside a state

pub one_clash : (s : State) (tag : ℕ) (seed : Seed) → HasOtherStroke s tag seed
    → IsLeastClash s (placed tag seed) tag
one_clash s tag seed other = (
  record {
    seed = other.0;
    other = seed;
    in_first = other.1;
    in_second = (placed_has tag tag seed seed).1 (refl, refl);
    differ = other.2;
  },
  λ t clash. omega (arith, ((placed_has tag t seed clash.other).0 clash.in_second).0),
)

pub no_clash : (s : State) (tag : ℕ) (seed : Seed) → (HasOtherStroke s tag seed → ⊥)
    → AreCompatible s (placed tag seed)
no_clash s tag seed none t clash =
    let is = (placed_has tag t seed clash.other).0 clash.in_second in
    none (clash.seed, subst (λ (q : ℕ). HasStroke s q clash.seed) is.0 clash.in_first, λ e. clash.differ (e ∙ sym is.1))

pub tombstone_is_compatible : (s : State) (tag : ℕ) → AreCompatible s (withdrawn tag)
tombstone_is_compatible s tag t clash = nothing_has_no_stroke t clash.other clash.in_second

-- ---- joined with a state

-- a stroke under a tag that has none
pub join_with_new : (s : State) (tag : ℕ) (seed : Seed) → (HasSomeStroke s tag → ⊥)
    → AreCompatible s (placed tag seed) → IsJoin s (placed tag seed) (with_stroke s tag seed)
join_with_new s tag seed new compatible =
    let given : HasStroke (placed tag seed) tag seed = (placed_has tag tag seed seed).1 (refl, refl) in
    grown_is_join s (placed tag seed) (with_stroke s tag seed) compatible
    (grows_by_stroke s (placed tag seed) s tag seed (between_at_first s (placed tag seed)) given new)
    (λ t some. subst (HasSomeStroke (with_stroke s tag seed)) (sym ((placed_has tag t seed some.0).0 some.1).0)
    (seed, stroke_of_new s tag seed))
    (λ t has. absurd (nothing_has_no_tombstone t has))

-- a stroke that is there
pub join_with_held : (s : State) (tag : ℕ) (seed : Seed) → HasSomeStroke s tag → AreCompatible s (placed tag seed)
    → IsJoin s (placed tag seed) s
join_with_held s tag seed held compatible =
    grown_is_join s (placed tag seed) s compatible (between_at_first s (placed tag seed))
    (λ t some. subst (HasSomeStroke s) (sym ((placed_has tag t seed some.0).0 some.1).0) held)
    (λ t has. absurd (nothing_has_no_tombstone t has))

-- a tombstone
pub join_with_tombstone : (s : State) (tag : ℕ) → IsJoin s (withdrawn tag) (with_tombstone s tag)
join_with_tombstone s tag =
    grown_is_join s (withdrawn tag) (with_tombstone s tag) (tombstone_is_compatible s tag)
    (grows_by_tombstone s (withdrawn tag) s tag (between_at_first s (withdrawn tag)) ((withdrawn_has tag tag).1 refl))
    (λ t some. absurd (nothing_has_no_stroke t some.0 some.1))
    (λ t has. subst (HasTombstone (with_tombstone s tag)) (sym ((withdrawn_has tag t).0 has)) (tombstone_of_new s tag))

-- a tombstone that is there
pub join_with_buried : (s : State) (tag : ℕ) → HasTombstone s tag → IsJoin s (withdrawn tag) s
join_with_buried s tag buried =
    grown_is_join s (withdrawn tag) s (tombstone_is_compatible s tag) (between_at_first s (withdrawn tag))
    (λ t some. absurd (nothing_has_no_stroke t some.0 some.1))
    (λ t has. subst (HasTombstone s) (sym ((withdrawn_has tag t).0 has)) buried)
