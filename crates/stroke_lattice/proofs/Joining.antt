-- The laws of joining.
use Rattle.std.proofs.Common.{◌≡◌, ℕ, List, [], ◌∷◌, ◌++◌, sym, subst, ◌↔◌}
use Rattle.stroke_core.specs.Seed.{Seed}
use Rattle.stroke_lattice.specs.State.{State, HasStroke, HasTombstone, IsBelow, IsJoin, AreCompatible, nothing}
use Rattle.stroke_lattice.specs.State.{IsJoinOf}
use Rattle.stroke_lattice.proofs.Joins.{same_state, below_itself, below_through, compatible_below, one_join, both}
use Rattle.stroke_lattice.proofs.Joins.{both_is_union, union_is_join, one_list_join, longer_from_join, nothing_is_join}

pub joined : (a b : State) → AreCompatible a b → (join : State) × IsJoin a b join
joined a b compatible = (both a b, union_is_join a b (both a b) (both_is_union a b compatible))

pub swapped : (a b join : State) → IsJoin a b join → IsJoin b a join
swapped a b join j = record { first = j.second; second = j.first; least = λ other f g. j.least other g f }

pub itself : (a : State) → IsJoin a a a
itself a = record { first = below_itself a; second = below_itself a; least = λ other f g. f }

pub idempotent : (a join : State) → IsJoin a a join ↔ (join ≡ a)
idempotent a join = (λ j. one_join a a join a j (itself a), λ e. subst (IsJoin a a) (sym e) (itself a))

-- the join of the last two is there where that of all three is
pub to_right : (a b c join : State) → (ab : State) × IsJoin a b ab × IsJoin ab c join
    → (bc : State) × IsJoin b c bc × IsJoin a bc join
to_right a b c join (ab, left, whole) =
    let b_below : IsBelow b join = below_through b ab join left.second whole.first in
    let bc = joined b c (compatible_below b c join b_below whole.second) in (
      bc.0,
      bc.1,
      record {
        first = below_through a ab join left.first whole.first;
        second = bc.1.least join b_below whole.second;
        least = λ other f g. whole.least other (left.least other f (below_through b bc.0 other bc.1.first g))
            (below_through c bc.0 other bc.1.second g);
      },
    )

pub to_left : (a b c join : State) → (bc : State) × IsJoin b c bc × IsJoin a bc join
    → (ab : State) × IsJoin a b ab × IsJoin ab c join
to_left a b c join (bc, right, whole) =
    let b_below : IsBelow b join = below_through b bc join right.first whole.second in
    let ab = joined a b (compatible_below a b join whole.first b_below) in (
      ab.0,
      ab.1,
      record {
        first = ab.1.least join whole.first b_below;
        second = below_through c bc join right.second whole.second;
        least = λ other f g. whole.least other (below_through a ab.0 other ab.1.first f)
            (right.least other (below_through b ab.0 other ab.1.second f) g);
      },
    )

pub empty_list : (join : State) → IsJoinOf [] join ↔ (join ≡ nothing)
empty_list join = (
  λ j. one_list_join [] join nothing j nothing_is_join,
  λ e. subst (IsJoinOf []) (sym e) nothing_is_join,
)

pub longer : (states : List State) (s delta : State) → IsJoinOf states s → AreCompatible s delta
    → (join : State) × IsJoinOf (states ++ delta ∷ []) join
longer states s delta is_s compatible =
    let next = joined s delta compatible in
    (next.0, longer_from_join states s delta next.0 is_s next.1)

pub decided : (a b : State) → ((tag : ℕ) (seed : Seed) → HasStroke a tag seed ↔ HasStroke b tag seed)
    → ((tag : ℕ) → HasTombstone a tag ↔ HasTombstone b tag) → a ≡ b
decided a b strokes tombstones = same_state a b
    (record { strokes = λ tag seed. (strokes tag seed).0; tombstones = λ tag. (tombstones tag).0 })
    (record { strokes = λ tag seed. (strokes tag seed).1; tombstones = λ tag. (tombstones tag).1 })
