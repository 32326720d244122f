use Rattle.std.proofs.Common.{sym, subst, ap}
use Rattle.stroke_lattice.specs.State.{IsJoinOf}
use Rattle.core_rules.specs.Work.{Core}
use Rattle.replica_world.proofs.replica.Replica.open.Goals as goal

pub invariant_of-result : goal.invariant_of-result
invariant_of-result c =
    let core = c.in_ok-open.field-0 in
    let empty = ap (λ (k : Core). k.state) c.in_ok-open.ensures.value in
    subst (λ deltas. IsJoinOf deltas core.state) (sym c.new.ensures.items)
    ((c.join_of_an_empty_list.ensures core.state).1 empty)
