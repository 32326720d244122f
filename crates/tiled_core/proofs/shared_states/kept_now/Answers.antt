-- What the tactics leave open of `kept_now`.
use Rattle.std.proofs.Common.{rules, ◌≡◌, subst, sym}
use Rattle.std.specs.Arc.{arc_value}
use Rattle.stroke_lattice.specs.State.{State, IsJoin, nothing}
use Rattle.tiled_core.proofs.SharedStates.{merged_nothing}
use Rattle.tiled_core.proofs.shared_states.kept_now.Goals as goal

pub returns : goal.returns
returns c =
    let copy = arc_value c.args.copy in
    let empty : c.in_ok-or.field-0 ≡ nothing = search rules in
    subst (λ (s : State). IsJoin copy s copy) (sym empty) (merged_nothing copy)
