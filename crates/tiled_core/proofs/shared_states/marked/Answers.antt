-- What the tactics leave open of `marked`.
use Rattle.std.proofs.Common.{IfSome, Option, subst}
use Rattle.std.specs.Arc.{arc_value}
use Rattle.tiled_core.specs.SharedStates.{IsKeptFor}
use Rattle.tiled_core.specs.declared.shared_states.KeptState.{KeptState}
use Rattle.tiled_core.proofs.SharedStates.{merged_since}
use Rattle.tiled_core.proofs.shared_states.marked.Goals as goal

pub returns : goal.returns
returns c before after kept joined =
    let old = c.in_ok-copy.field-0 in
    merged_since (arc_value old.copy) old.since c.args.delta.now before after c.in_ok-joined.field-0
    (subst (λ (o : Option KeptState). IfSome o (IsKeptFor before)) c.in_ok-copy.was kept) joined c.in_ok-joined.ensures
