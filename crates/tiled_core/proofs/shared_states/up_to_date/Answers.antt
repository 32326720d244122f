-- What the tactics leave open of `up_to_date`.
use Rattle.std.proofs.Common.{rules, ◌≡◌, IfSome, Option, subst}
use Rattle.std.proofs.lemmas.Option.{IfSome_then}
use Rattle.std.specs.Arc.{arc_value}
use Rattle.stroke_lattice.specs.State.{State, IsJoin}
use Rattle.stroke_lattice.proofs.Joins.{one_join}
use Rattle.tiled_core.specs.SharedStates.{IsKeptFor}
use Rattle.tiled_core.specs.declared.shared_states.KeptState.{KeptState}
use Rattle.tiled_core.proofs.shared_states.up_to_date.Goals as goal

pub returns : goal.returns
returns c state kept =
    let old = c.in_ok-copy.field-0 in
    let same : arc_value old.copy ≡ c.in_ok-ok.field-0 = search rules in
    let was : IsJoin c.in_ok-ok.field-0 old.since state =
    subst (λ (s : State). IsJoin s old.since state) same
    (subst (λ (o : Option KeptState). IfSome o (IsKeptFor state)) c.in_ok-copy.was kept) in
    IfSome_then c.joined.result c.joined.ensures
    (λ copy joined. one_join c.in_ok-ok.field-0 old.since copy state joined was)
