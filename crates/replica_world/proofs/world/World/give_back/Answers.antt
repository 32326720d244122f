use Rattle.std.proofs.Common.{◌<◌, length, refl, arith}
use Rattle.std.proofs.lemmas.{Option.slice_get_read, Result.IfOk-from_err}
use Rattle.core_rules.specs.Events.{GiveBack, OfGiveBack}
use Rattle.replica_world.proofs.{Ground.happens_on, Worlds.stored_with, Worlds.moved}
use Rattle.replica_world.proofs.world.World.give_back.Goals as goal

pub invariant_of-self-2 : goal.invariant_of-self-2
invariant_of-self-2 c =
    let within : c.args.replica < length c.self.inside.replicas.items =
    omega (arith, c.if-replica-len.false, c.len.ensures) in
    let done = c.in_ok-give_back.ensures in
    stored_with c.args.replica c.self.invariant within c.index_mut.ensures.value c.give_back.new.self
    (happens_on c.index_mut.result.now.core c.give_back.new.self.core (GiveBack c.index.result.now)
    (OfGiveBack done.given.0) (done.swept, done.given.1))

pub returns-clause-done : goal.returns-clause-done
returns-clause-done c =
    let held = c.self.inside in
    let results = held.results.items in
    let within : c.args.replica < length held.replicas.items = omega (arith, c.if-replica-len.false, c.len.ensures) in
    let there : c.args.place < length results = omega (arith, c.if-place-len.false, c.len-else-replica-len.ensures) in
    let done = c.in_ok-give_back.ensures in
    let swept = c.index.result.now in
    rw (← c.self.view_is) (
      within,
      (
        swept,
        slice_get_read results (length results) c.args.place swept refl there c.index.ensures,
        moved c.args.replica c.self.invariant within c.index_mut.ensures.value c.give_back.new.self results held.steps
            (GiveBack swept) (OfGiveBack done.given.0) (done.swept, done.given.1) done.took,
      ),
    )

pub returns-in_err-give_back-clause-done : goal.returns-in_err-give_back-clause-done
returns-in_err-give_back-clause-done c = IfOk-from_err _ _ c.from_residual.ensures.0
