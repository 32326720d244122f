use Rattle.std.proofs.{Common.◌<◌, Common.length, Common.arith, lemmas.Result.err_from_is_err_and}
use Rattle.core_rules.specs.Events.{Merge, OfMerge}
use Rattle.replica_world.specs.Stored.{world_of}
use Rattle.replica_world.proofs.{Ground.happens_on, Refusals.edit_refused}
use Rattle.replica_world.proofs.Worlds.{is_old, stored_with, taken_in, unchanged}
use Rattle.replica_world.proofs.world.World.edit.Goals as goal

pub returns-in_err-take_in-clause-refused : goal.returns-in_err-take_in-clause-refused
returns-in_err-take_in-clause-refused c =
    let held = c.self.inside in
    let within : c.args.replica < length held.replicas.items = omega (arith, c.if-replica-len.false, c.len.ensures) in
    let why = c.in_err-take_in.field-0.0 in
    let before = world_of held.conn held.print held.replicas.items held.packets.items held.results.items held.steps in
    let there = is_old c.args.replica c.self.invariant within c.index_mut.ensures.value in
    let same =
    unchanged c.args.replica c.self.invariant within c.index_mut.ensures.value c.take_in.new.self held.results.items
    held.steps c.in_err-take_in.ensures.err in
    let p = err_from_is_err_and c.from_residual.result c.from_residual.ensures.1 in
    rw (p.1, p.2, ← c.self.view_is) (edit_refused before _ c.args.replica c.args.delta.now why within
    (rw there c.in_err-take_in.ensures.refused) same)

pub invariant_of-self-2 : goal.invariant_of-self-2
invariant_of-self-2 c =
    let within : c.args.replica < length c.self.inside.replicas.items =
    omega (arith, c.if-replica-len.false, c.len.ensures) in
    let merged = c.in_ok-take_in.ensures.merged in
    stored_with c.args.replica c.self.invariant within c.index_mut.ensures.value c.take_in.new.self
    (happens_on c.index_mut.result.now.core c.take_in.new.self.core (Merge c.args.delta.now) (OfMerge merged.0)
    merged.1)

pub returns-clause-done : goal.returns-clause-done
returns-clause-done c =
    let held = c.self.inside in
    let within : c.args.replica < length held.replicas.items = omega (arith, c.if-replica-len.false, c.len.ensures) in
    let done = c.in_ok-take_in.ensures in
    rw (← c.self.view_is) (
      within,
      taken_in c.args.replica c.self.invariant within c.index_mut.ensures.value c.take_in.new.self held.results.items
          held.steps c.args.delta.now done.merged.0 done.merged.1 done.took,
    )
