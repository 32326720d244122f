use Rattle.std.proofs.Common.{◌<◌, length, refl, arith}
use Rattle.std.proofs.lemmas.Option.{slice_get_read}
use Rattle.core_rules.specs.Events.{Abandon, OfAbandon}
use Rattle.replica_world.proofs.{Ground.happens_on, Worlds.stored_with, Worlds.moved}
use Rattle.replica_world.proofs.world.World.abandon.Goals as goal

pub invariant_of-self : goal.invariant_of-self
invariant_of-self c =
    let within : c.args.replica < length c.self.inside.replicas.items =
    omega (arith, c.if-replica-len.false, c.len.ensures) in
    stored_with c.args.replica c.self.invariant within c.index_mut.ensures.value c.abandon-was_out.new.self
    (happens_on c.index_mut.result.now.core c.abandon-was_out.new.self.core (Abandon c.ticket-ticket.result)
    (OfAbandon c.abandon-was_out.result) c.abandon-was_out.ensures.abandoned)

pub returns-clause-done : goal.returns-clause-done
returns-clause-done c =
    let held = c.self.inside in
    let results = held.results.items in
    let within : c.args.replica < length held.replicas.items = omega (arith, c.if-replica-len.false, c.len.ensures) in
    let there : c.args.place < length results = omega (arith, c.if-place-len.false, c.len-else-replica-len.ensures) in
    let swept = c.index.result.now in
    rw (← c.self.view_is) (
      within,
      (
        swept,
        slice_get_read results (length results) c.args.place swept refl there c.index.ensures,
        moved c.args.replica c.self.invariant within c.index_mut.ensures.value c.abandon-was_out.new.self results
            held.steps (Abandon swept.job.ticket) (OfAbandon c.abandon-was_out.result)
            (rw c.ticket-ticket.ensures at c.abandon-was_out.ensures.abandoned) c.abandon-was_out.ensures.took,
      ),
    )
