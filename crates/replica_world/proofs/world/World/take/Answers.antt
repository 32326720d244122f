use Rattle.std.proofs.Common.{◌∙◌, ◌<◌, List, set, length, refl, sym, subst, ap, arith, inr}
use Rattle.std.proofs.lemmas.Result.{err_from_is_err_and}
use Rattle.tile_generations.specs.Jobs.{Swept}
use Rattle.core_rules.specs.{Work.Core, Events.Take, Events.OfTake}
use Rattle.replica_world.specs.{World.World, World.Replica, World.nobody, Stored.world_of}
use Rattle.replica_world.proofs.{Ground.HaveSameGround, Ground.happens_on, Ground.serial_on}
use Rattle.replica_world.proofs.Worlds.{read_at, is_old, stored_with, taken_and_swept, serial_spent}
use Rattle.replica_world.proofs.world.World.take.Goals as goal

pub invariant_of-self : goal.invariant_of-self
invariant_of-self c =
    let within : c.args.replica < length c.self.inside.replicas.items =
    omega (arith, c.if-replica-len.false, c.len.ensures) in
    let old = c.index_mut.result.now in
    stored_with c.args.replica c.self.invariant within c.index_mut.ensures.value c.take.new.self
    (subst (HaveSameGround old.core) (sym c.in_err-take.ensures.err)
    (serial_on old.core c.take.new.self.core.serial))

pub returns-in_err-take-clause-refused : goal.returns-in_err-take-clause-refused
returns-in_err-take-clause-refused c =
    let held = c.self.inside in
    let within : c.args.replica < length held.replicas.items = omega (arith, c.if-replica-len.false, c.len.ensures) in
    let failed = c.in_err-take.ensures in
    let with_results : List Swept → World = λ results.
    world_of held.conn held.print (set held.replicas.items c.args.replica c.take.new.self) held.packets.items results
    held.steps in
    let there = is_old c.args.replica c.self.invariant within c.index_mut.ensures.value in
    let spent =
    serial_spent c.args.replica c.self.invariant within c.index_mut.ensures.value c.take.new.self held.results.items
    held.steps failed.err failed.took in
    let p = err_from_is_err_and c.from_residual.result c.from_residual.ensures.1 in
    rw (p.1, p.2, ← c.self.view_is)
    (inr (refl, (within, rw there failed.ready, (c.take.new.self.core.serial, ap with_results failed.kept ∙ spent))))

pub invariant_of-self-2 : goal.invariant_of-self-2
invariant_of-self-2 c =
    let within : c.args.replica < length c.self.inside.replicas.items =
    omega (arith, c.if-replica-len.false, c.len.ensures) in
    let taken = c.in_ok-take.ensures.taken in
    stored_with c.args.replica c.self.invariant within c.index_mut.ensures.value c.take.new.self
    (happens_on c.index_mut.result.now.core c.take.new.self.core (Take c.args.tile) (OfTake taken.0) taken.2)

pub returns-clause-done : goal.returns-clause-done
returns-clause-done c =
    let held = c.self.inside in
    let rs = held.replicas.items in
    let within : c.args.replica < length rs = omega (arith, c.if-replica-len.false, c.len.ensures) in
    let done = c.in_ok-take.ensures in
    let taken = done.taken in
    let core =
    c.core.ensures.value
    ∙ sym (ap (λ (replica : Replica). replica.core)
    (read_at rs c.args.replica c.index.result.now nobody within c.index.ensures)) in
    let count = c.tiles.ensures ∙ ap (λ (k : Core). length k.tiles) core in
    rw (← c.self.view_is) (
      within,
      subst (λ n. c.args.tile < n) count c.if-tile-tiles.false,
      taken_and_swept c.args.replica c.self.invariant within c.index_mut.ensures.value c.take.new.self
          held.results.items c.take.new.results.items held.steps c.args.tile taken.0 taken.1 taken.2 taken.3 taken.4
          done.took,
    )
