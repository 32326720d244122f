use Rattle.std.proofs.{Common.◌<◌, Common.subst, lemmas.Result.IfErr-weaker, lemmas.Result.on_ok_weaker}
use Rattle.replica_world.specs.Events.{IsRefusal}
use Rattle.replica_world.proofs.Events.{delivered, not_delivered}
use Rattle.replica_world.specs.declared.event.Event.TheVariants as events
use Rattle.replica_world.proofs.world.World.deliver.Goals as goal

pub returns-clause-done : goal.returns-clause-done
returns-clause-done c =
    on_ok_weaker c.edit.result
    (delivered c.args.self.now c.edit.new.self c.args.replica c.args.packet c.in_ok-delta.delta
    c.in_ok-delta.ensures.spelled) c.edit.ensures.done

pub returns-clause-refused : goal.returns-clause-refused
returns-clause-refused c =
    let before = c.args.self.now in
    let after = c.edit.new.self in
    let r = c.args.replica in
    let k = c.args.packet in
    let delta = c.in_ok-delta.delta in
    let within = subst (λ n. r < n) c.replicas.ensures.value c.if-replica-replicas.false in
    let there = subst (λ n. k < n) c.packets.ensures c.if-packet-packets.false in
    IfErr-weaker c.edit.result (λ e. IsRefusal before (events.Edit r delta) e after)
    (λ e. IsRefusal before (events.Deliver r k) e after)
    (λ e. not_delivered before after r k delta e (within, there) c.in_ok-delta.ensures.spelled)
    c.edit.ensures.refused
