use Rattle.std.proofs.Common.{◌∙◌, ◌<◌, List, length, ap, arith, inl}
use Rattle.stroke_lattice.specs.State.{State}
use Rattle.core_rules.specs.{Work.Core, Events.Hand, Events.OfHand}
use Rattle.replica_world.specs.World.{Replica}
use Rattle.replica_world.proofs.Ground.{happens_on}
use Rattle.replica_world.proofs.Handing.{hint_was_there, no_hint_there, nothing_handed}
use Rattle.replica_world.proofs.Worlds.{is_old, stored_with, moved, unchanged}
use Rattle.replica_world.proofs.world.World.hand.Goals as goal

pub returns-in-Nothing-clause-refused : goal.returns-in-Nothing-clause-refused
returns-in-Nothing-clause-refused c =
    let held = c.self.inside in
    let within : c.args.replica < length held.replicas.items = omega (arith, c.if-replica-len.false, c.len.ensures) in
    let old = c.index_mut.result.now in
    let new = c.hand.new.self in
    let handed = c.hand.ensures.handed in
    let with_core : Core → Replica = λ core. record { core = core; took = new.took } in
    let with_took : List State → Replica = λ took. record { core = old.core; took = took } in
    let same_core =
    nothing_handed old.core new.core c.args.tile c.args.place c.hand.result handed c.in-Nothing.is in
    let there = is_old c.args.replica c.self.invariant within c.index_mut.ensures.value in
    rw (← c.self.view_is) (inl (
      λ named. no_hint_there old.core new.core c.args.tile c.args.place c.hand.result handed c.in-Nothing.is
          (rw there at named.2),
      unchanged c.args.replica c.self.invariant within c.index_mut.ensures.value new held.results.items held.steps
          (ap with_core same_core ∙ ap with_took c.hand.ensures.took),
    ))

pub invariant_of-self-2 : goal.invariant_of-self-2
invariant_of-self-2 c =
    let within : c.args.replica < length c.self.inside.replicas.items =
    omega (arith, c.if-replica-len.false, c.len.ensures) in
    stored_with c.args.replica c.self.invariant within c.index_mut.ensures.value c.hand.new.self
    (happens_on c.index_mut.result.now.core c.hand.new.self.core (Hand c.args.tile c.args.place) (OfHand c.hand.result)
    c.hand.ensures.handed)

pub returns : goal.returns
returns c =
    let held = c.self.inside in
    let within : c.args.replica < length held.replicas.items = omega (arith, c.if-replica-len.false, c.len.ensures) in
    let old = c.index_mut.result.now in
    let new = c.hand.new.self in
    let handed = c.hand.ensures.handed in
    let there = is_old c.args.replica c.self.invariant within c.index_mut.ensures.value in
    let (is_tile, waits) =
    hint_was_there old.core new.core c.args.tile c.args.place c.hand.result handed c.in_default.not-Nothing in
    record {
      done = rw (← c.self.view_is) (
        (within, rw there is_tile, rw there waits),
        moved c.args.replica c.self.invariant within c.index_mut.ensures.value new held.results.items held.steps
            (Hand c.args.tile c.args.place) (OfHand c.hand.result) handed c.hand.ensures.took,
      );
      refused = tt;
    }
