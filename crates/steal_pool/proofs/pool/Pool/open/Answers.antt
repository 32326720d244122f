use Rattle.std.proofs.Common.{◌≡◌, ◌++◌, ◌∷◌, [], List, map, length, replicate, ap, ◌∙◌, arith, sym, subst}
use Rattle.std.proofs.lemmas.{Grind.common_steps, List.length-append}
use Rattle.crossbeam_deque.specs.Handles.{worker_deque}
use Rattle.steal_pool.specs.{declared.report.Report.Report, declared.rule.EndView.EndView, Names.read_from}
use Rattle.steal_pool.specs.Parcels.{AreHeaded, IsHeader, IsHeaded, collected_from, reports_in, reports_of, waiting_in}
use Rattle.steal_pool.proofs.Parcels.{headed}
use Rattle.rtrb.specs.Ring.{received}
use Rattle.steal_pool.proofs.Rings.{AreRooms, ring_added, ring_headed}
use Rattle.steal_pool.proofs.pool.Pool.open.Goals as goal

pub loop-hand-preserved : goal.loop-hand-preserved
loop-hand-preserved c =
    let ring = c.in_ok-producer.consumer in
    let before = c.loop-hand.rings.items in
    let so_far = c.loop-hand.invariant in
    let fresh = c.in_ok-producer.ensures in
    let deque = worker_deque c.in_ok-deque.deque in
    let added : c.push.new.self.items ≡ before ++ ring ∷ [] = c.in_ok-push.ensures.items in
    let none : collected_from ring ≡ [] = ap reports_in fresh.received.1 in
    let no_more : waiting_in ring ≡ [] = ap reports_of fresh.none_seen in
    let named : IsHeaded deque (received ring) =
    headed deque (received ring) (subst (λ d. IsHeader d (received ring)) c.in_ok-stealer.ensures.0 fresh.received) in
    record {
      collected = grind (arith, common_steps);
      waiting = grind (arith, common_steps);
      count = omega (arith, ap length added, length-append before (ring ∷ []), so_far.count);
      rooms =
          subst (λ ends. AreRooms (map read_from ends)) (sym added) (ring_added before ring so_far.rooms fresh.places);
      headed = subst (AreHeaded deque) (sym added) (ring_headed deque before ring so_far.headed named);
      hands = grind (arith, common_steps);
    }

pub invariant_of-result : goal.invariant_of-result
invariant_of-result c =
    let new = c.in_ok-deque.ensures in (
      new.2,
      new.1,
      grind (arith, common_steps),
      new.0.1,
      omega arith,
      c.loop-hand.invariant.headed,
      λ zero. ap (λ (v : EndView). v.pushed) new.4,
    )

pub returns-clause-collected : goal.returns-clause-collected
returns-clause-collected c =
    let all : c.loop-hand._hand ≡ c.args.hands = omega (arith, c.loop-hand-test.false, c.loop-hand.auto._hand-end) in
    c.loop-hand.invariant.collected ∙ ap (λ n. replicate {A = List Report} n []) all

pub returns-clause-waiting : goal.returns-clause-waiting
returns-clause-waiting c =
    let all : c.loop-hand._hand ≡ c.args.hands = omega (arith, c.loop-hand-test.false, c.loop-hand.auto._hand-end) in
    c.loop-hand.invariant.waiting ∙ ap (λ n. replicate {A = List Report} n []) all
