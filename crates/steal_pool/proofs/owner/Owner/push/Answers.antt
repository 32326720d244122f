use Rattle.std.proofs.Common.{◌≡◌, ◌+◌, ◌∷◌, [], ◌∙◌, sym, ap, subst, arith, length, map, Global}
use Rattle.std.proofs.lemmas.List.{length-append}
use Rattle.crossbeam_deque.specs.Handles.{worker_view, worker_port}
use Rattle.steal_pool.specs.{Names.DequeName, Names.read_from, Parcels.AreHeaded, Parcels.collected_from}
use Rattle.steal_pool.specs.Parcels.{waiting_in}
use Rattle.steal_pool.proofs.Deals.{pushes}
use Rattle.steal_pool.specs.declared.rule.EndView.{EndView}
use Rattle.steal_pool.proofs.owner.Owner.push.Goals as goal

-- a job that was pushed is counted
pub invariant_of-self : goal.invariant_of-self
invariant_of-self c =
    let was = c.self.invariant in
    let same = c.push_as.ensures.same in
    let pushed = c.in-Ok.ensures.rule in
    let before = (worker_view c.self.inside.deque).pushed in
    let more : length (worker_view c.push_as.new.self).pushed ≡ length before + 1 =
    ap (λ (v : EndView). length v.pushed) pushed.0 ∙ length-append before (c.args.job ∷ []) in (
      same.2 ∙ was.0,
      same.1 ∙ was.1,
      omega (arith, more, was.2, pushed.1),
      omega (arith, was.3, same.3),
      omega (arith, more, was.4, c.saturating_add-self-inside.ensures),
      subst (λ (d : DequeName × Global). AreHeaded d c.self.inside.rings.items) (sym same.0) was.5,
      λ zero. absurd (omega (arith, zero, c.saturating_add-self-inside.ensures)),
    )

pub push_as-requires-clause-pushes : goal.push_as-requires-clause-pushes
push_as-requires-clause-pushes c =
    let deque = c.self.inside.deque in pushes (worker_port deque) (worker_view deque) c.args.job c.self.invariant.0

pub push_as-requires-clause-full : goal.push_as-requires-clause-full
push_as-requires-clause-full c = λ items views some dealt at. tt

pub invariant_of-self-in-Err : goal.invariant_of-self-in-Err
invariant_of-self-in-Err c =
    let was = c.self.invariant in
    let same = c.push_as.ensures.same in
    let kept = c.in-Err.ensures.rule in
    let count = ap (λ (v : EndView). length v.pushed) kept.1 in (
      same.2 ∙ was.0,
      same.1 ∙ was.1,
      omega (arith, count, was.2, kept.2),
      omega (arith, was.3, same.3),
      omega (arith, count, was.4),
      subst (λ (d : DequeName × Global). AreHeaded d c.self.inside.rings.items) (sym same.0) was.5,
      λ zero. ap (λ (v : EndView). v.pushed) kept.1 ∙ was.6 zero,
    )

pub returns-in-Ok-clause-ok : goal.returns-in-Ok-clause-ok
returns-in-Ok-clause-ok c =
    let was = c.self.inside in
    let pushed = c.in-Ok.ensures.rule.0 in
    let same = c.push_as.ensures.same.0 in
    rw (← c.self.view_is)
    (λ i. record {
      pushed = (pushed i).pushed;
      capacity = was.capacity;
      collected = map collected_from was.rings.items;
      waiting = map waiting_in was.rings.items;
      deque = (same i).0;
      rings = map read_from was.rings.items;
    })

pub returns-in-Err-clause-err : goal.returns-in-Err-clause-err
returns-in-Err-clause-err c =
    let was = c.self.inside in
    let kept = c.in-Err.ensures.rule.1 in
    let same = c.push_as.ensures.same.0 in
    rw (← c.self.view_is)
    (λ i. record {
      pushed = (kept i).pushed;
      capacity = was.capacity;
      collected = map collected_from was.rings.items;
      waiting = map waiting_in was.rings.items;
      deque = (same i).0;
      rings = map read_from was.rings.items;
    })
