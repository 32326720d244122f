use Rattle.std.proofs.Common.{◌≡◌, ◌++◌, ◌∷◌, ℕ, [], Global, arith, ap, sym, ◌∙◌, subst, set, length, List}
use Rattle.std.proofs.lemmas.List.{length-map}
use Rattle.rtrb.specs.Ring.{received}
use Rattle.crossbeam_deque.specs.{Handles.worker_view, Handles.worker_port, Handles.worker_deque}
use Rattle.crossbeam_deque.specs.declared.handles.Worker.{Worker}
use Rattle.tile_generations.specs.Jobs.{Job}
use Rattle.steal_pool.specs.{declared.report.Report.Report, declared.rule.Deal.Deal}
use Rattle.steal_pool.specs.{declared.rule.EndView.EndView, Names.deque_of, Parcels.IsHeaded}
use Rattle.steal_pool.specs.{Parcels.collected_from, Parcels.jobs_by, Parcels.waiting_in, Deal.view_of}
use Rattle.steal_pool.specs.Views.{OwnerView, HasCollected}
use Rattle.steal_pool.proofs.{Deals.merges, Deals.learns, Parcels.headed_more, Parcels.is_from, Parcels.of_pushed}
use Rattle.steal_pool.proofs.Rings.{few_left, headed_at, map_past, none_left, not_popped, popped, still_headed}
use Rattle.steal_pool.proofs.Rings.{with_ends}
use Rattle.steal_pool.proofs.owner.Owner.collect.Goals as goal

-- the owner of this deque, without its ends of rings
abbrev bare : Worker Job Global EndView Deal → ℕ → OwnerView
bare deque capacity = record {
  pushed = (worker_view deque).pushed;
  capacity = capacity;
  collected = [];
  waiting = [];
  deque = deque_of deque;
  rings = [];
}

pub returns-in_default-clause-none : goal.returns-in_default-clause-none
returns-in_default-clause-none c =
    let was = c.self.inside in
    rw (← c.self.view_is)
    (not_popped (bare was.deque was.capacity) was.rings.items c.args.hand c.index_mut.result.now c.pop.new.self
    (omega (arith, was.rings.ok.0)) c.index_mut.ensures.value c.pop.ensures.ring.0.2 c.in_default.ensures.empty.0
    (λ some. let no = c.in_default.ensures.succeeds some in cc) c.in_default.ensures.empty.1)

pub returns-in_default-clause-empty : goal.returns-in_default-clause-empty
returns-in_default-clause-empty c =
    let was = c.self.inside in
    none_left (bare was.deque was.capacity) was.rings.items c.args.hand c.index_mut.result.now c.pop.new.self
    (omega (arith, was.rings.ok.0)) c.index_mut.ensures.value c.pop.ensures.ring.0.2 c.in_default.ensures.empty.1

pub returns-in_default-clause-few : goal.returns-in_default-clause-few
returns-in_default-clause-few c =
    let was = c.self.inside in
    let ring = c.pop.new.self in
    few_left (bare was.deque was.capacity) was.rings.items c.args.hand c.index_mut.result.now ring
    (omega (arith, was.rings.ok.0)) c.index_mut.ensures.value c.pop.ensures.ring.0.2
    (omega (arith, ring.counts, ring.reads.2))

pub returns-clause-few : goal.returns-clause-few
returns-clause-few c =
    let was = c.self.inside in
    let ring = c.pop.new.self in
    few_left (bare c.len_as.new.self was.capacity) was.rings.items c.args.hand c.index_mut.result.now ring
    (omega (arith, was.rings.ok.0)) c.index_mut.ensures.value c.pop.ensures.ring.0.2
    (omega (arith, ring.counts, ring.reads.2))

-- what was known of the ring before the parcel was popped
module _ (c : goal.After-len_as) where
  headed : IsHeaded (worker_deque c.self.inside.deque) (received c.index_mut.result.now)
  headed =
      let was = c.self.inside in
      headed_at (worker_deque was.deque) was.rings.items c.args.hand c.index_mut.result.now
      (omega (arith, was.rings.ok.0, c.len.ensures, c.if-hand-len.false)) c.index_mut.ensures.value c.self.invariant.5

  -- the owner's view takes the pass's in
  joined : worker_view c.len_as.new.self
      ≡ view_of (worker_view c.self.inside.deque).pushed
      ((worker_view c.self.inside.deque).got ++ jobs_by c.in-Ok.parcel)
  joined = c.len_as.ensures.same.2 ∙ c.absorb.ensures.rule

  same_deque : worker_deque c.len_as.new.self ≡ worker_deque c.self.inside.deque
  same_deque = c.len_as.ensures.same.0.0 ∙ c.absorb.ensures.same.0.0

pub returns-clause-collected : goal.returns-clause-collected
returns-clause-collected c =
    let was = c.self.inside in
    let deque = worker_deque was.deque in
    let ends = was.rings.items in
    let ring = c.index_mut.result.now in
    let report = c.in-Ok.parcel.report in
    let old : OwnerView = bare was.deque was.capacity in
    let is = joined c in
    let at = same_deque c in
    let new : old ≡ bare c.len_as.new.self was.capacity =
    λ i. record old { pushed = (sym is i).pushed; deque = (sym at i).0 } in
    let ok = c.in-Ok.ensures.ok in
    rw (← c.self.view_is)
    (subst
    (λ (owner : OwnerView).
    HasCollected (with_ends old ends) c.args.hand report (with_ends owner (set ends c.args.hand c.pop.new.self)))
    new
    (popped old ends c.args.hand ring c.pop.new.self (omega (arith, was.rings.ok.0)) c.index_mut.ensures.value
    c.pop.ensures.ring.0.2 deque c.in-Ok.parcel (headed c) ok.0 ok.1))

pub returns-clause-of_pushed : goal.returns-clause-of_pushed
returns-clause-of_pushed c =
    let was = c.self.inside in
    let deque = worker_deque was.deque in
    let parcel = c.in-Ok.parcel in
    let from = is_from deque (received c.index_mut.result.now) parcel (headed c) c.in-Ok.ensures.ok.2 in
    let own = c.len_as.ensures.rule.2 in
    rw (← c.self.view_is)
    (of_pushed deque parcel (worker_view was.deque) (worker_view c.absorb.new.self) from c.absorb.ensures.rule own)

pub invariant_of-self-2 : goal.invariant_of-self-2
invariant_of-self-2 c =
    let was = c.self.invariant in
    let join = c.absorb.ensures.same in
    let look = c.len_as.ensures.same in
    let is = joined c in
    let count = ap (λ (v : EndView). length v.pushed) is in
    let ring = c.index_mut.result.now in
    let deque = worker_deque c.self.inside.deque in (
      look.0.2 ∙ (join.0.2 ∙ was.0),
      look.0.1 ∙ (join.0.1 ∙ was.1),
      omega (arith, count, was.2, look.1, join.1),
      omega (arith, was.3, look.0.3, join.0.3),
      omega (arith, count, was.4),
      still_headed deque (worker_deque c.len_as.new.self) c.self.inside.rings.items c.args.hand c.pop.new.self
          (same_deque c) was.5
          (subst (IsHeaded deque) (sym c.in-Ok.ensures.ok.0)
          (headed_more deque (received ring) (c.in-Ok.parcel ∷ []) (headed c))),
      λ zero. ap (λ (v : EndView). v.pushed) is ∙ was.6 zero,
    )

pub absorb-requires-clause-rule : goal.absorb-requires-clause-rule
absorb-requires-clause-rule c =
    let deque = c.self.inside.deque in
    let pass = c.in-Ok.parcel.pass in
    merges (worker_port deque) (worker_view deque) pass.id pass.me.view.client c.self.invariant.0

pub len_as-requires : goal.len_as-requires
len_as-requires c =
    learns (worker_port c.absorb.new.self) (worker_view c.absorb.new.self)
    (c.absorb.ensures.same.0.2 ∙ c.self.invariant.0)

pub returns-then-hand-len-clause-empty : goal.returns-then-hand-len-clause-empty
returns-then-hand-len-clause-empty c =
    let rings = c.self.inside.rings in
    rw (← c.self.view_is)
    (map_past waiting_in rings.items c.args.hand [] (omega (arith, rings.ok.0, c.len.ensures, c.if-hand-len.true)))

pub returns-then-hand-len-clause-few : goal.returns-then-hand-len-clause-few
returns-then-hand-len-clause-few c =
    let none = ap (λ (l : List Report). length l) (returns-then-hand-len-clause-empty c) in omega (arith, none)

pub returns-clause-some : goal.returns-clause-some
returns-clause-some c =
    let rings = c.self.inside.rings in
    rw (← c.self.view_is)
    (omega (arith, rings.ok.0, c.len.ensures, c.if-hand-len.false, length-map rings.items collected_from))

pub index_mut-requires : goal.index_mut-requires
index_mut-requires c = omega (arith, c.len.ensures, c.if-hand-len.false)
