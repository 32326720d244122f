use Rattle.std.proofs.Common.{map, ◌≡◌, ◌<◌, ◌∙◌, ℕ, List, refl, ap, sym, arith, length, get_or}
use Rattle.std.proofs.{lemmas.Result.err_from_is_err_and, lemmas.List.get_or-map, lemmas.List.length-map}
use Rattle.stroke_lattice.specs.State.{State}
use Rattle.view_session.proofs.Deltas.{leads_nowhere, leads_further, leads_to_end, stops_at}
use Rattle.view_session.proofs.merging.merge_each.Goals as goal

-- what the holder at an index has is the delta at that index
delta_at : {D : Type 0} (f : D → State) (holders : List D) (i : ℕ) (holder : D) (delta : State) → delta ≡ f holder
    → i < length holders → holder ≡ get_or holders i holder → delta ≡ get_or (map f holders) i delta
delta_at f holders i holder delta is within read =
    is ∙ ap f read ∙ sym (get_or-map f holders i holder delta within)

pub loop-holder-init : goal.loop-holder-init
loop-holder-init g c = leads_nowhere c.args.w c.args.h (map g.D.HasDelta.delta_of c.args.holders.now) c.args.state.now

pub returns-in_err-merge_into-clause-stopped : goal.returns-in_err-merge_into-clause-stopped
returns-in_err-merge_into-clause-stopped g c =
    let p = err_from_is_err_and c.from_residual.result c.from_residual.ensures.1 in
    let within : c.loop-holder.holder-index < length c.args.holders.now = omega (arith, c.loop-holder-test.true) in
    rw (p.1, p.2) (stops_at c.args.w c.args.h (map g.D.HasDelta.delta_of c.args.holders.now) c.loop-holder.holder-index
    (g.D.HasDelta.delta_of c.holder-item.result) c.args.state.now c.loop-holder.state c.in_err-merge_into.field-0.0
    (rw (length-map c.args.holders.now g.D.HasDelta.delta_of) within)
    (delta_at g.D.HasDelta.delta_of c.args.holders.now c.loop-holder.holder-index c.holder-item.result
    (g.D.HasDelta.delta_of c.holder-item.result) refl within
    c.holder-item.is) c.loop-holder.invariant c.in_err-merge_into.ensures.refused)

pub loop-holder-preserved : goal.loop-holder-preserved
loop-holder-preserved g c =
    let within : c.loop-holder.holder-index < length c.args.holders.now = omega (arith, c.loop-holder-test.true) in
    leads_further c.join_of_a_longer_list.ensures c.args.w c.args.h (map g.D.HasDelta.delta_of c.args.holders.now)
    c.loop-holder.holder-index
    (g.D.HasDelta.delta_of c.holder-item.result) c.args.state.now c.loop-holder.state c.merge_into.new.state
    (rw (length-map c.args.holders.now g.D.HasDelta.delta_of) within)
    (delta_at g.D.HasDelta.delta_of c.args.holders.now c.loop-holder.holder-index c.holder-item.result
    (g.D.HasDelta.delta_of c.holder-item.result) refl within
    c.holder-item.is) c.loop-holder.invariant c.in_ok-merge_into.ensures.fits c.in_ok-merge_into.ensures.join

pub returns-clause-merged : goal.returns-clause-merged
returns-clause-merged g c =
    leads_to_end c.args.w c.args.h (map g.D.HasDelta.delta_of c.args.holders.now) c.loop-holder.holder-index
    c.args.state.now c.loop-holder.state
    (rw (length-map c.args.holders.now g.D.HasDelta.delta_of)
    (omega (arith, c.loop-holder-test.false, c.loop-holder.auto.holder-index-end))) c.loop-holder.invariant
