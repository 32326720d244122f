use Rattle.std.proofs.Common.{map, ◌++◌, [], ◌∷◌, List, subst}
use Rattle.std.proofs.lemmas.Result.{err_from_is_err_and}
use Rattle.stroke_lattice.specs.State.{State}
use Rattle.view_session.specs.Merging.{AreMerged, IsStop}
use Rattle.view_session.proofs.Deltas.{merged_none, stops_before}
use Rattle.view_session.proofs.merging.merge_behind.Goals as goal

pub returns-in_err-merge_each-clause-stopped : goal.returns-in_err-merge_each-clause-stopped
returns-in_err-merge_each-clause-stopped g c =
    let p = err_from_is_err_and c.from_residual-in_err-merge_each.result c.from_residual-in_err-merge_each.ensures.1 in
    rw (p.1, p.2) (stops_before c.args.w c.args.h (map g.D.HasDelta.delta_of c.args.old.now) (c.args.last.now ∷ [])
    c.in_err-merge_each.field-0.0
    (c.in_err-merge_each.ensures.stopped []
    (merged_none c.join_of_an_empty_list.ensures c.args.w c.args.h c.in_ok-state.state c.in_ok-state.ensures.value)))

pub returns-in_err-merge_each-2-clause-stopped : goal.returns-in_err-merge_each-2-clause-stopped
returns-in_err-merge_each-2-clause-stopped g c =
    let p = err_from_is_err_and c.from_residual-in_err-merge_each-2.result c.from_residual-in_err-merge_each-2.ensures.1
    in
    let old = map g.D.HasDelta.delta_of c.args.old.now in
    let none = merged_none c.join_of_an_empty_list.ensures c.args.w c.args.h c.in_ok-state.state
    c.in_ok-state.ensures.value in
    rw (p.1, p.2) (subst (λ (last : List State). IsStop c.args.w c.args.h (old ++ map (λ (s : State). s) last)
    c.in_err-merge_each-2.field-0.0) c.from_ref.ensures.value
    (c.in_err-merge_each-2.ensures.stopped old (c.in_ok-merge_each.ensures.merged [] none)))

pub returns-clause-merged : goal.returns-clause-merged
returns-clause-merged g c =
    let old = map g.D.HasDelta.delta_of c.args.old.now in
    let none = merged_none c.join_of_an_empty_list.ensures c.args.w c.args.h c.in_ok-state.state
    c.in_ok-state.ensures.value in
    subst (λ (last : List State). AreMerged c.args.w c.args.h (old ++ map (λ (s : State). s) last)
    c.merge_each-2.new.state) c.from_ref.ensures.value
    (c.in_ok-merge_each-2.ensures.merged old (c.in_ok-merge_each.ensures.merged [] none))
