use Rattle.std.proofs.{Common.◌∙◌, Common.sym, Common.inl, Common.inr, Common.subst, lemmas.Result.err_from_is_err_and}
use Rattle.pgm_codec.specs.Graymap.{IsGraymap}
use Rattle.view_session.proofs.KeptViews.{memory_behind}
use Rattle.node_session.proofs.Paintings.{begins, same_mask, shown_behind}
use Rattle.node_session.proofs.painting.paint.Goals as goal

pub returns-in_err-gathered-clause-refused : goal.returns-in_err-gathered-clause-refused
returns-in_err-gathered-clause-refused g c =
    let p = err_from_is_err_and c.from_residual.result c.from_residual.ensures.1 in
    rw (p.1, p.2) (elim c.in_err-gathered.ensures.refused [
      | inl early ↦ inl early
      | inr stops ↦ inr (inl stops)
    ])

pub returns-in_err-core-clause-refused : goal.returns-in_err-core-clause-refused
returns-in_err-core-clause-refused g c =
    let p = err_from_is_err_and c.from_residual-in_err-core.result c.from_residual-in_err-core.ensures.1 in
    let found = c.in_ok-gathered.gathered in
    rw (p.1, p.2) (inr (inl (memory_behind _ _ _ found.mask found.state c.in_ok-gathered.ensures.gathered)))

pub returns-in_err-shared-clause-refused : goal.returns-in_err-shared-clause-refused
returns-in_err-shared-clause-refused g c =
    let p = err_from_is_err_and c.from_residual-in_err-shared.result c.from_residual-in_err-shared.ensures.1 in
    rw (p.1, p.2) (inr (inr (
      c.in_ok-gathered.gathered.mask,
      c.in_ok-gathered.gathered.state,
      c.in_ok-gathered.ensures.gathered,
      c.in_err-shared.ensures.refused,
    )))

pub returns-in_err-quiet-clause-refused : goal.returns-in_err-quiet-clause-refused
returns-in_err-quiet-clause-refused g c =
    let p = err_from_is_err_and c.from_residual-in_err-quiet.result c.from_residual-in_err-quiet.ensures.1 in
    let found = c.in_ok-gathered.gathered in
    rw (p.1, p.2) (inr (inl (memory_behind _ _ _ found.mask found.state c.in_ok-gathered.ensures.gathered)))

pub shown-requires-clause-quiet : goal.shown-requires-clause-quiet
shown-requires-clause-quiet g c = c.in_ok-quiet.ensures.quiet

pub shown-requires-clause-graymap : goal.shown-requires-clause-graymap
shown-requires-clause-graymap g c =
    let begun = begins _ _ _ _ _ _ c.in_ok-core.ensures in
    let is = c.in_ok-quiet.ensures.same.mask_is ∙ c.in_ok-shared.ensures.shared.mask ∙ begun.mask_is in
    subst IsGraymap (sym (same_mask _ _ c.in_ok-gathered.gathered.mask is c.maxval-maxval.ensures.value))
    c.maxval-maxval.ensures.is_graymap

pub returns-clause-hands : goal.returns-clause-hands
returns-clause-hands g c = c.in_ok-shared.ensures.hands

pub returns-clause-polled : goal.returns-clause-polled
returns-clause-polled g c = c.in_ok-shared.ensures.shared.polls

pub returns-clause-shown : goal.returns-clause-shown
returns-clause-shown g c =
    let found = c.in_ok-gathered.gathered in
    let begun = begins _ _ _ _ _ _ c.in_ok-core.ensures in
    shown_behind _ _ _ found.mask found.state found.print _ _ _ _ c.in_ok-core.core c.in_ok-shared.shared
    c.in_ok-quiet.quiet c.shown.result.0 c.shown.result.1 c.in_ok-gathered.ensures.print c.maxval-maxval.ensures.value
    c.in_ok-gathered.ensures.gathered begun c.in_ok-shared.ensures.shared c.in_ok-quiet.ensures.same
    c.shown.ensures.shown c.shown.ensures.strokes
