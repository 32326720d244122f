use Rattle.std.proofs.{Common.inl, Common.List, Common.ℕ, Common.subst, lemmas.Result.err_from_is_err_and}
use Rattle.page_board.specs.{Keeping.KeepsBoard, Keeping.HasAllIn, Opening.IsOpenedOver, Opening.IsNotOpenedOver}
use Rattle.view_session.proofs.StoredViews.{load_fault}
use Rattle.page_server.proofs.Openings.{loading_is_early, mask_refused, mask_unread, refused, unread}
use Rattle.page_server.proofs.opening.open_board.Goals as goal

pub returns-in_err-kept-clause-refused : goal.returns-in_err-kept-clause-refused
returns-in_err-kept-clause-refused g c =
    let p = err_from_is_err_and c.from_residual.result c.from_residual.ensures.1 in
    rw (p.1, p.2) (inl (loading_is_early _ (load_fault _ _ _ c.in_err-kept.field-0.0 _ c.in_err-kept.ensures)))

pub returns-in_err-kept-clause-read : goal.returns-in_err-kept-clause-read
returns-in_err-kept-clause-read g c =
    let p = err_from_is_err_and c.from_residual.result c.from_residual.ensures.1 in
    rw (p.1, p.2) (unread _ _ (load_fault _ _ _ c.in_err-kept.field-0.0 _ c.in_err-kept.ensures))

pub returns-in_err-mask-clause-refused : goal.returns-in_err-mask-clause-refused
returns-in_err-mask-clause-refused g c =
    let p = err_from_is_err_and c.from_residual-in_err-mask.result c.from_residual-in_err-mask.ensures.1 in
    let held = (g.T.StateStore.seen c.args.store.now).held in
    rw (p.1, p.2) (mask_refused c.args.conn held c.args.path.now c.in_ok-kept.kept.items _ c.in_err-mask.field-0.0
    c.in_ok-kept.ensures.bytes c.in_err-mask.ensures.fault)

pub returns-in_err-mask-clause-read : goal.returns-in_err-mask-clause-read
returns-in_err-mask-clause-read g c =
    let p = err_from_is_err_and c.from_residual-in_err-mask.result c.from_residual-in_err-mask.ensures.1 in
    rw (p.1, p.2) (mask_unread c.in_err-mask.field-0.0 _ _ c.in_err-mask.ensures.to_end)

pub returns-in-Ok-clause-opened : goal.returns-in-Ok-clause-opened
returns-in-Ok-clause-opened g c =
    let mask = c.in_ok-mask.mask in
    let found = c.in_ok-mask.ensures.found in (
      found.0,
      found.1,
      (
        mask,
        found.2,
        subst (λ (old : List ℕ). IsOpenedOver mask c.args.conn c.args.side c.args.run old c.in-Ok.board)
            c.deref.ensures.value c.in-Ok.ensures.opened,
      ),
    )

pub returns-in-Ok-clause-kept : goal.returns-in-Ok-clause-kept
returns-in-Ok-clause-kept g c = (
  c.in_ok-kept.ensures.bytes,
  subst (KeepsBoard c.in-Ok.board) c.deref.ensures.value c.in-Ok.ensures.kept,
  subst (HasAllIn c.in-Ok.board) c.deref.ensures.value c.in-Ok.ensures.has_all,
)

pub returns-in-Err-clause-refused : goal.returns-in-Err-clause-refused
returns-in-Err-clause-refused g c =
    let mask = c.in_ok-mask.mask in
    let held = (g.T.StateStore.seen c.args.store.now).held in
    let found = c.in_ok-mask.ensures.found in
    refused mask c.args.conn c.args.side c.args.run held c.args.path.now c.in_ok-kept.kept.items _ found.0
    c.in_ok-kept.ensures.bytes found.1 found.2 c.requires c.in-Err.why
    (subst (λ (old : List ℕ). IsNotOpenedOver mask c.args.conn c.args.side old c.in-Err.why) c.deref.ensures.value
    c.in-Err.ensures.refused)
