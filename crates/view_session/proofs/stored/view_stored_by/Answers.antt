use Rattle.std.proofs.lemmas.Result.{err_from_is_err_and}
use Rattle.view_session.proofs.Shared.{devices_unread, serves_unread}
use Rattle.view_session.proofs.StoredViews.{load_fault, loading_is_early, loading_is_no_transfer, saving_fault}
use Rattle.view_session.proofs.StoredViews.{serves_refused, serves_saved, serves_unsaved, devices_refused}
use Rattle.view_session.proofs.StoredViews.{devices_saved, devices_unsaved, store_unloaded, store_refused, store_saved}
use Rattle.view_session.proofs.StoredViews.{store_unsaved}
use Rattle.view_session.proofs.stored.view_stored_by.Goals as goal

pub returns-in_err-old : goal.returns-in_err-old
returns-in_err-old g c =
    let p = err_from_is_err_and c.from_residual.result c.from_residual.ensures.1 in
    let e = c.in_err-old.field-0.0 in
    let why = load_fault _ _ _ e _ c.in_err-old.ensures in
    let early = loading_is_early e why in
    rw (p.1, p.2) record {
      serves = serves_unread _ _ _ _ _ _ _ _ e _ _ early;
      devices = devices_unread _ e _ _ early (loading_is_no_transfer e why);
      stored = store_unloaded _ _ _ e _ c.in_err-old.ensures;
    }

pub returns-in_err-strokes : goal.returns-in_err-strokes
returns-in_err-strokes g c =
    let p = err_from_is_err_and c.from_residual-in_err-strokes.result c.from_residual-in_err-strokes.ensures.1 in
    let e = c.in_err-strokes.field-0.0 in
    let view = c.in_err-strokes.ensures.answered c.requires in
    rw (p.1, p.2) record {
      serves = serves_refused _ _ _ _ _ _ c.in_ok-old.old.items c.deref.result.now e _ _ _ _
          c.in_ok-old.ensures.bytes c.deref.ensures.value view.responds;
      devices = devices_refused _ _ _ _ e view.devices;
      stored = store_refused _ _ _ c.in_ok-old.old e _ c.deref.result.now c.args.conn _ c.in_ok-old.ensures
          view.responds.refused;
    }

pub returns-in_err-save : goal.returns-in_err-save
returns-in_err-save g c =
    let p = err_from_is_err_and c.from_residual-in_err-save.result c.from_residual-in_err-save.ensures.1 in
    let e = c.in_err-save.field-0.0 in
    let view = c.in_ok-strokes.ensures.answered c.requires in
    let saves = c.in_err-save.ensures in
    rw (p.1, p.2) record {
      serves = serves_unsaved _ _ _ _ _ _ _ _ c.in_ok-old.old.items c.deref.result.now c.in_ok-strokes.strokes _ e
          _ _ _ _ c.in_ok-old.ensures.bytes c.deref.ensures.value c.in_ok-old.ensures.files view.responds saves;
      devices = devices_unsaved _ _ _ _ c.in_ok-strokes.strokes e (saving_fault _ _ _ _ _ e _ saves) view.devices;
      stored = store_unsaved _ _ _ _ _ _ _ c.in_ok-old.old _ _ e _ c.in_ok-old.ensures saves;
    }

pub returns : goal.returns
returns g c =
    let view = c.in_ok-strokes.ensures.answered c.requires in
    let saves = c.in_ok-save.ensures in
    record {
      serves = serves_saved _ _ _ _ _ _ _ _ c.in_ok-old.old.items c.deref.result.now c.in_ok-strokes.strokes _ _
          _ _ _ _ c.in_ok-old.ensures.bytes c.deref.ensures.value c.in_ok-old.ensures.files view.responds saves;
      devices = devices_saved _ _ _ _ c.in_ok-strokes.strokes view.devices;
      stored = store_saved _ _ _ _ _ _ _ c.in_ok-old.old _ _ _ _ c.in_ok-old.ensures saves;
    }
