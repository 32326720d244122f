use Rattle.std.proofs.Common.{List, ℕ, Option, option_map, ◌≡◌}
use Rattle.std.proofs.lemmas.Result.{err_from_is_err_and}
use Rattle.run_faults.specs.declared.run_error.RunError.TheVariants.{Link}
use Rattle.node_session.proofs.StoredNodes.{devices_kept, devices_refused, devices_unkept, loaded, network_bound}
use Rattle.node_session.proofs.StoredNodes.{network_idle, refused_at_no_file, refused_at_no_link, save_failed}
use Rattle.node_session.proofs.StoredNodes.{saving_is_no_link, serves_kept, serves_refused, serves_unkept, store_kept}
use Rattle.node_session.proofs.StoredNodes.{store_refused, store_unkept}
use Rattle.node_session.proofs.stored.node_stored.Goals as goal

pub returns-in_err-strokes-clause-runs : goal.returns-in_err-strokes-clause-runs
returns-in_err-strokes-clause-runs g c =
    let p = err_from_is_err_and c.from_residual-in_err-strokes.result c.from_residual-in_err-strokes.ensures.1 in
    let e = c.in_err-strokes.field-0.0 in
    let call = c.args.call in
    let file : Option (List ℕ) = option_map (λ path. path.now) call.file in
    let heard = g.N.Link.Link.seen in
    let old = c.deref.result.now in
    let held = loaded (λ v. v.items) _ _ c.in_ok-old.old file old c.deref.ensures.value c.in_ok-old.ensures in
    let view = c.in_err-strokes.ensures.answers.answered c.requires in
    rw (p.1, p.2) record {
      serves = serves_refused _ _ heard call.conn call.hands call.ticks file c.in_ok-link.link
          c.node_strokes.new.link _ old held.held _ _ _ _ _ e view.responds;
      devices = devices_refused _ _ _ _ file e view.devices;
      stored = store_refused _ _ e file _ held
          (refused_at_no_file call.conn call.hands old _ e view.responds.refused);
    }

pub returns-in_err-strokes-clause-network : goal.returns-in_err-strokes-clause-network
returns-in_err-strokes-clause-network g c =
    let p = err_from_is_err_and c.from_residual-in_err-strokes.result c.from_residual-in_err-strokes.ensures.1 in
    let e = c.in_err-strokes.field-0.0 in
    let view = c.in_err-strokes.ensures.answers.answered c.requires in
    rw (p.1, p.2) (network_idle _ e _ _ c.in_ok-link.ensures.binds.failures
    (refused_at_no_link c.args.call.conn c.args.call.hands c.deref.result.now _ e view.responds.refused))

pub returns-in_err-save_for-clause-runs : goal.returns-in_err-save_for-clause-runs
returns-in_err-save_for-clause-runs g c =
    let p = err_from_is_err_and c.from_residual-in_err-save_for.result c.from_residual-in_err-save_for.ensures.1 in
    let e = c.in_err-save_for.field-0.0 in
    let call = c.args.call in
    let file : Option (List ℕ) = option_map (λ path. path.now) call.file in
    let heard = g.N.Link.Link.seen in
    let old = c.deref.result.now in
    let held = loaded (λ v. v.items) _ _ c.in_ok-old.old file old c.deref.ensures.value c.in_ok-old.ensures in
    let view = c.in_ok-strokes.ensures.answers.answered c.requires in
    let saves = c.in_err-save_for.ensures in
    rw (p.1, p.2) record {
      serves = serves_unkept _ _ heard call.conn call.hands call.ticks file c.in_ok-link.link
          c.node_strokes.new.link _ old held.held _ _ _ _ _ _ _ c.in_ok-strokes.strokes _ e held.same
          view.responds saves;
      devices = devices_unkept _ _ _ _ file c.in_ok-strokes.strokes e (save_failed _ _ _ _ _ e file saves).0
          view.devices;
      stored = store_unkept (λ v. v.items) _ _ _ _ c.in_ok-old.old _ _ e file c.in_ok-old.ensures saves;
    }

pub returns-in_err-save_for-clause-network : goal.returns-in_err-save_for-clause-network
returns-in_err-save_for-clause-network g c =
    let p = err_from_is_err_and c.from_residual-in_err-save_for.result c.from_residual-in_err-save_for.ensures.1 in
    let e = c.in_err-save_for.field-0.0 in
    let file : Option (List ℕ) = option_map (λ path. path.now) c.args.call.file in
    rw (p.1, p.2) (network_idle _ e _ _ c.in_ok-link.ensures.binds.failures
    (saving_is_no_link _ _ _ _ _ e file c.in_err-save_for.ensures))

pub returns-in_err-save_for-clause-unread : goal.returns-in_err-save_for-clause-unread
returns-in_err-save_for-clause-unread g c =
    let p = err_from_is_err_and c.from_residual-in_err-save_for.result c.from_residual-in_err-save_for.ensures.1 in
    let e = c.in_err-save_for.field-0.0 in
    let file : Option (List ℕ) = option_map (λ path. path.now) c.args.call.file in
    rw (p.1, p.2) (λ link.
    let is : e ≡ Link = cc in
    absurd (saving_is_no_link _ _ _ _ _ e file c.in_err-save_for.ensures is))

pub returns-clause-runs : goal.returns-clause-runs
returns-clause-runs g c =
    let call = c.args.call in
    let file : Option (List ℕ) = option_map (λ path. path.now) call.file in
    let heard = g.N.Link.Link.seen in
    let old = c.deref.result.now in
    let held = loaded (λ v. v.items) _ _ c.in_ok-old.old file old c.deref.ensures.value c.in_ok-old.ensures in
    let view = c.in_ok-strokes.ensures.answers.answered c.requires in
    let saves = c.in_ok-save_for.ensures in
    record {
      serves = serves_kept _ _ heard call.conn call.hands call.ticks file c.in_ok-link.link
          c.node_strokes.new.link _ old held.held _ _ _ _ _ _ _ c.in_ok-strokes.strokes _ _ held.same
          view.responds saves;
      devices = devices_kept _ _ _ _ file c.in_ok-strokes.strokes view.devices;
      stored = store_kept (λ v. v.items) _ _ _ _ c.in_ok-old.old _ _ _ file c.in_ok-old.ensures saves;
    }

pub returns-clause-network : goal.returns-clause-network
returns-clause-network g c = network_bound _ _ _ c.in_ok-link.ensures.binds.bound c.in_ok-link.ensures.binds.failures
