-- As view_session/proofs/answering/respond and view/view_kept, one in the other.
use Rattle.std.proofs.Common.{◌≡◌, true, false, refl, sym, ◌∙◌, subst}
use Rattle.std.proofs.lemmas.Result.{err_from_is_err_and}
use Rattle.byte_devices.specs.Transfer.{IsInputOf}
use Rattle.view_session.proofs.Sides.{answered_for_side, refused_for_side}
use Rattle.view_session.proofs.Runs.{unread, unanswered, unwritten, written}
use Rattle.node_session.proofs.Paintings.{no_node_device}
use Rattle.node_session.proofs.running.node_run.Goals as goal

pub returns-then-not-is_tile_side-clause-answers : goal.returns-then-not-is_tile_side-clause-answers
returns-then-not-is_tile_side-clause-answers g c = refused_for_side _ _ _ _ _ c.args.source.now _ _ c.args.sink.now
    (λ is. let no : true ≡ false = sym (c.is_tile_side.ensures.1 is) ∙ c.if-not-is_tile_side.true in cc)

pub returns-in_err-input-clause-answers : goal.returns-in_err-input-clause-answers
returns-in_err-input-clause-answers g c =
    let p = err_from_is_err_and c.from_residual.result c.from_residual.ensures.1 in
    rw (p.1, p.2) (answered_for_side _ _ _ _ _ _ _ _ _ _ (c.is_tile_side.ensures.0 c.if-not-is_tile_side.false)
    (unread _ _ _ _ _ _ _ c.in_err-input.field-0.0 c.in_err-input.ensures.only c.in_err-input.ensures.to_end))

pub returns-in_err-image-clause-answers : goal.returns-in_err-image-clause-answers
returns-in_err-image-clause-answers g c =
    let p = err_from_is_err_and c.from_residual-in_err-image.result c.from_residual-in_err-image.ensures.1 in
    let known = subst (IsInputOf _) (sym c.deref.ensures.value) c.in_ok-input.ensures.bytes in
    rw (p.1, p.2) (answered_for_side _ _ _ _ _ _ _ _ _ _ (c.is_tile_side.ensures.0 c.if-not-is_tile_side.false)
    (unanswered _ _ _ _ _ _ _ c.deref.result.now c.in_ok-input.input known c.in_ok-input.ensures.to_end
    c.in_err-image.field-0.0 c.in_err-image.ensures.refused
    (λ failure. no_node_device c.one_fault.ensures.device _ _ _ _ _ failure c.in_err-image.ensures.refused)))

pub returns-in_err-write_to-clause-answers : goal.returns-in_err-write_to-clause-answers
returns-in_err-write_to-clause-answers g c =
    let p = err_from_is_err_and c.from_residual-in_err-write_to.result c.from_residual-in_err-write_to.ensures.1 in
    let known = subst (IsInputOf _) (sym c.deref.ensures.value) c.in_ok-input.ensures.bytes in
    let shown = c.in_ok-image.ensures.shown in
    rw (p.1, p.2) (answered_for_side _ _ _ _ _ _ _ _ _ _ (c.is_tile_side.ensures.0 c.if-not-is_tile_side.false)
    (unwritten _ _ _ _ _ _ _ c.deref.result.now c.in_ok-input.input known c.in_ok-input.ensures.to_end
    c.in_ok-image.new c.in_ok-image.image (
      c.in_ok-image.ensures.hands,
      c.in_ok-image.ensures.polled,
      (shown.0, shown.2, (shown.1, c.in_ok-image.image, shown.3, refl)),
    ) _
    c.in_err-write_to.field-0.0 c.in_err-write_to.ensures))

pub returns-clause-answers : goal.returns-clause-answers
returns-clause-answers g c =
    let known = subst (IsInputOf _) (sym c.deref.ensures.value) c.in_ok-input.ensures.bytes in
    let shown = c.in_ok-image.ensures.shown in
    answered_for_side _ _ _ _ _ _ _ _ _ _ (c.is_tile_side.ensures.0 c.if-not-is_tile_side.false)
    (written _ _ _ _ _ _ _ c.deref.result.now c.in_ok-input.input known c.in_ok-input.ensures.to_end
    c.in_ok-image.new c.in_ok-image.image (
      c.in_ok-image.ensures.hands,
      c.in_ok-image.ensures.polled,
      (shown.0, shown.2, (shown.1, c.in_ok-image.image, shown.3, refl)),
    ) _ _
    c.in_ok-write_to.ensures)
