use Rattle.std.proofs.Common.{◌≡◌, List, ℕ, inr, ap, subst}
use Rattle.std.proofs.lemmas.Result.{err_from_is_err_and}
use Rattle.stroke_lattice.specs.Pieces.{pieces_of}
use Rattle.spd_codec.specs.StateFile.{file_text}
use Rattle.run_faults.specs.declared.run_error.RunError.TheVariants.{Spd}
use Rattle.view_session.specs.Kept.{FileSpells}
use Rattle.view_session.proofs.KeptViews.{spells_pieces, writing_stops}
use Rattle.view_session.proofs.showing.show_kept.Goals as goal

pub returns-in_err-image-clause-refused : goal.returns-in_err-image-clause-refused
returns-in_err-image-clause-refused g c =
    let p = err_from_is_err_and c.from_residual.result c.from_residual.ensures.1 in
    rw (p.1, p.2) c.in_err-image.ensures.refused

pub returns-in_err-new-clause-refused : goal.returns-in_err-new-clause-refused
returns-in_err-new-clause-refused g c =
    let p = err_from_is_err_and c.from_residual-in_err-new.result c.from_residual-in_err-new.ensures.1 in
    let shown = c.in_ok-image.ensures.shown in
    rw (p.1, p.2) (inr (writing_stops c.args.conn c.args.old.now c.args.input.now shown.mask
    c.in_ok-image.strokes.state _ shown.gathered (ap Spd c.in_err-new.ensures.memory)))

pub returns-clause-shown : goal.returns-clause-shown
returns-clause-shown g c =
    let shown = c.in_ok-image.ensures.shown in
    let strokes = c.in_ok-image.strokes in
    let pieces = pieces_of 1400 strokes.state in
    let gathered = shown.gathered in (
      strokes.state,
      record {
        mask = shown.mask;
        deltas = gathered.deltas;
        spelled = gathered.spelled;
        kept = gathered.kept;
        old_spelled = gathered.old_spelled;
        merged = gathered.merged;
        shown = shown.shown;
        new_is = subst (λ (p : List ℕ). c.in_ok-new.new.items ≡ file_text c.args.conn p pieces)
            shown.are_for.print_is
            c.in_ok-new.ensures.text;
        new_spelled = subst (λ (p : List ℕ). FileSpells c.args.conn p c.in_ok-new.new.items pieces)
            shown.are_for.print_is
            (spells_pieces c.args.conn strokes.print c.in_ok-new.new.items pieces c.in_ok-new.ensures.spells);
      },
    )
