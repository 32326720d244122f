use Rattle.std.proofs.Common.{List, drop, ap, subst, ◌∙◌, arith}
use Rattle.std.proofs.lemmas.{List.drop_all, Result.IfOk-from_err, Result.err_from_is_err_and}
use Rattle.stroke_lattice.specs.State.{State}
use Rattle.spd_codec.specs.{declared.version.Version.TheVariants.Second, Spelling.frame_text}
use Rattle.spd_codec.specs.StateFile.{with_length, file_text, frames_of, SpellsFile}
use Rattle.spd_codec.proofs.{Files.all_written, Putting.text_done}
use Rattle.std.proofs.lemmas.Grind.{common_steps}
use Rattle.spd_codec.proofs.state_file.write_frames.Goals as goal

pub returns-clause-spells : goal.returns-clause-spells
returns-clause-spells c =
    subst (λ (pieces : List State). SpellsFile c.loop-piece.out.items (frames_of c.args.conn c.args.print.now pieces))
    (c.deref-piece-items.ensures.value ∙ c.in_ok-pieces.ensures.pieces)
    (all_written c.args.conn c.args.print.now c.deref-piece-items.result.now c.loop-piece.piece-index
    c.loop-piece.out.items c.loop-piece-test.false c.loop-piece.invariant.text c.loop-piece.invariant.spells)

pub loop-piece-preserved : goal.loop-piece-preserved
loop-piece-preserved c = grind (arith, common_steps)

pub put_piece-requires : goal.put_piece-requires
put_piece-requires c = grind (arith, common_steps)

pub returns-clause-text : goal.returns-clause-text
returns-clause-text c =
    let pieces = c.deref-piece-items.result.now in
    let none = drop_all c.loop-piece.piece-index pieces c.loop-piece-test.false in
    text_done (λ (piece : State). with_length (frame_text Second c.args.conn c.args.print.now piece))
    (drop c.loop-piece.piece-index pieces) c.loop-piece.out.items (file_text c.args.conn c.args.print.now pieces)
    none c.loop-piece.invariant.text
    ∙ ap (file_text c.args.conn c.args.print.now) (c.deref-piece-items.ensures.value ∙ c.in_ok-pieces.ensures.pieces)

pub returns-in_err-pieces-clause-text : goal.returns-in_err-pieces-clause-text
returns-in_err-pieces-clause-text c = IfOk-from_err _ _ c.from_residual.ensures.0

pub returns-in_err-pieces-clause-spells : goal.returns-in_err-pieces-clause-spells
returns-in_err-pieces-clause-spells c = IfOk-from_err _ _ c.from_residual.ensures.0

pub returns-in_err-pieces-clause-memory : goal.returns-in_err-pieces-clause-memory
returns-in_err-pieces-clause-memory c =
    let p = err_from_is_err_and c.from_residual.result c.from_residual.ensures.1 in
    rw p.1 p.2

pub returns-in_err-put_piece-clause-text : goal.returns-in_err-put_piece-clause-text
returns-in_err-put_piece-clause-text c = IfOk-from_err _ _ c.from_residual-in_err-put_piece.ensures.0

pub returns-in_err-put_piece-clause-spells : goal.returns-in_err-put_piece-clause-spells
returns-in_err-put_piece-clause-spells c = IfOk-from_err _ _ c.from_residual-in_err-put_piece.ensures.0

pub returns-in_err-put_piece-clause-memory : goal.returns-in_err-put_piece-clause-memory
returns-in_err-put_piece-clause-memory c =
    let p = err_from_is_err_and c.from_residual-in_err-put_piece.result c.from_residual-in_err-put_piece.ensures.1 in
    rw p.1 p.2
