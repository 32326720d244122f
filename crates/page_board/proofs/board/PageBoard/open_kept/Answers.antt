-- What the tactics leave open of `open_kept`.
use Rattle.std.proofs.Common.{◌∙◌, sym, ap, inl, inr, subst}
use Rattle.std.proofs.lemmas.Result.{IfOk-weaker, IfOk-from_err, IfErr-weaker, err_from_is_err_and}
use Rattle.pgm_codec.specs.Graymap.{Graymap}
use Rattle.stroke_lattice.specs.State.{StateFits}
use Rattle.view_session.specs.Kept.{print_of}
use Rattle.page_board.specs.Opening.{IsBegunBoard}
use Rattle.page_board.proofs.Keeping.{opened_is_kept, opened_has_all}
use Rattle.page_board.proofs.board.PageBoard.open_kept.Goals as goal

pub returns-clause-opened : goal.returns-clause-opened
returns-clause-opened g c =
    let state = c.in_ok-gathered.gathered.state in
    IfOk-weaker c.begun.result _ _ (λ board begun. (
      state,
      c.in_ok-gathered.ensures.kept,
      subst (λ (m : Graymap). IsBegunBoard m c.args.conn c.args.side c.args.run state board)
          c.in_ok-gathered.ensures.mask begun,
    )) c.begun.ensures.begun

pub returns-clause-kept : goal.returns-clause-kept
returns-clause-kept g c =
    IfOk-weaker c.begun.result _ _
    (opened_is_kept c.args.mask c.args.conn c.args.side c.args.run c.args.old.now) (returns-clause-opened g c)

pub returns-clause-has_all : goal.returns-clause-has_all
returns-clause-has_all g c =
    IfOk-weaker c.begun.result _ _
    (opened_has_all c.args.mask c.args.conn c.args.side c.args.run c.args.old.now) (returns-clause-opened g c)

pub returns-in_err-gathered-clause-opened : goal.returns-in_err-gathered-clause-opened
returns-in_err-gathered-clause-opened g c = IfOk-from_err c.from_residual.result _ c.from_residual.ensures.0

pub returns-in_err-gathered-clause-kept : goal.returns-in_err-gathered-clause-kept
returns-in_err-gathered-clause-kept g c = IfOk-from_err c.from_residual.result _ c.from_residual.ensures.0

pub returns-in_err-gathered-clause-has_all : goal.returns-in_err-gathered-clause-has_all
returns-in_err-gathered-clause-has_all g c = IfOk-from_err c.from_residual.result _ c.from_residual.ensures.0

pub returns-in_err-gathered-clause-refused : goal.returns-in_err-gathered-clause-refused
returns-in_err-gathered-clause-refused g c =
    let p = err_from_is_err_and c.from_residual.result c.from_residual.ensures.1 in
    rw (p.1, p.2)
    (inr (c.is_tile_side.ensures.0 c.if-not-is_tile_side.false, c.in_err-gathered.ensures.refused))

pub begun-requires-clause-side : goal.begun-requires-clause-side
begun-requires-clause-side g c = c.is_tile_side.ensures.0 c.if-not-is_tile_side.false

pub begun-requires-clause-fits : goal.begun-requires-clause-fits
begun-requires-clause-fits g c =
    subst (λ (m : Graymap). StateFits m.raster.width m.raster.height c.in_ok-gathered.gathered.state)
    (sym c.in_ok-gathered.ensures.mask) c.in_ok-gathered.ensures.fits

pub begun-requires-clause-print : goal.begun-requires-clause-print
begun-requires-clause-print g c =
    c.in_ok-gathered.ensures.print ∙ sym (ap print_of c.in_ok-gathered.ensures.mask)

pub returns-clause-refused : goal.returns-clause-refused
returns-clause-refused g c =
    IfErr-weaker c.begun.result _ _
    (λ e memory. inr (c.is_tile_side.ensures.0 c.if-not-is_tile_side.false, inl memory)) c.begun.ensures.memory
