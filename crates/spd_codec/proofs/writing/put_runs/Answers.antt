use Rattle.std.proofs.lemmas.{List.drop_more, List.drop_all, Result.IfOk-from_err}
use Rattle.stroke_core.specs.declared.run.Run.{Run}
use Rattle.spd_codec.specs.Spelling.{run_text, RunFits}
use Rattle.spd_codec.proofs.Putting.{text_more, fit_more, text_done, fit_done}
use Rattle.spd_codec.proofs.writing.put_runs.Goals as goal

pub returns-in_err-put_run-clause-text : goal.returns-in_err-put_run-clause-text
returns-in_err-put_run-clause-text c = IfOk-from_err _ _ c.from_residual.ensures.0

pub returns-in_err-put_run-clause-fit : goal.returns-in_err-put_run-clause-fit
returns-in_err-put_run-clause-fit c = IfOk-from_err _ _ c.from_residual.ensures.0

pub loop-run-preserved : goal.loop-run-preserved
loop-run-preserved c =
    let none : Run = record { y = 0; x0 = 0; x1 = 0 } in
    let more = drop_more c.args.runs.now c.loop-run.run-index none c.loop-run-test.true in
    record {
      text = text_more run_text _ _ _ _ _ _ more c.in_ok-put_run.ensures.text c.loop-run.invariant.text;
      fit = fit_more RunFits _ _ _ more c.in_ok-put_run.ensures.fits c.loop-run.invariant.fit;
    }

pub returns-clause-text : goal.returns-clause-text
returns-clause-text c =
    let none = drop_all c.loop-run.run-index c.args.runs.now c.loop-run-test.false in
    text_done run_text _ _ _ none c.loop-run.invariant.text

pub returns-clause-fit : goal.returns-clause-fit
returns-clause-fit c =
    let none = drop_all c.loop-run.run-index c.args.runs.now c.loop-run-test.false in
    fit_done RunFits _ none c.loop-run.invariant.fit
