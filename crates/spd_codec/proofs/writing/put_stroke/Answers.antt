use Rattle.std.proofs.lemmas.Result.{IfOk-from_err}
use Rattle.spd_codec.proofs.writing.put_stroke.Goals as goal

pub returns-in_err-put_tag-clause-text : goal.returns-in_err-put_tag-clause-text
returns-in_err-put_tag-clause-text c = IfOk-from_err _ _ c.from_residual.ensures.0

pub returns-in_err-put_tag-clause-fits : goal.returns-in_err-put_tag-clause-fits
returns-in_err-put_tag-clause-fits c = IfOk-from_err _ _ c.from_residual.ensures.0

pub returns-in_err-push-in-Runs-clause-text : goal.returns-in_err-push-in-Runs-clause-text
returns-in_err-push-in-Runs-clause-text c = IfOk-from_err _ _ c.from_residual-in_err-push-in-Runs.ensures.0

pub returns-in_err-push-in-Runs-clause-fits : goal.returns-in_err-push-in-Runs-clause-fits
returns-in_err-push-in-Runs-clause-fits c = IfOk-from_err _ _ c.from_residual-in_err-push-in-Runs.ensures.0

pub returns-in_err-put_number-in-Runs-clause-text : goal.returns-in_err-put_number-in-Runs-clause-text
returns-in_err-put_number-in-Runs-clause-text c = IfOk-from_err _ _ c.from_residual-in_err-put_number-in-Runs.ensures.0

pub returns-in_err-put_number-in-Runs-clause-fits : goal.returns-in_err-put_number-in-Runs-clause-fits
returns-in_err-put_number-in-Runs-clause-fits c = IfOk-from_err _ _ c.from_residual-in_err-put_number-in-Runs.ensures.0

pub returns-in_err-put_number-in-Runs-2-clause-text : goal.returns-in_err-put_number-in-Runs-2-clause-text
returns-in_err-put_number-in-Runs-2-clause-text c =
    IfOk-from_err _ _ c.from_residual-in_err-put_number-in-Runs-2.ensures.0

pub returns-in_err-put_number-in-Runs-2-clause-fits : goal.returns-in_err-put_number-in-Runs-2-clause-fits
returns-in_err-put_number-in-Runs-2-clause-fits c =
    IfOk-from_err _ _ c.from_residual-in_err-put_number-in-Runs-2.ensures.0

pub returns-in_err-push-in-Disc-clause-text : goal.returns-in_err-push-in-Disc-clause-text
returns-in_err-push-in-Disc-clause-text c = IfOk-from_err _ _ c.from_residual-in_err-push-in-Disc.ensures.0

pub returns-in_err-push-in-Disc-clause-fits : goal.returns-in_err-push-in-Disc-clause-fits
returns-in_err-push-in-Disc-clause-fits c = IfOk-from_err _ _ c.from_residual-in_err-push-in-Disc.ensures.0

pub returns-in_err-put_number-in-Disc-clause-text : goal.returns-in_err-put_number-in-Disc-clause-text
returns-in_err-put_number-in-Disc-clause-text c = IfOk-from_err _ _ c.from_residual-in_err-put_number-in-Disc.ensures.0

pub returns-in_err-put_number-in-Disc-clause-fits : goal.returns-in_err-put_number-in-Disc-clause-fits
returns-in_err-put_number-in-Disc-clause-fits c = IfOk-from_err _ _ c.from_residual-in_err-put_number-in-Disc.ensures.0

pub returns-in_err-put_number-in-Disc-2-clause-text : goal.returns-in_err-put_number-in-Disc-2-clause-text
returns-in_err-put_number-in-Disc-2-clause-text c =
    IfOk-from_err _ _ c.from_residual-in_err-put_number-in-Disc-2.ensures.0

pub returns-in_err-put_number-in-Disc-2-clause-fits : goal.returns-in_err-put_number-in-Disc-2-clause-fits
returns-in_err-put_number-in-Disc-2-clause-fits c =
    IfOk-from_err _ _ c.from_residual-in_err-put_number-in-Disc-2.ensures.0

pub returns-in_err-put_number-in-Disc-3-clause-text : goal.returns-in_err-put_number-in-Disc-3-clause-text
returns-in_err-put_number-in-Disc-3-clause-text c =
    IfOk-from_err _ _ c.from_residual-in_err-put_number-in-Disc-3.ensures.0

pub returns-in_err-put_number-in-Disc-3-clause-fits : goal.returns-in_err-put_number-in-Disc-3-clause-fits
returns-in_err-put_number-in-Disc-3-clause-fits c =
    IfOk-from_err _ _ c.from_residual-in_err-put_number-in-Disc-3.ensures.0
