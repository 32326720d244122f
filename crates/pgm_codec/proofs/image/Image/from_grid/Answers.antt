use Rattle.std.proofs.lemmas.Result.{IfOk-from_err}
use Rattle.pgm_codec.proofs.image.Image.from_grid.Goals as goal

pub returns-in_err-grid-clause-value : goal.returns-in_err-grid-clause-value
returns-in_err-grid-clause-value c = IfOk-from_err _ _ c.from_residual.ensures.0
