use Rattle.std.proofs.lemmas.Result.{err_from_is_err_and}
use Rattle.studio.proofs.Beginnings.{eye_added, shows_through}
use Rattle.studio.proofs.keeper.showing.eyes_of.Goals as goal

pub returns-in_err-add_eye-clause-why : goal.returns-in_err-add_eye-clause-why
returns-in_err-add_eye-clause-why c =
    let p = err_from_is_err_and c.from_residual.result c.from_residual.ensures.1 in
    rw (p.1, p.2) c.in_err-add_eye.ensures.why

pub returns-in_err-add_eye-clause-shows : goal.returns-in_err-add_eye-clause-shows
returns-in_err-add_eye-clause-shows c = shows_through _ _ _ c.loop-eye.invariant.shows c.add_eye.ensures.shows

pub loop-eye-preserved : goal.loop-eye-preserved
loop-eye-preserved c =
    let so_far = c.loop-eye.invariant in
    record {
      eyes = eye_added _ _ c.loop-eye._eye _ _ so_far.shows so_far.eyes c.in_ok-add_eye.ensures.added;
      shows = shows_through _ _ _ so_far.shows c.add_eye.ensures.shows;
    }
