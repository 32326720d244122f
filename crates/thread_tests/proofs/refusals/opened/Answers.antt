use Rattle.studio.proofs.Company.{pens_of_opened, eyes_of_opened}
use Rattle.thread_tests.proofs.refusals.opened.Goals as goal

pub scene_of-requires-clause-pens : goal.scene_of-requires-clause-pens
scene_of-requires-clause-pens g c = pens_of_opened _ _ _ _ _ c.in-Ok.ensures.opened

pub scene_of-requires-clause-eyes : goal.scene_of-requires-clause-eyes
scene_of-requires-clause-eyes g c = eyes_of_opened _ _ _ _ _ c.in-Ok.ensures.opened
