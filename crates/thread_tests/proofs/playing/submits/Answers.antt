use Rattle.thread_tests.proofs.Companies.{pen_stays}
use Rattle.thread_tests.proofs.playing.submits.Goals as goal

pub returns-in-Some : goal.returns-in-Some
returns-in-Some c = pen_stays _ _ c.requires c.submit.ensures.desk
