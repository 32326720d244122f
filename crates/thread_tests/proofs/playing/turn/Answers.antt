use Rattle.thread_tests.proofs.Companies.{keeper_stays}
use Rattle.thread_tests.proofs.playing.turn.Goals as goal

pub returns : goal.returns
returns c = keeper_stays _ _ c.requires c.turn.ensures.pens c.turn.ensures.untouched.studio
