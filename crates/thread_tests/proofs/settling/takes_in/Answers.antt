use Rattle.thread_tests.proofs.Companies.{keeper_stays}
use Rattle.thread_tests.proofs.settling.takes_in.Goals as goal

pub returns : goal.returns
returns c = keeper_stays _ _ c.requires c.take_in-taken.ensures.pens c.take_in-taken.ensures.untouched.studio
