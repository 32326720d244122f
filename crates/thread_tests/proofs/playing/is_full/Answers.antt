use Rattle.thread_tests.proofs.Companies.{pen_stays}
use Rattle.thread_tests.proofs.playing.is_full.Goals as goal

pub turn-turned-requires : goal.turn-turned-requires
turn-turned-requires c = pen_stays _ _ c.requires c.submit.ensures.desk
