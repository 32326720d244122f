use Rattle.thread_tests.proofs.refusals.closes.Goals as goal

pub closes_again-outcome-requires : goal.closes_again-outcome-requires
closes_again-outcome-requires g c = c.in-Err.ensures.not_closed.kept.1
