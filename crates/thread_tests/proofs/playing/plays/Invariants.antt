use Rattle.thread_tests.specs.Company.{IsCompany}
use Rattle.thread_tests.proofs.playing.plays.Given as goal

abbrev pub invariant-loop-line : goal.invariant-loop-line
invariant-loop-line l = IsCompany l.scene
