use Rattle.thread_tests.specs.Company.{IsCompany}
use Rattle.thread_tests.proofs.playing.works.Given as goal

abbrev pub invariant-loop : goal.invariant-loop
invariant-loop l = IsCompany l.scene
