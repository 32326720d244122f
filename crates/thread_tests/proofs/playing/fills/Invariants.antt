use Rattle.thread_tests.specs.Company.{IsCompany}
use Rattle.thread_tests.proofs.playing.fills.Given as goal

abbrev pub invariant-loop-tag : goal.invariant-loop-tag
invariant-loop-tag l = IsCompany l.scene
