use Rattle.thread_tests.proofs.Companies.{same_through}
use Rattle.thread_tests.proofs.nodes.tell.Goals as goal

pub returns-clause-one : goal.returns-clause-one
returns-clause-one c = same_through _ _ _ c.ticks.ensures c.ticks-3.ensures

pub returns-clause-two : goal.returns-clause-two
returns-clause-two c = same_through _ _ _ c.ticks-2.ensures c.ticks-4.ensures
