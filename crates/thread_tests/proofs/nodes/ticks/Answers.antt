use Rattle.thread_tests.proofs.Companies.{same_node, same_through}
use Rattle.thread_tests.proofs.nodes.ticks.Goals as goal

pub loop-heard-init : goal.loop-heard-init
loop-heard-init c = same_node _

pub loop-heard-preserved : goal.loop-heard-preserved
loop-heard-preserved c = same_through _ _ _ c.loop-heard.invariant c.tick-ticked.ensures.looked.same
