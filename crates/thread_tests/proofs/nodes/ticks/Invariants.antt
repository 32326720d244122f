use Rattle.link_nodes.specs.Nodes.{IsSameNode}
use Rattle.thread_tests.proofs.nodes.ticks.Given as goal

abbrev pub invariant-loop-heard : goal.invariant-loop-heard
invariant-loop-heard l = IsSameNode l.fn.node l.node
