-- Those at the places gone through were fed.
use Rattle.std.proofs.Common.{take}
use Rattle.link_nodes.specs.MemoryLinks.{IsFed}
use Rattle.link_nodes.proofs.memory_link.MemoryLink.carry.Given as goal

abbrev pub invariant-loop-place : goal.invariant-loop-place
invariant-loop-place l = IsFed l.other.sent (take l.place-index l.places) l.initial.self l.self
