use Rattle.std.proofs.Common.{map, take}
use Rattle.command_line.specs.Words.{ArePorts}
use Rattle.command_line.proofs.words.node.ports_of.Given as goal

-- the texts so far are these ports
abbrev pub invariant-loop-text : goal.invariant-loop-text
invariant-loop-text l = ArePorts (take l.text-index (map (λ text. text.now) l.texts)) l.ports.items
