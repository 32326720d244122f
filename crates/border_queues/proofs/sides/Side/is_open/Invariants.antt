use Rattle.std.proofs.Common.{◌≡◌, ◌↔◌, false}
use Rattle.border_queues.specs.Sides.{NoneCanRise}
use Rattle.border_queues.proofs.sides.Side.is_open.Given as goal

-- no place so far was open just where no pixel beyond those can rise
abbrev pub invariant-loop-i : goal.invariant-loop-i
invariant-loop-i l = (l.any ≡ false) ↔ NoneCanRise l.self l.i
