-- What the loop of `raise_part` keeps.
use Rattle.core_rules.specs.Image.{IsJoinedWith}
use Rattle.reset_core.proofs.parts.raise_part.Given as goal

-- the rows so far are raised
abbrev pub invariant-loop-y : goal.invariant-loop-y
invariant-loop-y l = IsJoinedWith (record l.rect { h = l.y }) l.piece l.fn.whole l.whole
