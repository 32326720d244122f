use Rattle.std.proofs.Common.{◌≡◌, take}
use Rattle.edit_lang.proofs.text.deltas_of.Given as goal

-- the deltas so far are those of the first lines
abbrev pub invariant-loop-line : goal.invariant-loop-line
invariant-loop-line l = l.deltas.items ≡ take l.line-index l.lines
