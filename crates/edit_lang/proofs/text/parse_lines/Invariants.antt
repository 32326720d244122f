use Rattle.std.proofs.Common.{◌+◌, ◌≤◌, length}
use Rattle.edit_lang.proofs.Reading.{IsRead}
use Rattle.edit_lang.proofs.text.parse_lines.Given as goal

abbrev pub invariant-loop-rest : goal.invariant-loop-rest
invariant-loop-rest l = record {
  read : IsRead l.text l.deltas.items (l.number + 1) l.rest;
  count : l.number + length l.rest ≤ length l.text;
}

abbrev pub decreases-loop-rest : goal.decreases-loop-rest
decreases-loop-rest l = length l.rest
