use Rattle.std.proofs.Common.{◌≡◌, ◌+◌, ◌-◌, ◌≤◌, ◌^◌, length, min, flat_map}
use Rattle.edit_lang.specs.Writing.{placement_text, live_text}
use Rattle.edit_lang.proofs.lengths.live_len.Given as goal

abbrev pub invariant-loop-tag : goal.invariant-loop-tag
invariant-loop-tag l = record {
  rest : min (l.length + length (flat_map (λ entry. placement_text entry.0 entry.1) l.tag-iterator)) (2 ^ 64 - 1)
      ≡ min (length (live_text l.state)) (2 ^ 64 - 1);
  within : l.length ≤ 2 ^ 64 - 1;
}
