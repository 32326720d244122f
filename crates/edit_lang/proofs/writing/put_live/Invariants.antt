use Rattle.std.proofs.Common.{◌≡◌, ◌++◌, flat_map}
use Rattle.std.specs.List.{AllByRecursion}
use Rattle.edit_lang.specs.Writing.{placement_text, live_of, live_text, IsHeld}
use Rattle.edit_lang.proofs.writing.put_live.Given as goal

abbrev pub invariant-loop-tag : goal.invariant-loop-tag
invariant-loop-tag l = record {
  text : l.out.items ++ flat_map (λ entry. placement_text entry.0 entry.1) l.tag-iterator
      ≡ l.initial.out.items ++ live_text l.state;
  held : AllByRecursion IsHeld l.tag-iterator → AllByRecursion IsHeld (live_of l.state);
}
