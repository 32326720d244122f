use Rattle.std.proofs.Common.{◌≡◌, drop}
use Rattle.edit_lang.specs.Lines.{words_of}
use Rattle.edit_lang.proofs.words.without_blanks.Given as goal

abbrev pub invariant-loop-i : goal.invariant-loop-i
invariant-loop-i l = words_of (drop l.i l.line) ≡ words_of l.line
