use Rattle.std.proofs.Common.{sym, ◌∙◌}
use Rattle.edit_lang.proofs.Cutting.{passes_blank}
use Rattle.edit_lang.proofs.words.without_blanks.Goals as goal

pub loop-i-preserved : goal.loop-i-preserved
loop-i-preserved c = passes_blank c.args.line.now c.loop-i.i c.loop-i-test.true (sym c.is_blank.ensures
    ∙ c.if-not-is_blank.false) c.loop-i.invariant
