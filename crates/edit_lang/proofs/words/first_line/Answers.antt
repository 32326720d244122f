use Rattle.std.proofs.Common.{◌∙◌, refl}
use Rattle.edit_lang.proofs.Cutting.{lines_first, lines_last}
use Rattle.edit_lang.proofs.words.first_line.Goals as goal

pub returns-in-Some-clause-lines : goal.returns-in-Some-clause-lines
returns-in-Some-clause-lines c = lines_first c.args.text.now _ _ c.in-Some.ensures.parts ∙ rw
    c.without_return.ensures refl

pub returns-in-None-clause-lines : goal.returns-in-None-clause-lines
returns-in-None-clause-lines c = lines_last c.args.text.now c.requires c.in-None.ensures.parts ∙ rw
    c.without_return-in-None.ensures refl
