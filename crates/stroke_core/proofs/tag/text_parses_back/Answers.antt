use Rattle.stroke_core.proofs.TagLemmas.{tag_of-text_of}
use Rattle.stroke_core.proofs.tag.text_parses_back.Goals as goal

pub returns : goal.returns
returns c = tag_of-text_of
