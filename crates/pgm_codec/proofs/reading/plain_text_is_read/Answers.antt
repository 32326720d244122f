use Rattle.pgm_codec.proofs.PlainTexts.{plain_spells, plain_spells_only}
use Rattle.pgm_codec.proofs.reading.plain_text_is_read.Goals as goal

pub returns : goal.returns
returns c = record { spelled = plain_spells; only = plain_spells_only }
