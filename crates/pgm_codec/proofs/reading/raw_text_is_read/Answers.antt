use Rattle.pgm_codec.proofs.RawTexts.{raw_spells, raw_spells_only}
use Rattle.pgm_codec.proofs.reading.raw_text_is_read.Goals as goal

pub returns : goal.returns
returns c = record { spelled = raw_spells; only = raw_spells_only }
