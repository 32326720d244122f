use Rattle.pgm_codec.proofs.Images.{either}
use Rattle.pgm_codec.proofs.reading.every_text.Goals as goal

pub returns : goal.returns
returns c = either
