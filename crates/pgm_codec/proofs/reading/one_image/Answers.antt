use Rattle.pgm_codec.proofs.Images.{same_image}
use Rattle.pgm_codec.proofs.reading.one_image.Goals as goal

pub returns : goal.returns
returns c = same_image
