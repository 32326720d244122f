use Rattle.spd_codec.proofs.FrameLaws.{one_text}
use Rattle.spd_codec.proofs.laws.one_spelling.Goals as goal

pub returns : goal.returns
returns c = one_text
