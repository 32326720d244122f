use Rattle.spd_codec.proofs.FrameLaws.{one_frame}
use Rattle.spd_codec.proofs.laws.at_most_one_frame.Goals as goal

pub returns : goal.returns
returns c = one_frame
