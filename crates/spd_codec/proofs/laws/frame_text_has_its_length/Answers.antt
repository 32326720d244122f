use Rattle.spd_codec.proofs.Lengths.{frame_text_length, frame_length_is}
use Rattle.spd_codec.proofs.laws.frame_text_has_its_length.Goals as goal

pub returns : goal.returns
returns c = record { text = frame_text_length; parts = frame_length_is }
