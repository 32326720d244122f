use Rattle.spd_codec.proofs.FrameLaws.{none_begins}
use Rattle.spd_codec.proofs.laws.no_spelling_begins_another.Goals as goal

pub returns : goal.returns
returns c = none_begins
