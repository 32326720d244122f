use Rattle.spd_codec.proofs.Files as files
use Rattle.spd_codec.proofs.state_file.every_file.Goals as goal

pub returns : goal.returns
returns c = files.every_file c.every_text.ensures
