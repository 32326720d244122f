use Rattle.spd_codec.proofs.Files.{joined}
use Rattle.spd_codec.proofs.state_file.joined_files_spell_both.Goals as goal

pub returns : goal.returns
returns c = λ a b frames others first second. joined frames others a b first second
