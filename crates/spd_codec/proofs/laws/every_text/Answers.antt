use Rattle.spd_codec.proofs.FrameLaws.{every, bytes_from_each}
use Rattle.spd_codec.proofs.laws.every_text.Goals as goal

pub returns : goal.returns
returns c = λ bytes all. every bytes (bytes_from_each bytes all)
