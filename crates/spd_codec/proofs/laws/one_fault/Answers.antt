use Rattle.spd_codec.proofs.FrameLaws.{first_fault, no_fault, no_memory}
use Rattle.spd_codec.proofs.laws.one_fault.Goals as goal

pub returns : goal.returns
returns c = record { memory = no_memory; first = first_fault; none = no_fault }
