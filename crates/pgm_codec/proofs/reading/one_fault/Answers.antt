use Rattle.pgm_codec.specs.declared.error.PgmError.TheVariants.{Memory, Device}
use Rattle.pgm_codec.proofs.{Images.same_fault, Images.no_fault, FaultKinds.fault_kind}
use Rattle.pgm_codec.proofs.reading.one_fault.Goals as goal

pub returns : goal.returns
returns c = record {
  memory = λ text. fault_kind text Memory;
  device = λ text. fault_kind text Device;
  first = same_fault;
  none = no_fault;
}
