use Rattle.std.proofs.Common.{sym, subst}
use Rattle.byte_devices.specs.Transfer.{IsInputOf}
use Rattle.pgm_codec.proofs.Pieces.{reads_known}
use Rattle.pgm_codec.proofs.transfer.read_from.Goals as goal

pub returns-clause-image : goal.returns-clause-image
returns-clause-image g c =
    let read = c.read.ensures in
    let bytes = subst (IsInputOf _) (sym c.deref.ensures.value) c.in_ok-text.ensures.bytes in
    reads_known _ c.deref.result.now c.read.result bytes read.found read.only read.fault
