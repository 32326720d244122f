use Rattle.std.proofs.Common.{sym, subst}
use Rattle.byte_devices.specs.Transfer.{IsInputOf}
use Rattle.page_server.proofs.Openings.{mask_found, mask_faulty}
use Rattle.page_server.proofs.opening.mask_from.Goals as goal

pub returns-clause-found : goal.returns-clause-found
returns-clause-found g c =
    mask_found _ c.deref.result.now c.read.result
    (subst (IsInputOf _) (sym c.deref.ensures.value) c.in_ok-input.ensures.bytes) c.read.ensures.found

pub returns-clause-fault : goal.returns-clause-fault
returns-clause-fault g c =
    mask_faulty _ c.deref.result.now c.read.result
    (subst (IsInputOf _) (sym c.deref.ensures.value) c.in_ok-input.ensures.bytes) c.read.ensures.fault
