use Rattle.std.proofs.Common.{refl}
use Rattle.run_faults.proofs.run_error.fault_line.Goals as goal

pub returns : goal.returns
returns c =
    rw (
      c.in_ok-push_to.ensures,
      c.detail.ensures,
      c.in_ok-push_str.ensures.bytes,
      c.code.ensures,
      c.in_ok-line.ensures.ok,
    ) refl
