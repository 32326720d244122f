use Rattle.run_faults.specs.RunError.{error_line}
use Rattle.command_line.proofs.Calls.{tells_line}
use Rattle.command_line.proofs.process.tell.Goals as goal

pub returns : goal.returns
returns g c = tells_line c.put_fault.result _ _ (error_line c.args.error.now) c.put_fault.ensures
