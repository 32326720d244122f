use Rattle.command_line.proofs.Subcommands.{one_call}
use Rattle.command_line.proofs.words.at_most_one_call.Goals as goal

pub returns : goal.returns
returns c words a b = one_call words a b
