use Rattle.std.proofs.Common.{◌∙◌}
use Rattle.border_queues.proofs.Around.{own_value}
use Rattle.border_queues.proofs.border.Border.value.Goals as goal

pub returns : goal.returns
returns c = c.get.ensures ∙ own_value c.args.self.now c.args.p c.requires.border c.requires.own
