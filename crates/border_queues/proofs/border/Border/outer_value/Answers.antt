use Rattle.std.proofs.Common.{◌∙◌}
use Rattle.border_queues.proofs.Around.{outer_value}
use Rattle.border_queues.proofs.border.Border.outer_value.Goals as goal

pub returns : goal.returns
returns c = c.seen.ensures ∙ outer_value c.args.self.now c.args.q c.requires.border c.requires.inside c.requires.outer
