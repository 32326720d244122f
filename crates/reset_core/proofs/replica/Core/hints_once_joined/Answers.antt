-- What the tactics leave open of `hints_once_joined`.
use Rattle.std.proofs.Common.{arith}
use Rattle.reset_core.proofs.Sweeping.{swept_is_raised}
use Rattle.std.proofs.lemmas.Grind.{common_steps}
use Rattle.reset_core.proofs.replica.Core.hints_once_joined.Goals as goal

pub hints_by-requires-clause-raised : goal.hints_by-requires-clause-raised
hints_by-requires-clause-raised c =
    swept_is_raised c.args.self.now c.args.swept.now c.pixels-pixels.result.now c.pixels-pixels.ensures.value
    c.pixels-pixels.ensures.swept c.requires.known (c.requires.unchanged c.if-is_unchanged.true)

pub rect-requires : goal.rect-requires
rect-requires c = grind (arith, common_steps)

pub raised_part-requires : goal.raised_part-requires
raised_part-requires c = grind (arith, common_steps)
