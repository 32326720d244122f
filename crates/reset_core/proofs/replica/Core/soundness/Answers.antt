-- What the tactics leave open of `soundness`.
use Rattle.std.proofs.Common.{subst}
use Rattle.core_rules.specs.Invariant.{IsSound}
use Rattle.reset_core.proofs.replica.Core.soundness.Goals as goal

pub returns : goal.returns
returns c = subst IsSound c.self.view_is c.self.invariant.sound
