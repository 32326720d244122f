-- What the tactics leave open of `image`.
use Rattle.std.proofs.Common.{rules, subst}
use Rattle.core_rules.specs.Invariant.{IsSound}
use Rattle.reset_core.proofs.Storing.{image_below_mask}
use Rattle.core_rules.proofs.Quiet.{sound_is_lawful, quiet_is_reconstruction}
use Rattle.reset_core.proofs.replica.Core.image.Goals as goal

pub returns : goal.returns
returns c =
    let sound = subst IsSound c.self.view_is c.self.invariant.sound in
    record {
      value = search rules;
      sized = search rules;
      below = image_below_mask c.args.self.now sound;
      lawful = sound_is_lawful c.args.self.now sound;
      quiet = quiet_is_reconstruction c.args.self.now sound;
    }
