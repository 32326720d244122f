-- What the tactics leave open of `abandon`.
use Rattle.std.proofs.Common.{refl}
use Rattle.reset_core.proofs.Sweeping.{abandoned_is_stored}
use Rattle.reset_core.proofs.replica.Core.abandon.Goals as goal

pub invariant_of-self : goal.invariant_of-self
invariant_of-self c =
    let parts = c.self.inside in
    abandoned_is_stored c.abandon_keeps_sound.ensures parts c.args.self.now c.args.ticket c.abandon.new.self
    c.self.view_is c.self.invariant (c.if-was_out.ensures.0 refl) c.abandon.ensures
