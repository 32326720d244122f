use Rattle.std.proofs.Common.{◌≡◌, ℕ, ◌+◌, ◌∙◌, sym, subst, arith}
use Rattle.reset_core.specs.Bands.{AreSweptInto}
use Rattle.reset_core.proofs.Bands.Settling.{swept_in_both}
use Rattle.reset_core.proofs.replica.Core.round_or_alone.Goals as goal

pub returns-clause-swept : goal.returns-clause-swept
returns-clause-swept g c =
    let bands = c.round-in_bands in
    let alone = c.sweep_alone-2 in
    let none : bands.result + alone.result ≡ alone.result = omega (arith, c.if-in_bands-gt0.false) in
    subst (λ (jobs : ℕ). AreSweptInto c.args.self.now c.args.swept.now alone.new.self alone.new.swept jobs) none
    (swept_in_both c.args.self.now bands.new.self alone.new.self c.args.swept.now bands.new.swept alone.new.swept
    bands.result alone.result bands.ensures.swept alone.ensures.swept)

pub sweep_alone-requires-2-clause-left : goal.sweep_alone-requires-2-clause-left
sweep_alone-requires-2-clause-left g c = c.round-in_bands.ensures.swept.swept.left

pub sweep_alone-requires-2-clause-count : goal.sweep_alone-requires-2-clause-count
sweep_alone-requires-2-clause-count g c =
    let bands = c.round-in_bands.ensures.swept in
    bands.gained.count ∙ c.requires.count ∙ sym bands.swept.count
