use Rattle.std.proofs.Common.{◌≡◌, ℕ, ◌+◌, subst, arith}
use Rattle.reset_core.specs.Bands.{AreSweptInto}
use Rattle.reset_core.proofs.Bands.Settling.{swept_in_both}
use Rattle.reset_core.proofs.replica.Core.sweep_rounds.Given.{Over}
use Rattle.reset_core.proofs.replica.Core.sweep_rounds.Goals as goal
use Rattle.reset_core.proofs.replica.Core.sweep_rounds.Goals.{After-round_or_alone-more}

-- what was swept so far, and then in one more round
swept : (g : Over) (c : After-round_or_alone-more g)
    → AreSweptInto c.args.self.now c.args.swept.now c.round_or_alone-more.new.self c.round_or_alone-more.new.swept
    (c.loop.done + c.round_or_alone-more.result)
swept g c =
    let more = c.round_or_alone-more in
    swept_in_both c.args.self.now c.loop.self more.new.self c.args.swept.now c.loop.swept more.new.swept
    c.loop.done more.result c.loop.invariant.swept more.ensures.swept

pub returns-then-more-eq0-clause-swept : goal.returns-then-more-eq0-clause-swept
returns-then-more-eq0-clause-swept g c =
    let more = c.round_or_alone-more in
    let none : c.loop.done + more.result ≡ c.loop.done = omega (arith, c.if-more-eq0.true) in
    subst (λ (jobs : ℕ). AreSweptInto c.args.self.now c.args.swept.now more.new.self more.new.swept jobs) none
    (swept g (goal.at.returns-then-more-eq0-clause-swept g c).After-round_or_alone-more)

pub loop-preserved : goal.loop-preserved
loop-preserved g c = record {
  swept = swept g (goal.at.loop-preserved g c).After-round_or_alone-more;
  at_most = omega (arith, c.loop.invariant.at_most, c.round_or_alone-more.ensures.at_most);
}
