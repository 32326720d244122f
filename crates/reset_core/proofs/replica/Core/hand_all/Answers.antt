use Rattle.std.proofs.Common.{◌≡◌, [], refl, sym, ◌∙◌, subst, inl, inr, true, false}
use Rattle.core_rules.specs.Runs.{HasHints}
use Rattle.reset_core.specs.Settling.{AreHanded}
use Rattle.reset_core.proofs.Settling.{one_more_handed}
use Rattle.reset_core.proofs.replica.Core.hand_all.Goals as goal

pub loop-init : goal.loop-init
loop-init c = record { log = []; works = refl; none_taken = refl; count = refl; none_out = c.requires; tiling = refl }

pub hand_first-requires : goal.hand_first-requires
hand_first-requires c = c.loop.invariant.none_out

pub loop-smaller : goal.loop-smaller
loop-smaller c = elim c.hand_first.ensures [
  | inl (found, first) ↦ first.fewer
  | inr (missing, same, none) ↦ let e : true ≡ false = sym c.loop-test.true ∙ missing in absurd cc
]

pub loop-preserved : goal.loop-preserved
loop-preserved c = elim c.hand_first.ensures [
  | inl (found, first) ↦ one_more_handed c.args.self.now c.loop.self c.hand_first.new.self c.loop.invariant first
  | inr (missing, same, none) ↦ let e : true ≡ false = sym c.loop-test.true ∙ missing in absurd cc
]

pub returns-clause-handed : goal.returns-clause-handed
returns-clause-handed c = elim c.hand_first.ensures [
  | inl (found, first) ↦ let e : true ≡ false = sym found ∙ c.loop-test.false in absurd cc
  | inr (missing, same, none) ↦ subst (AreHanded c.args.self.now) (sym same) c.loop.invariant
]

pub returns-clause-no_hints : goal.returns-clause-no_hints
returns-clause-no_hints c = elim c.hand_first.ensures [
  | inl (found, first) ↦ let e : true ≡ false = sym found ∙ c.loop-test.false in absurd cc
  | inr (missing, same, none) ↦ subst (λ core. (u : _) → HasHints core u → ⊥) (sym same) none
]
