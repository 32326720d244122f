use Rattle.std.proofs.Common.{◌≡◌, arith, [], refl, sym, ap, ◌∙◌, subst, length, inl, inr, true, false}
use Rattle.std.proofs.lemmas.List.{length-append}
use Rattle.core_rules.specs.Runs.{IsRun, NoneOut, abandoned, tickets_out}
use Rattle.reset_core.proofs.Settling.{one_more_abandoned, few_tickets, all_abandoned}
use Rattle.tiled_core.proofs.replica.TiledCore.abandon_all.Goals as goal

pub loop-abandons-init : goal.loop-abandons-init
loop-abandons-init c = record { done = []; clears = refl; parts = refl; count = refl }

pub overflow_add-abandons : goal.overflow_add-abandons
overflow_add-abandons c = elim c.abandon_first.ensures.first [
  | inl (found, (ticket, first, happens)) ↦
      let so_far = c.loop-abandons.invariant in
      let long = ap length so_far.parts ∙ length-append so_far.done (tickets_out 0 c.loop-abandons.self.tiles) in
      omega (arith, long, ap length first, few_tickets 0 c.args.self.now.tiles, so_far.count)
  | inr (missing, same, none, none_out) ↦
      let e : true ≡ false = sym c.loop-abandons-test.true ∙ missing in absurd cc
]

pub loop-abandons-smaller : goal.loop-abandons-smaller
loop-abandons-smaller c = elim c.abandon_first.ensures.first [
  | inl (found, (ticket, first, happens)) ↦ let e = ap length first in omega (arith, e)
  | inr (missing, same, none, none_out) ↦
      let e : true ≡ false = sym c.loop-abandons-test.true ∙ missing in absurd cc
]

pub loop-abandons-preserved : goal.loop-abandons-preserved
loop-abandons-preserved c = elim c.abandon_first.ensures.first [
  | inl (found, (ticket, first, happens)) ↦
      one_more_abandoned c.args.self.now c.loop-abandons.self c.abandon_first.new.self c.loop-abandons.abandons ticket
      c.loop-abandons.invariant first happens
  | inr (missing, same, none, none_out) ↦
      let e : true ≡ false = sym c.loop-abandons-test.true ∙ missing in absurd cc
]

pub returns-clause-clears : goal.returns-clause-clears
returns-clause-clears c = elim c.abandon_first.ensures.first [
  | inl (found, rest) ↦ let e : true ≡ false = sym found ∙ c.loop-abandons-test.false in absurd cc
  | inr (missing, same, none, none_out) ↦
      subst (IsRun c.args.self.now (abandoned (tickets_out 0 c.args.self.now.tiles))) (sym same)
      (all_abandoned c.args.self.now c.loop-abandons.self c.loop-abandons.abandons c.loop-abandons.invariant none).0
]

pub returns-clause-none_out : goal.returns-clause-none_out
returns-clause-none_out c = elim c.abandon_first.ensures.first [
  | inl (found, rest) ↦ let e : true ≡ false = sym found ∙ c.loop-abandons-test.false in absurd cc
  | inr (missing, same, none, none_out) ↦ subst NoneOut (sym same) none_out
]

pub returns-clause-count : goal.returns-clause-count
returns-clause-count c = elim c.abandon_first.ensures.first [
  | inl (found, rest) ↦ let e : true ≡ false = sym found ∙ c.loop-abandons-test.false in absurd cc
  | inr (missing, same, none, none_out) ↦
      (all_abandoned c.args.self.now c.loop-abandons.self c.loop-abandons.abandons c.loop-abandons.invariant none).1
]
