-- What the tactics leave open of `judge`.
use Rattle.std.proofs.Common.{◌≡◌, true, false, refl, sym, ◌∙◌, subst, arith}
use Rattle.core_rules.specs.{Work.Core, Merge.IsRefused, Merge.IsAcceptable}
use Rattle.reset_core.specs.{declared.replica.Core.TheInside.Inside as Parts, Replica.core_of, MergeSteps.IsMarked}
use Rattle.reset_core.proofs.MergeSteps.{hits_are_marked, spent_is_refused, unspent_is_acceptable}
use Rattle.reset_core.proofs.{Sweeping.tiling_is, replica.Core.judge.Goals.After-mark_hits}
use Rattle.core_rules.specs.declared.error.CoreError.TheVariants as errors
use Rattle.std.proofs.lemmas.Grind.{common_steps}
use Rattle.reset_core.proofs.replica.Core.judge.Goals as goal

-- the parts that the core was stored as
abbrev parts_before : After-mark_hits → Parts
parts_before c = c.self.inside

is_marked : (c : After-mark_hits) → IsMarked (core_of (parts_before c)) c.args.delta.now c.mark_hits.new.marks
is_marked c =
    let known = c.tiling-tiling.ensures in
    let tiles_are =
    tiling_is (parts_before c) (core_of (parts_before c)) c.tiling-tiling.result refl known.value known.width
    known.height in
    hits_are_marked (parts_before c) c.args.self.now c.tiling-tiling.result c.args.delta.now c.mark_hits.new.marks
    c.self.view_is tiles_are c.in_ok-check.ensures.fits c.in_ok-check.ensures.compatible c.mark_hits.ensures.count
    c.mark_hits.ensures.marks

pub returns-then-is_spent-clause-refused : goal.returns-then-is_spent-clause-refused
returns-then-is_spent-clause-refused c =
    let at = (goal.at.returns-then-is_spent-clause-refused c).After-mark_hits in
    subst (λ (core : Core). IsRefused core c.args.delta.now errors.GenerationsSpent) c.self.view_is
    (spent_is_refused (core_of (parts_before at)) c.args.delta.now c.mark_hits.new.marks c.self.invariant.sound
    (is_marked at) (c.is_one_spent-is_spent.ensures.0 c.if-is_spent.true))

pub returns-clause-acceptable : goal.returns-clause-acceptable
returns-clause-acceptable c =
    let at = (goal.at.returns-clause-acceptable c).After-mark_hits in
    subst (λ (core : Core). IsAcceptable core c.args.delta.now) c.self.view_is
    (unspent_is_acceptable (core_of (parts_before at)) c.args.delta.now c.mark_hits.new.marks c.self.invariant.sound
    (is_marked at)
    (λ spent. let no : true ≡ false = sym (c.is_one_spent-is_spent.ensures.1 spent) ∙ c.if-is_spent.false in cc))

pub mark_hits-requires-clause-on_tiling : goal.mark_hits-requires-clause-on_tiling
mark_hits-requires-clause-on_tiling c = grind (arith, common_steps)

pub invariant_of-self-2 : goal.invariant_of-self-2
invariant_of-self-2 c = grind (arith, common_steps)
