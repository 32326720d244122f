-- What the tactics leave open of `widened_by_row`.
use Rattle.std.proofs.Common.{◌≡◌, arith, subst}
use Rattle.reset_core.specs.Parts.{AreWidenedByRow}
use Rattle.reset_core.proofs.LeftOpen.{column_more, none_of_row}
use Rattle.reset_core.proofs.parts.widened_by_row.Goals as goal

pub returns-then-is_at_most : goal.returns-then-is_at_most
returns-then-is_at_most c =
    none_of_row c.args.rect c.args.y c.args.values.now c.args.limits.now c.args.rect.w c.args.before (λ x within.
    c.is_at_most.ensures.0 c.if-is_at_most.true x (omega (arith, within, c.requires.values)))

pub loop-x-init : goal.loop-x-init
loop-x-init c =
    none_of_row c.args.rect c.args.y c.args.values.now c.args.limits.now 0 c.args.before (λ x within.
    absurd (omega (arith, within)))

pub loop-x-preserved : goal.loop-x-preserved
loop-x-preserved c =
    column_more c.args.rect c.args.y c.args.values.now c.args.limits.now c.loop-x.x c.args.before c.loop-x.bounds
    c.widened_by_pixel-bounds.result c.loop-x-test.true c.requires.row c.loop-x.invariant
    c.widened_by_pixel-bounds.ensures

pub returns : goal.returns
returns c =
    let end : c.loop-x.x ≡ c.args.rect.w = omega (arith, c.loop-x-test.false, c.loop-x.auto.x-end) in
    subst (λ columns. AreWidenedByRow c.args.rect c.args.y c.args.values.now c.args.limits.now columns c.args.before
    c.loop-x.bounds) end c.loop-x.invariant
