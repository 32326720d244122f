-- What the tactics leave open of `widened_by_pixel`.
use Rattle.std.proofs.Common.{arith, subst, sym}
use Rattle.reset_core.specs.Parts.{AreWidenedAbove}
use Rattle.reset_core.proofs.LeftOpen.{pixel_more}
use Rattle.tiled_image.proofs.rims.raising.widened_by_pixel.Goals as goal

pub returns-then-value-limit : goal.returns-then-value-limit
returns-then-value-limit c = record {
  kept = λ q there. there;
  lie = λ rect lies inside. lies;
  above = λ high. absurd (omega (arith, c.if-value-limit.true, high));
}

pub returns : goal.returns
returns c =
    subst (AreWidenedAbove c.args.bounds c.args.p c.args.value c.args.limit) (sym c.including.ensures)
    (pixel_more c.args.bounds c.args.p c.args.value c.args.limit)
