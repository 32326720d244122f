-- What the tactics leave open of `raise_everywhere`.
use Rattle.std.proofs.Common.{◌∙◌, arith}
use Rattle.tile_work.proofs.RenewingBounds.{none_rises, rises_also}
use Rattle.tile_work.proofs.RenewingRises.{raised_also, raised_nothing, raised_alike}
use Rattle.tile_work.proofs.RenewingStrokes.{row_more, row_before, no_row}
use Rattle.tile_work.proofs.renewing.raise.raise_everywhere.Goals as goal

pub loop-y-init : goal.loop-y-init
loop-y-init c = (raised_nothing c.width.ensures.sized.filled (λ p _. no_row p), none_rises)

pub raise_across-requires-clause-bounds : goal.raise_across-requires-clause-bounds
raise_across-requires-clause-bounds c = c.loop-y.invariant.1.widened.count ∙ c.requires.bounds

pub loop-y-preserved : goal.loop-y-preserved
loop-y-preserved c = (
  raised_also c.requires.parts.image_is c.loop-y.invariant.0 c.raise_across.ensures.raised
      (λ p inside. row_more c.loop-y.y c.width-end.result p (omega (arith, inside.0))),
  rises_also c.loop-y.invariant.1 c.raise_across.ensures.bounds,
)

pub returns-clause-raised : goal.returns-clause-raised
returns-clause-raised c =
    raised_alike c.loop-y.invariant.0 (λ p inside. row_before c.loop-y.y p (omega (arith, inside.1)))
