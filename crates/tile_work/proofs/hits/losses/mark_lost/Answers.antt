-- What the tactics leave open of `mark_lost`.
use Rattle.std.proofs.Common.{◌≡◌, false, true, sym, arith}
use Rattle.tile_work.proofs.HittingSpans.{stroke_is_lost}
use Rattle.std.proofs.lemmas.Grind.{common_steps}
use Rattle.tile_work.proofs.hits.losses.mark_lost.Goals as goal

pub returns-in-Some : goal.returns-in-Some
returns-in-Some c =
    stroke_is_lost c.args.tiling.now c.args.state.now c.args.tag c.in-Some.stroke.now (sym c.in-Some.ensures)
    (λ buried. let gone : false ≡ true = c.if-has_tombstone.ensures.1 buried in cc) c.mark_stroke.ensures

pub returns-then-has_tombstone : goal.returns-then-has_tombstone
returns-then-has_tombstone c = grind (arith, common_steps)

pub returns-in_default : goal.returns-in_default
returns-in_default c = grind (arith, common_steps)
