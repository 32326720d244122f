use Rattle.std.proofs.Common.{arith, inl, inr}
use Rattle.std.proofs.lemmas.Bool.{cases_lt}
use Rattle.tile_work.specs.TileSet.{Has}
use Rattle.tile_work.proofs.RenewingResets.{IsMarkedBefore}
use Rattle.tile_work.proofs.RenewingRuns.{copied_alike, run_copied}
use Rattle.tile_work.proofs.renewing.reset.copy_marked.Goals as goal

pub loop-tile-preserved : goal.loop-tile-preserved
loop-tile-preserved c =
    run_copied c.args.tiling.now c.args.marks.now c.loop-tile.from c.in-Some.tile c.run_from-end.result.0
    c.run_from-end.result.1 c.args.marker.now c.args.image.now c.loop-tile.image c.copy_rect.new.image
    (omega (arith, c.requires.size.width, c.requires.marker.width))
    (omega (arith, c.requires.size.height, c.requires.marker.height)) c.in-Some.ensures c.run_from-end.ensures
    c.loop-tile.invariant c.copy_rect.ensures

pub returns : goal.returns
returns c =
    copied_alike c.args.tiling.now (IsMarkedBefore c.args.marks.now c.loop-tile.from) (Has c.args.marks.now)
    c.args.marker.now c.args.image.now c.loop-tile.image (λ t. (
      λ marked. marked.0,
      λ has. elim (cases_lt t c.loop-tile.from) [
        | inl before ↦ (has, before)
        | inr later ↦ absurd (c.in_default.ensures t later has)
      ],
    )) c.loop-tile.invariant
