use Rattle.std.proofs.Common.{◌<◌, ◌∙◌, arith, length, refl, subst, sym}
use Rattle.tile_work.specs.Renewing.{IsRun}
use Rattle.tile_work.proofs.RenewingRuns.{run_of_one, run_more}
use Rattle.tile_work.proofs.renewing.reset.run_from.Goals as goal

pub loop-tile-init : goal.loop-tile-init
loop-tile-init c = (
  refl,
  run_of_one c.args.tiling.now c.args.set.now c.args.first c.rect-rect.result c.each_pixel_in_one_tile.ensures
      c.requires.tiled (omega (arith, c.requires.first.0, c.requires.count)) c.requires.first
      c.rect-rect.ensures.value c.rect-rect.ensures.fits,
)

pub loop-tile-preserved : goal.loop-tile-preserved
loop-tile-preserved c =
    let run = subst (IsRun c.args.tiling.now c.args.set.now c.args.first c.loop-tile.rect) c.loop-tile.invariant.0
    c.loop-tile.invariant.1 in
    let there : c.loop-tile.tile < length c.args.set.now =
    omega (arith, c.loop-tile-test.true, c.len-tile-end.ensures) in (
      refl,
      run_more c.args.tiling.now c.args.set.now c.args.first c.loop-tile.tile c.loop-tile.rect c.rect-next.result
          c.each_pixel_in_one_tile.ensures c.requires.tiled run (omega (arith, there, c.requires.count))
          (there, sym c.contains.ensures ∙ c.if-not-contains.false) c.rect-next.ensures.value
          c.rect-next.ensures.fits c.if-next-rect.false c.if-next-rect-2.false c.if-next-rect-3.false,
    )

pub returns-after-loop-tile : goal.returns-after-loop-tile
returns-after-loop-tile c = c.loop-tile.invariant.1
