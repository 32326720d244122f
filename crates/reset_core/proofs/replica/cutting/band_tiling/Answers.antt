use Rattle.std.proofs.Common.{◌-◌, ◌*◌, min, sym, subst, ◌∙◌}
use Rattle.reset_core.specs.BandParts.{IsTilingOf}
use Rattle.reset_core.proofs.Bands.Cuts.{is_tiling}
use Rattle.reset_core.proofs.replica.cutting.band_tiling.Goals as goal

pub returns : goal.returns
returns c =
    let end =
    c.min.ensures ∙ (λ i. min (c.args.below * c.side-2.ensures.value i) (c.height.ensures.value i)) in
    let same = c.in-Ok.ensures.tiles ∙ (λ i. record {
      width = c.width.ensures.value i;
      height = end i - c.args.above * c.side.ensures.value i;
      side = c.side-3.ensures.value i;
    }) in
    subst (IsTilingOf c.args.tiling.now c.args.above c.args.below) (sym same)
    (is_tiling c.args.tiling.now c.args.above c.args.below c.side.ensures.tiled c.requires.some c.requires.within)
