-- What the tactics leave open of `paint_and_grow`.
use Rattle.std.proofs.Common.{◌≡◌, ◌∙◌, ap, refl, subst, sym}
use Rattle.grid_core.specs.{Raster.Raster, Tiles.IsTiled, Tiles.count_of}
use Rattle.marker_tiles.specs.Kept.{IsMarkerOf}
use Rattle.reset_core.specs.{Replica.with_image, Starting.IsBeginningOf}
use Rattle.reset_core.proofs.replica.starting.paint_and_grow.Goals as goal

pub returns-clause-beginning : goal.returns-clause-beginning
returns-clause-beginning g c =
    let tiles = c.tiling.ensures.value in
    let copy = c.in_ok-state.ensures.copy in
    let count = c.count-count.ensures.value ∙ ap count_of tiles in
    let same : with_image c.in_ok-state.state c.in_ok-image.image c.count-count.result c.args.first
    ≡ with_image c.args.state.now c.in_ok-image.image (count_of c.paint.new.markers.tiling) c.args.first =
    λ i. with_image (copy i) c.in_ok-image.image (count i) c.args.first in
    subst (IsBeginningOf c.args.conn c.args.first c.args.state.now c.paint.new.markers)
    (sym (c.in_ok-with.ensures ∙ same))
    (record {
      filled = c.in_ok-image.ensures.filled;
      tiled = subst IsTiled tiles c.count-count.ensures.tiled;
      width = c.tiling.ensures.width;
      height = c.tiling.ensures.height;
      marks =
          subst (λ (m : Raster). IsMarkerOf m c.args.state.now c.paint.new.markers.marker) (sym c.paint.ensures.mask)
          c.in_ok-state.ensures.marks;
      grown = c.in_ok-image.ensures.grown;
      rest = refl;
    })
