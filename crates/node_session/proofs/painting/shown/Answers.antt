use Rattle.std.proofs.Common.{refl, sym, subst}
use Rattle.grid_core.specs.Raster.{Raster}
use Rattle.pgm_codec.specs.Graymap.{Graymap, IsGraymap}
use Rattle.derived_views.specs.Shown.{IsShown}
use Rattle.node_session.proofs.painting.shown.Goals as goal

-- the image is nowhere above the mask
pub over-requires : goal.over-requires
over-requires c =
    let is = c.image-image.ensures in
    subst (λ (r : Raster). IsGraymap (record { raster = r; maxval = c.args.maxval }))
    (sym c.into_parts-mask.ensures.image)
    (c.below_keeps_maxval.ensures (record { raster = c.args.core.mask; maxval = c.args.maxval }) c.args.core.image
    c.requires.graymap is.sized.filled is.below)

pub returns-clause-shown : goal.returns-clause-shown
returns-clause-shown c =
    let is = c.image-image.ensures in
    let core = c.args.core in
    let mask : Graymap = record { raster = core.mask; maxval = c.args.maxval } in
    let marks = c.marker-marker.ensures.marks core.conn in
    subst (λ (g : Graymap). IsShown core.conn mask core.state g) (sym c.over.ensures)
    (subst (λ (r : Raster). IsShown core.conn mask core.state (record { raster = r; maxval = c.args.maxval }))
    (sym c.into_parts-mask.ensures.image) (record {
      width = is.below.width;
      height = is.below.height;
      filled = is.sized.filled;
      maxval = refl;
      marker = _;
      is_marker = marks;
      is_reconstruction = is.quiet c.requires.quiet _ marks;
    }))
