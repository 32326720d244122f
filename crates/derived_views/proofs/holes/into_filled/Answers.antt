use Rattle.std.proofs.Common.{◌≡◌, ◌≤◌, ◌∙◌, ap, sym, subst, arith, rules, slice_index, EachIndex}
use Rattle.grid_core.specs.{Path.domain_of, Raster.IsFilled, Raster.value_at}
use Rattle.pgm_codec.specs.Graymap.{Graymap}
use Rattle.derived_views.specs.{Holes.IsFill, Rasters.complement_of}
use Rattle.derived_views.proofs.{Borders.border_below, Growing.fill_from, Growing.graymap_from, Rasters.complement_is}
use Rattle.derived_views.proofs.holes.into_filled.Goals as goal

pub grow-requires : goal.grow-requires
grow-requires g c = border_below c.complemented-mask.result c.in_ok-grown.grown c.in_ok-grown.ensures.part

pub over-requires : goal.over-requires
over-requires g c =
    let image = c.args.image in
    let is = c.maxval-top.ensures.is_graymap in
    let top : c.maxval-top.result ≡ image.maxval = c.maxval-top.ensures.value in
    let mask : c.complemented-mask.result ≡ complement_of c.maxval-top.result image.raster =
    complement_is c.maxval-top.result c.into_grid.result c.complemented-mask.result
    (subst (λ r. IsFilled r) (sym c.into_grid.ensures) is.sized.filled) c.complemented-mask.ensures
    ∙ ap (λ r. complement_of c.maxval-top.result r) c.into_grid.ensures in
    let turned = c.complemented-filled.ensures in
    let grown = c.in_ok-grow.ensures.grown in
    graymap_from image c.complemented-filled.result c.maxval-top.result is
    (omega (arith, top, is.some_maxval))
    (omega (arith, top, is.maxval_within))
    (turned.width ∙ grown.width ∙ ap (λ r. r.width) mask)
    (turned.height ∙ grown.height ∙ ap (λ r. r.height) mask)
    turned.filled
    (λ k within. omega (arith, turned.values k within))

pub returns : goal.returns
returns g c =
    let image = c.args.image in
    let is = c.maxval-top.ensures.is_graymap in
    let d = domain_of image.raster c.args.conn in
    let top : c.maxval-top.result ≡ image.maxval = c.maxval-top.ensures.value in
    let mask : c.complemented-mask.result ≡ complement_of c.maxval-top.result image.raster =
    complement_is c.maxval-top.result c.into_grid.result c.complemented-mask.result
    (subst (λ r. IsFilled r) (sym c.into_grid.ensures) is.sized.filled) c.complemented-mask.ensures
    ∙ ap (λ r. complement_of c.maxval-top.result r) c.into_grid.ensures in
    let bound : EachIndex image.raster.cells (λ k. slice_index image.raster.cells k ≤ c.maxval-top.result) =
    λ k within. omega (arith, is.samples_within k within, top)
    in
    let turned = c.complemented-filled.ensures in
    let grown = c.in_ok-grow.ensures.grown in
    let part = c.in_ok-grown.ensures.part in
    let shown =
    subst (λ (g : Graymap). IsFill d (value_at image.raster) (value_at g.raster)) (sym c.over.ensures)
    (fill_from c.args.conn c.maxval-top.result image.raster c.complemented-mask.result c.in_ok-grown.grown
    c.grow.new.image c.complemented-filled.result mask is.sized.filled turned.filled bound
    part c.in_ok-grown.ensures.border (grown.width ∙ sym part.width) turned.width (grown.height ∙ sym part.height)
    turned.height turned.values grown.reconstruction) in
    record {
      graymap = search rules;
      width = search rules;
      height = search rules;
      maxval = search rules;
      values = shown;
    }
