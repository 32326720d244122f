use Rattle.std.proofs.Common.{◌∙◌, ap, sym, subst, arith, rules}
use Rattle.grid_core.specs.{Path.domain_of, Raster.value_at}
use Rattle.pgm_codec.specs.Graymap.{Graymap}
use Rattle.derived_views.specs.Plateaus.{IsRegionalMaxima}
use Rattle.derived_views.proofs.Growing.{graymap_from, maxima_from, maxima_within}
use Rattle.derived_views.proofs.plateaus.regional_maxima.Goals as goal

pub over-requires : goal.over-requires
over-requires g c =
    let image = c.args.image.now in
    let is = c.grid.ensures.is_graymap in
    let grown = c.in_ok-grow.ensures.grown in
    let lower = c.where_lower-maxima.ensures in
    let wide = grown.width ∙ ap (λ r. r.width) c.grid-2.ensures.value in
    let high = grown.height ∙ ap (λ r. r.height) c.grid-2.ensures.value in
    let are =
    maxima_from c.args.conn c.is_black-all.result image.raster c.grid.result.now c.grid-2.result.now
    c.grid-3.result.now c.samples.result.now c.in_ok-grown.grown c.grow.new.image c.where_lower-maxima.result
    c.grid.ensures.value c.grid-2.ensures.value c.grid-3.ensures.value c.samples.ensures.value c.in_ok-grown.ensures
    is.sized.filled c.is_black-all.ensures.black c.is_black-all.ensures.some wide high lower grown.reconstruction
    in
    let width = lower.width ∙ wide in
    let height = lower.height ∙ high in
    graymap_from image c.where_lower-maxima.result 1 is (omega arith) (omega arith) width height lower.filled
    (maxima_within c.args.conn image.raster c.where_lower-maxima.result lower.filled width height are)

pub returns : goal.returns
returns g c =
    let image = c.args.image.now in
    let d = domain_of image.raster c.args.conn in
    let is = c.grid.ensures.is_graymap in
    let grown = c.in_ok-grow.ensures.grown in
    let lower = c.where_lower-maxima.ensures in
    let wide = grown.width ∙ ap (λ r. r.width) c.grid-2.ensures.value in
    let high = grown.height ∙ ap (λ r. r.height) c.grid-2.ensures.value in
    let shown =
    subst (λ (g : Graymap). IsRegionalMaxima d (value_at image.raster) (value_at g.raster)) (sym c.over.ensures)
    (maxima_from c.args.conn c.is_black-all.result image.raster c.grid.result.now c.grid-2.result.now
    c.grid-3.result.now c.samples.result.now c.in_ok-grown.grown c.grow.new.image c.where_lower-maxima.result
    c.grid.ensures.value c.grid-2.ensures.value c.grid-3.ensures.value c.samples.ensures.value c.in_ok-grown.ensures
    is.sized.filled c.is_black-all.ensures.black c.is_black-all.ensures.some wide high lower grown.reconstruction) in
    record {
      graymap = search rules;
      width = search rules;
      height = search rules;
      maxval = search rules;
      values = shown;
    }
