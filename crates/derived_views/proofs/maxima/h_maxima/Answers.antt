use Rattle.std.proofs.Common.{sym, subst, rules}
use Rattle.grid_core.specs.{Path.domain_of, Raster.value_at}
use Rattle.pgm_codec.specs.Graymap.{Graymap}
use Rattle.derived_views.specs.HMaxima.{IsHMaxima}
use Rattle.derived_views.proofs.Growing.{h_maxima_from}
use Rattle.derived_views.proofs.maxima.h_maxima.Goals as goal

pub returns : goal.returns
returns g c =
    let image = c.args.image.now.raster in
    let d = domain_of image c.args.conn in
    let shown =
    subst (λ (g : Graymap). IsHMaxima d c.args.h (value_at image) (value_at g.raster)) (sym c.over.ensures)
    (h_maxima_from c.args.conn c.args.h image c.grid.result.now c.grid-2.result.now c.in_ok-grown.grown
    c.grow.new.image c.grid.ensures.value c.grid-2.ensures.value c.in_ok-grown.ensures
    c.in_ok-grow.ensures.grown.reconstruction) in
    record {
      graymap = search rules;
      width = search rules;
      height = search rules;
      maxval = search rules;
      values = shown;
    }
