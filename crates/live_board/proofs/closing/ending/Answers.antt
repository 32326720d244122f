use Rattle.std.proofs.Common.{IsTrue, ap, subst, sym, ◌↔◌, ◌∙◌}
use Rattle.grid_core.specs.{Path.domain_of, Raster.Raster, Raster.value_at, Reconstruction.IsClosed}
use Rattle.pgm_codec.specs.Graymap.{Graymap}
use Rattle.live_board.proofs.closing.ending.Goals as goal

pub is_closed-is_done-requires-clause-width : goal.is_closed-is_done-requires-clause-width
is_closed-is_done-requires-clause-width c =
    ap (λ (r : Raster). r.width) c.grid.ensures.value ∙ sym c.requires.1.width

pub is_closed-is_done-requires-clause-height : goal.is_closed-is_done-requires-clause-height
is_closed-is_done-requires-clause-height c =
    ap (λ (r : Raster). r.height) c.grid.ensures.value ∙ sym c.requires.1.height

pub over-requires : goal.over-requires
over-requires c =
    let mask = c.args.base.now.mask in
    rw c.maxval.ensures.value
    (c.below_keeps_maxval.ensures mask c.args.image c.grid.ensures.is_graymap c.requires.0 c.requires.1)

pub returns : goal.returns
returns c =
    let done = c.is_closed-is_done.result in
    let image = c.args.image in
    record {
      raster = ap (λ (g : Graymap). g.raster) c.over.ensures;
      maxval = ap (λ (g : Graymap). g.maxval) c.over.ensures ∙ c.maxval.ensures.value;
      closed_is = subst (λ (mask : Raster). IsTrue done
          ↔ IsClosed (domain_of mask c.args.base.now.conn) (value_at mask) (value_at image)) c.grid.ensures.value
          c.is_closed-is_done.ensures;
    }
