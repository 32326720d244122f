use Rattle.std.proofs.Common.{sym, ◌∙◌, subst}
use Rattle.grid_core.specs.Raster.{Raster, IsBelow}
use Rattle.stroke_lattice.specs.State.{StateFits}
use Rattle.marker_tiles.specs.UnderTags.{IsBlankOn}
use Rattle.derived_views.proofs.Grown.{grown_is_shown}
use Rattle.derived_views.proofs.shown.reconstruction_in.Goals as goal

pub marker_over-image-requires-clause-fits : goal.marker_over-image-requires-clause-fits
marker_over-image-requires-clause-fits g c =
    subst (λ (r : Raster). StateFits r.width r.height c.args.state.now) (sym c.grid-2.ensures.value) c.requires

pub marker_over-image-requires-clause-blank : goal.marker_over-image-requires-clause-blank
marker_over-image-requires-clause-blank g c =
    subst (λ (r : Raster). IsBlankOn r c.in_ok-blank.blank) (c.grid.ensures.value ∙ sym c.grid-2.ensures.value)
    c.in_ok-blank.ensures

pub grow-requires : goal.grow-requires
grow-requires g c =
    subst (IsBelow c.marker_over-image.result) (c.grid-2.ensures.value ∙ sym c.grid-3.ensures.value)
    c.marker_over-image.ensures.below

pub returns : goal.returns
returns g c =
    grown_is_shown c.args.conn c.args.mask.now c.over.result c.args.state.now c.grid-2.result.now c.grid-3.result.now
    c.marker_over-image.result
    c.grow.new.image c.maxval.result c.grid-2.ensures.value c.grid-3.ensures.value
    (c.marker_over-image.ensures.marks c.args.conn)
    c.in_ok-grow.ensures.grown.below c.in_ok-grow.ensures.grown.filled
    c.in_ok-grow.ensures.grown.reconstruction
    c.maxval.ensures.value
    c.over.ensures
