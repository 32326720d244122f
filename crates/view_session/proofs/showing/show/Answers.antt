use Rattle.std.proofs.{Common.map, Common.◌++◌, Common.inr, Common.refl, lemmas.Result.err_from_is_err_and}
use Rattle.stroke_lattice.specs.State.{StateFits}
use Rattle.view_session.specs.Merging.{AreMerged, IsStop}
use Rattle.view_session.proofs.{Deltas.join_fits, Deltas.resized, Refusals.deltas_stop}
use Rattle.view_session.proofs.showing.show.Goals as goal

pub returns-in_err-state-clause-refused : goal.returns-in_err-state-clause-refused
returns-in_err-state-clause-refused g c =
    let p = err_from_is_err_and c.from_residual.result c.from_residual.ensures.1 in
    let deltas = map g.D.HasDelta.delta_of c.args.old.now ++ c.args.deltas.now in
    rw (p.1, p.2) (deltas_stop deltas c.args.mask.now c.in_err-state.field-0.0
    (resized (λ w h. IsStop w h deltas c.in_err-state.field-0.0) c.width.result c.args.mask.now.raster.width
    c.height.result
    c.args.mask.now.raster.height c.width.ensures.value c.height.ensures.value c.in_err-state.ensures.stopped))

pub reconstruction_in-requires : goal.reconstruction_in-requires
reconstruction_in-requires g c =
    resized (λ w h. StateFits w h c.in_ok-state.state) c.width.result c.args.mask.now.raster.width c.height.result
    c.args.mask.now.raster.height c.width.ensures.value c.height.ensures.value
    (join_fits c.width.result c.height.result (map g.D.HasDelta.delta_of c.args.old.now ++ c.args.deltas.now)
    c.in_ok-state.state
    c.in_ok-state.ensures.merged)

pub returns-in_err-image-clause-refused : goal.returns-in_err-image-clause-refused
returns-in_err-image-clause-refused g c =
    let p = err_from_is_err_and c.from_residual-in_err-image.result c.from_residual-in_err-image.ensures.1 in
    let deltas = map g.D.HasDelta.delta_of c.args.old.now ++ c.args.deltas.now in
    rw (p.1, p.2) (inr (inr (
      refl,
      c.in_ok-state.state,
      resized (λ w h. AreMerged w h deltas c.in_ok-state.state) c.width.result c.args.mask.now.raster.width
          c.height.result
          c.args.mask.now.raster.height c.width.ensures.value c.height.ensures.value c.in_ok-state.ensures.merged,
    )))

pub returns-clause-merged : goal.returns-clause-merged
returns-clause-merged g c =
    let deltas = map g.D.HasDelta.delta_of c.args.old.now ++ c.args.deltas.now in
    resized (λ w h. AreMerged w h deltas c.in_ok-state.state) c.width.result c.args.mask.now.raster.width
    c.height.result
    c.args.mask.now.raster.height c.width.ensures.value c.height.ensures.value c.in_ok-state.ensures.merged
