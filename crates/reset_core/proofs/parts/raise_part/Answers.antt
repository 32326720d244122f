-- What the tactics leave open of `raise_part`.
use Rattle.std.proofs.Common.{◌≡◌, ◌+◌, ◌*◌, subst, sym, ap, ◌∙◌}
use Rattle.grid_core.specs.{Raster.value_at, Rects.IsRowOf}
use Rattle.reset_core.proofs.SweepingRows.{row_below, joined_more}
use Rattle.reset_core.proofs.parts.raise_part.Goals as goal

pub raise_cells-requires-clause-above : goal.raise_cells-requires-clause-above
raise_cells-requires-clause-above c is_above =
    let rect = c.args.rect in
    let y = c.loop-y.y in
    let piece = c.args.piece.now in
    let width = c.width-width.result in
    let start = (rect.y + y) * width + rect.x in
    let row : IsRowOf rect.w (value_at piece) y c.row.result.now =
    subst (λ w. IsRowOf w (value_at piece) y c.row.result.now) c.requires.piece.width c.row.ensures in
    let same : width ≡ c.loop-y.whole.width = c.width-width.ensures.value ∙ sym c.loop-y.invariant.size.width in
    row_below rect piece c.args.whole.now c.loop-y.whole y start c.row.result.now c.requires.piece.fits
    c.loop-y-test.true row (ap (λ w. (rect.y + y) * w + rect.x) same) c.loop-y.invariant (c.requires.above is_above)

pub loop-y-preserved : goal.loop-y-preserved
loop-y-preserved c =
    let rect = c.args.rect in
    let y = c.loop-y.y in
    let piece = c.args.piece.now in
    let width = c.width-width.result in
    let start = (rect.y + y) * width + rect.x in
    let row : IsRowOf rect.w (value_at piece) y c.row.result.now =
    subst (λ w. IsRowOf w (value_at piece) y c.row.result.now) c.requires.piece.width c.row.ensures in
    let same : width ≡ c.loop-y.whole.width = c.width-width.ensures.value ∙ sym c.loop-y.invariant.size.width in
    joined_more rect piece c.args.whole.now c.loop-y.whole c.raise_cells.new.image y start c.row.result.now
    c.requires.piece.fits c.loop-y-test.true row (ap (λ w. (rect.y + y) * w + rect.x) same) c.raise_cells.ensures
    c.loop-y.invariant
