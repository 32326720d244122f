-- What the tactics leave open of `full_rows`.
use Rattle.std.proofs.Common.{◌+◌, ◌*◌, ◌≤◌, ℕ, List, ap, length, slice_range, subst, sym}
use Rattle.reset_core.specs.Parts.{AreCellsIn}
use Rattle.reset_core.proofs.AtOnce.{cells_of_full_rows, full_rows_end}
use Rattle.reset_core.proofs.parts.full_rows.Goals as goal

pub slice_bounds-result-end : goal.slice_bounds-result-end
slice_bounds-result-end c =
    let rect = c.args.rect in
    let whole = c.args.whole.now in
    let width = c.width-width.result in
    let within : rect.y * width + rect.h * width ≤ length whole.cells =
    subst (λ w. rect.y * w + rect.h * w ≤ length whole.cells) (sym c.width-width.ensures.value)
    (full_rows_end rect whole c.cells.ensures.sized.filled c.requires.fits c.requires.wide) in
    subst (λ (cells : List ℕ). rect.y * width + rect.h * width ≤ length cells) (sym c.cells.ensures.values) within

pub returns : goal.returns
returns c =
    let rect = c.args.rect in
    let width = c.width-width.result in
    let start = rect.y * width in
    subst (λ (cells : List ℕ). AreCellsIn rect c.args.whole.now (slice_range cells start (start + rect.h * width)))
    (sym c.cells.ensures.values)
    (cells_of_full_rows rect c.args.whole.now c.cells.ensures.sized.filled c.requires.fits c.requires.wide start
    (rect.h * width) (ap (λ w. rect.y * w) c.width-width.ensures.value)
    (ap (λ w. rect.h * w) c.width-width.ensures.value))
