-- What the tactics leave open of `fill_side`.
use Rattle.std.proofs.Common.{◌≡◌, ap, length, sym, subst, ◌∙◌}
use Rattle.grid_core.specs.declared.rect.Rect.{Rect}
use Rattle.border_queues.specs.Around.{around_of}
use Rattle.tiled_image.specs.{Rims.strip_at, Rims.strip_of, Shown.CanCopy, Shown.as_image, Sides.side_of}
use Rattle.tiled_image.proofs.Sides.{can_fill, side_copied, side_room}
use Rattle.tiled_image.proofs.rims.border.fill_side.Goals as goal

pub copy_cells-requires-clause-strip : goal.copy_cells-requires-clause-strip
copy_cells-requires-clause-strip c =
    let a = c.args in
    let own = strip_of a.tiling.now a.tile a.edge in
    let side = c.side_of.result.now in
    let count = length a.cells.now in
    let strip_is : c.strip_at-strip.result ≡ own =
    c.strip_at-strip.ensures ∙ ap (strip_at a.edge) c.rect.ensures.value in
    subst (λ (r : Rect). CanCopy r (as_image r side) r c.around_of-around.result count) (sym strip_is)
    (subst (λ (r : Rect). CanCopy own (as_image own side) own r count) (sym c.around_of-around.ensures.value)
    (can_fill a.tiling.now a.tile c.side.ensures.tiled c.requires.tile a.edge side count c.requires.room))

pub copy_cells-requires-clause-room : goal.copy_cells-requires-clause-room
copy_cells-requires-clause-room c =
    let a = c.args in
    let strip_is : c.strip_at-strip.result ≡ strip_of a.tiling.now a.tile a.edge =
    c.strip_at-strip.ensures ∙ ap (strip_at a.edge) c.rect.ensures.value in
    side_room c.strip_at-strip.result (strip_of a.tiling.now a.tile a.edge) c.side_of.result.now
    (side_of a.edge a.rim.now) strip_is c.side_of.ensures (c.requires.rim a.edge)

pub returns : goal.returns
returns c value has =
    let a = c.args in
    let strip_is : c.strip_at-strip.result ≡ strip_of a.tiling.now a.tile a.edge =
    c.strip_at-strip.ensures ∙ ap (strip_at a.edge) c.rect.ensures.value in
    side_copied c.strip_at-strip.result (strip_of a.tiling.now a.tile a.edge) c.around_of-around.result
    (around_of a.tiling.now a.tile) c.side_of.result.now (side_of a.edge a.rim.now) value a.cells.now
    c.copy_cells.new.cells strip_is c.around_of-around.ensures.value c.side_of.ensures (has a.edge) c.copy_cells.ensures
