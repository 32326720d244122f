-- What the tactics leave open of `take_side`.
use Rattle.std.proofs.Common.{◌≡◌, ℕ, ap, sym, subst, ◌∙◌}
use Rattle.std.specs.Prelude.{⊤}
use Rattle.grid_core.specs.{declared.pixel.Pixel.Pixel, declared.rect.Rect.Rect, Bounds.LieIn, Bounds.bounds_of}
use Rattle.tiled_image.specs.{Rims.IsStripChanged, Rims.strip_at, Rims.strip_of, Shown.cell_in, Sides.side_of}
use Rattle.tiled_image.proofs.{Places.lies_in_itself, Sides.side_room, StripCopies.strip_with}
use Rattle.tiled_image.proofs.rims.take_side.Goals as goal

pub take_cells-requires-clause-lies : goal.take_cells-requires-clause-lies
take_cells-requires-clause-lies c =
    let a = c.args in
    let own = strip_of a.tiling.now a.tile a.edge in
    let strip_is : c.strip_at-strip.result ≡ own =
    c.strip_at-strip.ensures ∙ ap (strip_at a.edge) c.rect.ensures.value in
    subst (λ (r : Rect). LieIn (bounds_of own) r) (sym strip_is) (lies_in_itself own)

pub take_cells-requires-clause-room : goal.take_cells-requires-clause-room
take_cells-requires-clause-room c =
    let a = c.args in
    let own = strip_of a.tiling.now a.tile a.edge in
    let strip_is : c.strip_at-strip.result ≡ own =
    c.strip_at-strip.ensures ∙ ap (strip_at a.edge) c.rect.ensures.value in
    side_room c.strip_at-strip.result own c.side_of.result.now (side_of a.edge a.rim.now) strip_is c.side_of.ensures
    (c.requires.rim a.edge)

pub returns : goal.returns
returns c value has =
    let a = c.args in
    let own = strip_of a.tiling.now a.tile a.edge in
    let side = side_of a.edge a.rim.now in
    let strip_is : c.strip_at-strip.result ≡ own =
    c.strip_at-strip.ensures ∙ ap (strip_at a.edge) c.rect.ensures.value in
    let values_are : cell_in c.strip_at-strip.result c.side_of.result.now ≡ cell_in own side =
    λ i. cell_in (strip_is i) (c.side_of.ensures i) in
    strip_with a.tiling.now a.tile c.side.ensures.tiled c.requires.tile a.edge (cell_in own side) value a.values.now
    c.take_cells.new.values
    (subst (λ (f : Pixel → ℕ). IsStripChanged a.tiling.now a.tile a.edge (λ _. ⊤) f a.values.now
    c.take_cells.new.values) values_are c.take_cells.ensures) (has a.edge)
