-- What the tactics leave open of `take_strip`.
use Rattle.std.proofs.Common.{◌≡◌, ℕ, ◌*◌, length, slice_index, ap, sym, subst, ◌∙◌, le_of_eq}
use Rattle.std.specs.Prelude.{⊤}
use Rattle.grid_core.specs.{declared.pixel.Pixel.Pixel, Raster.index_of}
use Rattle.tiled_image.specs.{Rims.IsStripChanged, Shown.place_in}
use Rattle.tiled_image.proofs.StripCopies.{strip_lies_in}
use Rattle.tiled_image.proofs.rims.take_strip.Goals as goal

pub take_cells-requires-clause-lies : goal.take_cells-requires-clause-lies
take_cells-requires-clause-lies c =
    strip_lies_in c.args.tiling.now c.args.tile c.side.ensures.tiled c.requires.tile c.args.edge c.args.shown
    c.requires.lies

pub take_cells-requires-clause-room : goal.take_cells-requires-clause-room
take_cells-requires-clause-room c =
    let sides : c.args.source.now.width * c.args.source.now.height ≡ c.args.shown.w * c.args.shown.h =
    λ i. c.requires.width i * c.requires.height i in
    le_of_eq (sym (ap length c.cells.ensures.values ∙ c.cells.ensures.sized.filled ∙ sides))

pub returns : goal.returns
returns c =
    let a = c.args in
    subst (λ (value : Pixel → ℕ). IsStripChanged a.tiling.now a.tile a.edge (λ _. ⊤) value a.values.now
    c.take_cells.new.values)
    (λ i p. slice_index (c.cells.ensures.values i) (index_of (sym c.requires.width i) (place_in a.shown p)))
    c.take_cells.ensures
