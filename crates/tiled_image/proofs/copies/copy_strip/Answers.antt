-- What the tactics leave open of `copy_strip`.
use Rattle.std.proofs.Common.{◌≡◌, ℕ, ◌*◌, length, slice_index, ap, sym, subst, ◌∙◌, refl, le_of_eq}
use Rattle.grid_core.specs.{declared.pixel.Pixel.Pixel, Raster.index_of}
use Rattle.tiled_image.specs.Shown.{IsStripCopied, place_in}
use Rattle.tiled_image.proofs.copies.copy_strip.Goals as goal

pub copy_cells-requires-clause-strip : goal.copy_cells-requires-clause-strip
copy_cells-requires-clause-strip c =
    let can = c.requires in
    record {
      width = refl;
      height = refl;
      some_width = can.some_width;
      some_height = can.some_height;
      lies_from = can.lies_from;
      lies_to = can.lies_to;
      room = can.room;
      small = can.small;
    }

pub copy_cells-requires-clause-room : goal.copy_cells-requires-clause-room
copy_cells-requires-clause-room c =
    let sides : c.args.source.now.width * c.args.source.now.height ≡ c.args.from.w * c.args.from.h =
    λ i. c.requires.width i * c.requires.height i in
    le_of_eq (sym (ap length c.cells.ensures.values ∙ c.cells.ensures.sized.filled ∙ sides))

pub returns : goal.returns
returns c =
    let a = c.args in
    subst (λ (value : Pixel → ℕ). IsStripCopied a.strip value a.to a.cells.now c.copy_cells.new.cells)
    (λ i p. slice_index (c.cells.ensures.values i) (index_of (sym c.requires.width i) (place_in a.from p)))
    c.copy_cells.ensures
