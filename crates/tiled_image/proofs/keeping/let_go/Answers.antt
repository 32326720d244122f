-- What the tactics leave open of `let_go`.
use Rattle.std.proofs.Common.{List, Option, None, ap, ◌∙◌, slice_index_or}
use Rattle.std.proofs.lemmas.List.{get_or-set_same}
use Rattle.grid_core.specs.Raster.{Raster}
use Rattle.tiled_image.proofs.{KeptImages.bit_within, KeptImages.slot_within, WrittenTiles.written_and_gone}
use Rattle.tiled_image.proofs.keeping.let_go.Goals as goal

pub remove-requires : goal.remove-requires
remove-requires c = bit_within c.requires.kept c.args.tile c.requires.tile

pub remove-requires-2 : goal.remove-requires-2
remove-requires-2 c = slot_within c.requires.kept c.args.tile c.requires.tile

pub returns-clause-kept : goal.returns-clause-kept
returns-clause-kept c =
    written_and_gone c.requires.kept c.args.tile c.requires.tile c.write_tile.new.rows c.write_tile.ensures
    c.remove.new.self c.remove.ensures c.remove-2.new.self c.remove-2.ensures

pub returns-clause-none : goal.returns-clause-none
returns-clause-none c =
    ap (λ (parts : List (Option Raster)). slice_index_or parts c.args.tile None) c.remove-2.ensures
    ∙ get_or-set_same c.args.parts.now c.args.tile None None
    (slot_within c.requires.kept c.args.tile c.requires.tile)
