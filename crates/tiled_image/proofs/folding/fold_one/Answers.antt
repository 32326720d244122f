-- What the tactics leave open of `fold_one`.
use Rattle.std.proofs.Common.{◌<◌, Bool, List, false, slice_index_or, sym, subst, refl, ◌∙◌}
use Rattle.std.proofs.lemmas.Bool.{both_ways}
use Rattle.tile_work.specs.TileSet.{Has}
use Rattle.tile_work.proofs.TileSets.{taken_has}
use Rattle.tiled_image.specs.TiledImage.{image_of}
use Rattle.tiled_image.proofs.{FoldedTiles.one_folded, LaidRims.laid_in}
use Rattle.tiled_image.proofs.folding.fold_one.Goals as goal

pub contains-requires : goal.contains-requires
contains-requires c = subst (λ n. c.args.tile < n) (sym c.requires.count) c.requires.tile

pub returns-then-not-contains-clause-settled : goal.returns-then-not-contains-clause-settled
returns-then-not-contains-clause-settled c has =
    both_ways (slice_index_or c.args.raised.now c.args.tile false) (sym c.contains.ensures ∙ c.if-not-contains.true)
    has.1

pub fold_tile-requires-clause-laid : goal.fold_tile-requires-clause-laid
fold_tile-requires-clause-laid c = laid_in c.requires.shown c.args.tile

pub remove-requires : goal.remove-requires
remove-requires c = subst (λ n. c.args.tile < n) (sym c.requires.count) c.requires.tile

pub returns-clause-shown : goal.returns-clause-shown
returns-clause-shown c =
    let a = c.args in
    let new = c.fold_tile.new in
    one_folded a.raised.now c.requires.shown a.tile (subst (λ n. a.tile < n) (sym c.requires.count) c.requires.tile)
    (image_of a.tiling.now new.rows new.parts new.newer) c.fold_tile.ensures.folded c.remove.new.self c.remove.ensures

pub returns-clause-settled : goal.returns-clause-settled
returns-clause-settled c has =
    let a = c.args in
    let within = subst (λ n. a.tile < n) (sym c.requires.count) c.requires.tile in
    ((taken_has a.raised.now a.tile within a.tile).0
    (subst (λ (bits : List Bool). Has bits a.tile) c.remove.ensures has)).1 refl
