-- What the tactics leave open of `write_all`.
use Rattle.std.proofs.Common.{◌∙◌, subst}
use Rattle.grid_core.specs.Raster.{Raster}
use Rattle.tiled_image.specs.TiledImage.{IsKeptAs}
use Rattle.tiled_image.proofs.KeptImages.{image_is, is_kept}
use Rattle.tiled_image.proofs.folding.write_all.Goals as goal

pub fold_all-requires-clause-kept : goal.fold_all-requires-clause-kept
fold_all-requires-clause-kept c = c.requires.kept

pub fold_all-requires-clause-count : goal.fold_all-requires-clause-count
fold_all-requires-clause-count c = c.requires.count

pub fold_all-requires-clause-shown : goal.fold_all-requires-clause-shown
fold_all-requires-clause-shown c = c.requires.shown

pub write_newer-requires : goal.write_newer-requires
write_newer-requires c = is_kept c.fold_all.ensures.kept

pub returns-clause-kept : goal.returns-clause-kept
returns-clause-kept c =
    subst (λ (r : Raster). IsKeptAs r c.args.tiling.now c.write_newer.new.rows c.fold_all.new.parts
    c.write_newer.new.newer) (image_is c.fold_all.ensures.kept) c.write_newer.ensures.kept

pub returns-clause-rows : goal.returns-clause-rows
returns-clause-rows c = c.write_newer.ensures.rows ∙ image_is c.fold_all.ensures.kept

pub returns-clause-none : goal.returns-clause-none
returns-clause-none c = c.write_newer.ensures.none

pub returns-clause-raised : goal.returns-clause-raised
returns-clause-raised c = c.fold_all.ensures.raised
