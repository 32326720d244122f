-- What the tactics leave open of `fold_each`.
use Rattle.std.proofs.Common.{◌<◌, subst}
use Rattle.grid_core.specs.Raster.{Raster}
use Rattle.tiled_image.specs.{SharedCopies.IsTileCopied, TiledImage.IsKeptAs, TiledImage.image_of}
use Rattle.tiled_image.proofs.FoldedTiles.{all_folded, none_before, one_more_folded}
use Rattle.tiled_image.proofs.LaidRims.{is_shown, laid_in, shown_is}
use Rattle.tiled_image.proofs.folding.fold_each.Goals as goal

pub loop-tile-init : goal.loop-tile-init
loop-tile-init c = record {
  kept = c.requires.kept;
  shown = none_before c.args.raised.now c.requires.shown;
}

pub fold_tile-requires-clause-tile : goal.fold_tile-requires-clause-tile
fold_tile-requires-clause-tile c =
    subst (λ n. c.in-Some.tile < n) c.requires.count c.in-Some.ensures.has.0

pub fold_tile-requires-clause-laid : goal.fold_tile-requires-clause-laid
fold_tile-requires-clause-laid c = laid_in (is_shown c.loop-tile.invariant.shown) c.in-Some.tile

pub loop-tile-preserved : goal.loop-tile-preserved
loop-tile-preserved c =
    let tiling = c.args.tiling.now in
    let l = c.loop-tile in
    let new = image_of tiling c.fold_tile.new.rows c.fold_tile.new.parts c.fold_tile.new.newer in
    record {
      kept = c.fold_tile.ensures.kept;
      shown =
          one_more_folded c.args.raised.now l.next l.invariant.shown c.in-Some.tile c.in-Some.ensures new
          (subst (λ (r : Raster). IsTileCopied r tiling c.in-Some.tile (image_of tiling l.rows l.parts l.newer) new)
          (shown_is l.invariant.shown) c.fold_tile.ensures.folded);
    }

pub returns : goal.returns
returns c =
    let l = c.loop-tile in
    subst (λ (r : Raster). IsKeptAs r c.args.tiling.now l.rows l.parts l.newer)
    (all_folded c.args.raised.now l.next l.invariant.shown c.in_default.ensures) l.invariant.kept
