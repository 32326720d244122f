-- All that an image in tiles keeps is kept still.
use Rattle.std.proofs.Common.{◌≡◌, ℕ, Bool, List, Option, length, ap, sym, subst}
use Rattle.grid_core.specs.{Raster.Raster, Tiles.Tiles, Tiles.count_of}
use Rattle.tile_work.specs.TileSet.{Has}
use Rattle.tiled_image.specs.{AllKept.IsKeptWithAll, SharedCopies.AreCopies, SharedCopies.Copies, TiledImage.IsKeptAs}
use Rattle.tiled_image.specs.RaisedTiles.{IsShownBut, whole_of}
use Rattle.tiled_image.specs.TiledImage.{image_of, tiled_raster}
use Rattle.tiled_image.proofs.KeptImages.{image_is, is_kept}
use Rattle.tiled_image.proofs.LaidRims.{whole_is}

module _ {whole below : Raster} {tiling : Tiles} {rows : Raster} {parts : List (Option Raster)} {newer : List Bool}
    (raised : List Bool) {rims : List ℕ} (kept : IsKeptAs below tiling rows parts newer)
    (shown : IsShownBut (Has raised) whole tiling below rims) where
  -- the whole image is the one over which the rims are laid, and of which these are copies
  pub with_all : {copies : Copies} → length raised ≡ count_of tiling → AreCopies tiling whole copies
      → IsKeptWithAll tiling rows parts newer copies raised rims
  with_all {copies} count copies_are = record {
    kept = is_kept kept;
    count = count;
    shown =
        subst (λ (r : Raster). IsShownBut (Has raised) r tiling (image_of tiling rows parts newer) rims)
        (sym (whole_is kept shown))
        (subst (λ (r : Raster). IsShownBut (Has raised) whole tiling r rims) (sym (image_is kept)) shown);
    copies_are = subst (λ (r : Raster). AreCopies tiling r copies) (sym (whole_is kept shown)) copies_are;
  }

  -- it is what contracts see
  pub seen : tiled_raster tiling (whole_of tiling rows parts newer rims) ≡ tiled_raster tiling whole
  seen = ap (tiled_raster tiling) (whole_is kept shown)
