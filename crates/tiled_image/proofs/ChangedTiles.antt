-- An image in tiles becomes another one that differs from it in some tiles alone, of which nothing old is kept.
use Rattle.std.proofs.Common.{◌≡◌, ℕ, Bool, List, Option, length, subst}
use Rattle.grid_core.specs.declared.pixel.Pixel.{Pixel}
use Rattle.grid_core.specs.Raster.{Raster, IsInside, IsOfSize, value_at}
use Rattle.grid_core.specs.Tiles.{Tiles, count_of, tile_of}
use Rattle.tile_work.specs.TileSet.{Has}
use Rattle.tile_work.proofs.TileSets.{cases_has}
use Rattle.tiled_image.specs.{AllKept.IsKeptWithAll, Rims.AreRimsOf, Rims.AreTaken, TileParts.AreLetGo}
use Rattle.tiled_image.specs.RaisedTiles.{IsShownBut, whole_of}
use Rattle.tiled_image.specs.SharedCopies.{AreCopies, Copies, HaveChanged}
use Rattle.tiled_image.specs.TiledImage.{IsKeptAs}
use Rattle.tiled_image.proofs.{AllKept.with_all, LaidRims.plainly_shown, LaidRims.whole_is}
use Rattle.tiled_image.proofs.{RenewedTiles.renewed_kept, SharedCopies.still_copies, TileRims.taken_rims}

module _ {whole : Raster} {tiling : Tiles} {rows : Raster} {parts : List (Option Raster)} {newer : List Bool}
    {copies : Copies} {rims : List ℕ} (raised : List Bool) (kept : IsKeptAs whole tiling rows parts newer)
    (none : (t : ℕ) → Has newer t → ⊥) (count : length raised ≡ count_of tiling)
    (rims_are : AreRimsOf tiling whole rims) (copies_are : AreCopies tiling whole copies) (tiles : List Bool)
    (new : Raster) (size : IsOfSize whole new)
    (same : (p : Pixel) → IsInside tiling.width tiling.height p → (Has tiles (tile_of tiling p) → ⊥)
    → value_at new p ≡ value_at whole p)
    (new_parts : List (Option Raster)) (gone : AreLetGo (Has tiles) parts new_parts) where
  pub changed_kept : IsKeptAs new tiling new new_parts newer
  changed_kept =
      renewed_kept kept none new size (Has tiles) new_parts gone
      (λ t within spared p own. same p own.inside (λ has. spared (subst (Has tiles) own.tile has)))

  module _ (new_rims : List ℕ) (taken : AreTaken (Has tiles) tiling new rims new_rims) where
    shown : IsShownBut (Has raised) new tiling new new_rims
    shown =
        plainly_shown (Has raised) tiling new new_rims changed_kept.of_tiling
        (taken_rims tiling kept.of_tiling.tiled (Has tiles) whole new rims new_rims rims_are taken (cases_has tiles)
        same)

    -- which image it is then
    pub changed_is : whole_of tiling new new_parts newer new_rims ≡ new
    changed_is = whole_is changed_kept shown

    -- all is kept of it
    pub all_changed : (new_copies : Copies) → HaveChanged (Has tiles) copies new_copies
        → IsKeptWithAll tiling new new_parts newer new_copies raised new_rims
    all_changed new_copies marked =
        with_all raised changed_kept shown count (still_copies copies_are new_copies (Has tiles) marked new same)
