-- A marker that is kept up to date while the state changes.
use Rattle.std.specs.Prelude.{◌≡◌}
use Rattle.grid_core.specs.{declared.conn.Conn.Conn, Path.domain_of, Raster.Raster, Raster.value_at, Tiles.Tiles}
use Rattle.stroke_lattice.specs.{State.State, State.IsBelow, State.nothing, Change.Turnover, Change.IsChange}
use Rattle.marker_tiles.specs.Marker.{IsMarker}

-- a mask, the marker that is kept for it, and how both are cut into tiles
pub record Kept : Type 0 where
  pub mask : Raster
  pub marker : Raster
  pub tiling : Tiles

-- the image is the marker of the mask and the state, whichever pixels are neighbours
abbrev pub IsMarkerOf : Raster → State → Raster → Type 0
IsMarkerOf mask s image = (conn : Conn) → IsMarker (domain_of mask conn) (value_at mask) s (value_at image)

-- the image is the marker of the mask and of a state that has since grown to this one, by this change
pub record HasGrown (mask image : Raster) (after : State) (change : Turnover) : Type 0 where
  pub before : State
  pub was : IsMarkerOf mask before image
  pub rises : IsBelow before after
  pub changed : IsChange before after change

-- the marker of the image as mask, cut into these tiles, and of the state without strokes
pub record AreFresh (image : Raster) (tiles : Tiles) (made : Kept) : Type 0 where
  pub mask : made.mask ≡ image
  pub tiling : made.tiling ≡ tiles
  pub marks : IsMarkerOf made.mask nothing made.marker

-- the marker of the same mask, cut into the same tiles, and of this state
pub record AreRenewed (s : State) (old new : Kept) : Type 0 where
  pub marks : IsMarkerOf new.mask s new.marker
  pub mask : new.mask ≡ old.mask
  pub tiling : new.tiling ≡ old.tiling
