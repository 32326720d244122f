-- Cells of which those that begin an open pair join the queue. Only private functions have these words in their
-- contracts.
use Rattle.std.specs.Prelude.{ℕ, ◌⊎◌, Bool, IsTrue, List, Contains}
use Rattle.grid_core.specs.{declared.conn.Conn.Conn, declared.pixel.Pixel.Pixel, declared.rect.Rect.Rect}
use Rattle.grid_core.specs.Raster.{Raster}
use Rattle.raster_sweeps.specs.Growth.{IsOpenIn, cell_of}

-- cells of this kind have joined the queue: it has what it had, each cell that is new is of the kind, and if there was
-- room then each of the kind that is the first of an open pair is in it
pub record HaveOpenJoined (conn : Conn) (rect : Rect) (mask image : Raster) (IsSuch : ℕ → Type 0) (room : Bool)
    (old new : List ℕ) : Type 0 where
  pub kept : (i : ℕ) → Contains old i → Contains new i
  pub each : (i : ℕ) → Contains new i → Contains old i ⊎ IsSuch i
  pub every : IsTrue room → (p q : Pixel) → IsOpenIn conn rect mask image p q → IsSuch (cell_of rect image.width p)
      → Contains new (cell_of rect image.width p)
