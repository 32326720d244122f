-- Open pairs whose first cells have joined the queue.
use Rattle.std.proofs.Common.{◌≡◌, Bool, List, [], length, ℕ, refl, ap, inl, inr, arith, IsTrue}
use Rattle.grid_core.specs.{declared.conn.Conn.Conn, declared.pixel.Pixel.Pixel, declared.rect.Rect.Rect, Raster.Raster}
use Rattle.raster_sweeps.specs.{Growth.AllWait, Growth.AreOpen, Growth.IsOpenIn, Growth.cell_of, RowPairs.AreJoined}

module _ {conn : Conn} {rect : Rect} {mask image : Raster} where
  -- what has joined an empty queue is of open pairs
  pub begun_open : {IsFrom : Pixel → Type 0} {room : Bool} {old new : List ℕ} → old ≡ []
      → AreJoined conn rect mask image IsFrom room old new
      → AreOpen conn rect mask image new
  begun_open empty joined i there = elim (joined.each i there) [
    | inl before ↦ absurd (omega (arith, before.1, ap length empty))
    | inr begins ↦ (begins.pixel, begins.other, begins.raises, begins.place)
  ]

  -- where each open pair begins at such a pixel, each waits
  pub begun_wait : {IsFrom : Pixel → Type 0} {room : Bool} {old new : List ℕ} → IsTrue room
      → AreJoined conn rect mask image IsFrom room old new
      → ((p q : Pixel) → IsOpenIn conn rect mask image p q → IsFrom p)
      → AllWait conn rect mask image new
  begun_wait all joined begin p q raises =
      joined.every all (cell_of rect image.width p)
      (record {
        pixel = p;
        other = q;
        raises = raises;
        from = begin p q raises;
        place = refl;
      })
