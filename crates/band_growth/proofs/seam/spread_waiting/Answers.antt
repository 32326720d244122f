use Rattle.raster_sweeps.proofs.{Grown.grown_up, Growing.grown_nowhere}
use Rattle.band_growth.specs.Bands.{AreGrown}
use Rattle.band_growth.proofs.seam.spread_waiting.Goals.{else-room-via-then-room+else-drain, else-room-via-else-room}
use Rattle.band_growth.proofs.seam.spread_waiting.Goals as goal

pub drain-requires-clause-inside : goal.drain-requires-clause-inside
drain-requires-clause-inside c = rw c.all_of-all.ensures c.requires.waits.inside

pub returns-then-drain : goal.returns-then-drain
returns-then-drain c =
    let drained = rw c.all_of-all.ensures at c.drain.ensures in
    record { grown = drained.grown; closed = drained.closed c.if-drain.true (c.requires.waits.waits c.if-room.true) }

pub returns : goal.returns
returns c =
    let limits = c.args.limits.now in
    let IsFrom = AreGrown limits.conn limits.size limits.mask.now c.args.image.now in
    let between : IsFrom c.else-room.image = elim c.else-room.branch [
      | else-room-via-then-room+else-drain w ↦ rw w.image-is (rw c.all_of-all.ensures at w.drain.ensures.grown)
      | else-room-via-else-room w ↦ rw w.image-is (grown_nowhere c.requires.close)
    ] in
    grown_up between (rw c.all_of-all.ensures at c.close.ensures)
