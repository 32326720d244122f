use Rattle.raster_sweeps.proofs.Grown.{grown_up}
use Rattle.raster_sweeps.proofs.Growing.{can_close_on, grown_nowhere}
use Rattle.band_growth.proofs.band.close_upwards.Goals as goal

pub spread_waiting-requires-clause-waits : goal.spread_waiting-requires-clause-waits
spread_waiting-requires-clause-waits c =
    let scanned = rw c.all_of.ensures at c.scan_up-room.ensures in
    record {
      grown = grown_nowhere (can_close_on c.requires scanned.grown);
      inside = scanned.inside;
      waits = scanned.waits;
    }

pub returns : goal.returns
returns c = grown_up (rw c.all_of.ensures at c.scan_up-room.ensures.grown) c.spread_waiting.ensures
