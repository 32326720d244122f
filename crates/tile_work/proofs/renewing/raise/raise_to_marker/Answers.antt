-- What the tactics leave open of `raise_to_marker`.
use Rattle.tile_work.proofs.RenewingStrokes.{raised_beyond_low}
use Rattle.tile_work.proofs.renewing.raise.raise_to_marker.Goals as goal

pub returns-else-tags-lt-MANY-clause-raised : goal.returns-else-tags-lt-MANY-clause-raised
returns-else-tags-lt-MANY-clause-raised c =
    let raised = c.raise_everywhere.ensures.raised in
    record {
      size = raised.values.size;
      count = raised.work.count;
      values =
          raised_beyond_low c.args.state.now c.args.tags.now c.args.marker.now c.args.image.now
          c.raise_everywhere.new.image c.requires.low raised.values;
      dirty = raised.work.each;
    }
