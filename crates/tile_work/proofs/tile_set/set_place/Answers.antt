-- What the tactics leave open of `set_place`.
use Rattle.tile_work.proofs.TileSetWords.{IsWritten-set}
use Rattle.tile_work.proofs.tile_set.set_place.Goals as goal

pub returns : goal.returns
returns c = IsWritten-set c.args.words.now c.args.place c.requires
