-- What the tactics leave open of `clear_place`.
use Rattle.tile_work.proofs.TileSetWords.{IsWritten-clear}
use Rattle.tile_work.proofs.tile_set.clear_place.Goals as goal

pub returns : goal.returns
returns c = IsWritten-clear c.args.words.now c.args.place c.requires
