-- What the tactics leave open of `len`.
use Rattle.tile_work.proofs.TileSetWords.{count_is}
use Rattle.tile_work.proofs.tile_set.TileSet.len.Goals as goal

pub returns : goal.returns
returns c = count_is _ _ _ c.self.view_is
