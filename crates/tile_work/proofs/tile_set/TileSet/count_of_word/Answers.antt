-- What the tactics leave open of `count_of_word`.
use Rattle.std.proofs.Common.{◌∙◌}
use Rattle.tile_work.proofs.TileSetPairs.{count_of_bits}
use Rattle.tile_work.proofs.tile_set.TileSet.count_of_word.Goals as goal

pub returns : goal.returns
returns c =
    c.count_low.ensures
    ∙ count_of_bits c.args.self.now c.args.other.now c.args.start c.word_without.result c.args.tiles
    c.word_without.ensures c.requires.word
