-- What the tactics leave open of `first_of_word`.
use Rattle.tile_work.proofs.TileSetPairs.{none_of_word, first_of_word}
use Rattle.tile_work.proofs.tile_set.TileSet.first_of_word.Goals as goal

pub returns-in_err-bit : goal.returns-in_err-bit
returns-in_err-bit c =
    rw c.from_residual.ensures
    (none_of_word c.args.self.now c.args.other.now c.args.third.now c.args.start _ _ c.word_without.ensures
    c.word_without-2.ensures c.in_err-bit.ensures.set)

pub returns : goal.returns
returns c =
    first_of_word c.args.self.now c.args.other.now c.args.third.now c.args.start _ _ c.word_without.ensures
    c.word_without-2.ensures c.in_ok-bit.bit c.in_ok-bit.ensures.set c.in_ok-bit.ensures.within
