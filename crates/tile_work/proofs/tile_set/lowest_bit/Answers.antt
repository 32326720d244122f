-- What the tactics leave open of `lowest_bit`.
use Rattle.tile_work.proofs.TileSetWords.{none_in_word, lowest_in_word, lowest_within}
use Rattle.tile_work.proofs.tile_set.lowest_bit.Goals as goal

pub returns-then-rest-eq0-clause-set : goal.returns-then-rest-eq0-clause-set
returns-then-rest-eq0-clause-set c = none_in_word c.args.word c.args.from c.if-rest-eq0.true

pub returns-else-rest-eq0-clause-set : goal.returns-else-rest-eq0-clause-set
returns-else-rest-eq0-clause-set c =
    lowest_in_word c.args.word c.args.from c.ranges.word.fits c.if-rest-eq0.false

pub returns-else-rest-eq0-clause-within : goal.returns-else-rest-eq0-clause-within
returns-else-rest-eq0-clause-within c =
    lowest_within c.args.word c.args.from c.ranges.word.fits c.if-rest-eq0.false
