-- What the tactics leave open of `word_without`.
use Rattle.std.proofs.Common.{◌≡◌, sym, ◌∙◌, arith}
use Rattle.tile_work.proofs.TileSetPairs.{word_is}
use Rattle.tile_work.proofs.TileSetWords.{below_count, count_is}
use Rattle.tile_work.proofs.tile_set.TileSet.word_without.Goals as goal

pub index-requires : goal.index-requires
index-requires c =
    let tile = below_count _ _ _ c.self.view_is c.args.tile c.requires.within in
    omega (arith, tile, c.self.invariant.word_count)

pub index-requires-2 : goal.index-requires-2
index-requires-2 c =
    let tile = below_count _ _ _ c.self.view_is c.args.tile c.requires.within in
    let counts : c.other.inside.count ≡ c.self.inside.count =
    count_is _ _ _ c.other.view_is ∙ c.requires.count ∙ sym (count_is _ _ _ c.self.view_is) in
    omega (arith, tile, counts, c.other.invariant.word_count)

pub returns : goal.returns
returns c =
    let tile = below_count _ _ _ c.self.view_is c.args.tile c.requires.within in
    let counts : c.other.inside.count ≡ c.self.inside.count =
    count_is _ _ _ c.other.view_is ∙ c.requires.count ∙ sym (count_is _ _ _ c.self.view_is) in
    word_is _ _ _ _ _ _ c.self.invariant c.other.invariant counts c.args.tile c.index.result.now
    c.index-2.result.now tile c.index.ensures c.index-2.ensures (omega arith) _ _ c.self.view_is c.other.view_is
