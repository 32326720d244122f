-- What the tactics leave open of `contains`.
use Rattle.std.proofs.Common.{◌≡◌, sym, ◌∙◌, ap, ◌<◌, ◌/◌, ◌%◌, length, get_or, false, nat_eq, arith}
use Rattle.std.proofs.{lemmas.List.get_or_default, lemmas.Nat.Bits.shr_and_one}
use Rattle.std.specs.Int.{bit_at}
use Rattle.tile_work.proofs.TileSetWords.{below_count, tile_of}
use Rattle.tile_work.proofs.tile_set.TileSet.contains.Goals as goal

pub index-requires : goal.index-requires
index-requires c =
    let tile = below_count _ _ _ c.self.view_is c.args.tile c.requires in
    omega (arith, c.self.invariant.word_count)

pub returns : goal.returns
returns c =
    let count = c.self.inside.count in
    let words = c.self.inside.words.items in
    let tile = c.args.tile in
    let below = below_count _ _ _ c.self.view_is tile c.requires in
    let within : tile / 64 < length words = omega (arith, c.self.invariant.word_count) in
    let word : c.index.result.now ≡ get_or words (tile / 64) 0 =
    c.index.ensures ∙ get_or_default words (tile / 64) c.index.result.now 0 within in
    ap (λ n. nat_eq n 1) (shr_and_one c.index.result.now (tile % 64) ∙ ap (λ n. bit_at n (tile % 64)) word)
    ∙ sym (tile_of count words tile below) ∙ ap (λ tiles. get_or tiles tile false) c.self.view_is
