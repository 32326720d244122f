-- What the tactics leave open of `empty`.
use Rattle.std.proofs.Common.{◌+◌, ◌/◌, ◌∙◌, ap, length, sym}
use Rattle.std.proofs.lemmas.List.{length-replicate}
use Rattle.tile_work.specs.TileSet.{bit_of}
use Rattle.tile_work.proofs.TileSetWords.{tiles_of-clear, bit_of-replicate, IsSummed-clear}
use Rattle.tile_work.proofs.tile_set.TileSet.empty.Goals as goal

pub returns : goal.returns
returns c =
    let items = c.in_ok-words.ensures.items_if_clones_equal (λ y zero. zero) in
    tiles_of-clear c.args.count c.in_ok-words.words.items
    (λ place. ap (λ ws. bit_of ws place) items ∙ bit_of-replicate (c.args.count / 64 + 1) place)

pub invariant_of-result : goal.invariant_of-result
invariant_of-result c =
    let words = c.in_ok-words.ensures.items_if_clones_equal (λ y zero. zero) in
    let summary = c.in_ok-summary.ensures.items_if_clones_equal (λ y zero. zero) in
    let word_count = ap length words ∙ length-replicate (c.args.count / 64 + 1) 0 in
    IsSummed-clear c.args.count c.in_ok-words.words.items c.in_ok-summary.summary.items word_count
    (ap length summary ∙ length-replicate (c.len.result / 64 + 1) 0
    ∙ ap (λ n. n / 64 + 1) (c.len.ensures ∙ c.in_ok-words.ensures.len ∙ sym word_count))
    (λ place. ap (λ ws. bit_of ws place) words ∙ bit_of-replicate (c.args.count / 64 + 1) place)
    (λ place. ap (λ ws. bit_of ws place) summary ∙ bit_of-replicate (c.len.result / 64 + 1) place)
