-- What the tactics leave open of `clear`.
use Rattle.std.proofs.Common.{◌≡◌, ℕ, ◌∙◌, ap, length, replicate, false, ◌+◌, ◌/◌, arith}
use Rattle.std.proofs.lemmas.List.{with_items_is, length-replicate}
use Rattle.tile_work.proofs.TileSetWords.{count_is, tiles_of-clear, IsSummed-clear, bit_of-replicate}
use Rattle.std.proofs.lemmas.Grind.{common_steps}
use Rattle.tile_work.proofs.tile_set.TileSet.clear.Goals as goal

pub invariant_of-self : goal.invariant_of-self
invariant_of-self c =
    let len = c.self.inside.summary.len in
    let words = c.clear_words.new.words in
    let filled = c.fill.ensures.items (λ y zero. zero) in
    let word_count : length words ≡ c.self.inside.count / 64 + 1 =
    omega (arith, c.self.invariant.word_count, ap length c.deref_mut.ensures.value) in
    let summary_count : length (replicate {A = ℕ} len 0) ≡ length words / 64 + 1 =
    omega (arith, c.self.invariant.word_count, c.self.invariant.summary_count, length-replicate {A = ℕ} len 0) in
    rw (with_items_is c.self.inside.words words (omega arith), filled)
    (IsSummed-clear c.self.inside.count words _ word_count summary_count c.clear_words.ensures (bit_of-replicate len))

pub returns : goal.returns
returns c =
    rw (with_items_is c.self.inside.words c.clear_words.new.words (omega arith))
    (tiles_of-clear c.self.inside.count c.clear_words.new.words c.clear_words.ensures
    ∙ ap (λ n. replicate n false) (count_is _ _ _ c.self.view_is))

pub clear_words-requires-clause-within : goal.clear_words-requires-clause-within
clear_words-requires-clause-within c = grind (arith, common_steps)
