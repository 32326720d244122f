-- What the tactics leave open of `remove`.
use Rattle.std.proofs.Common.{◌≡◌, ◌∙◌, ap, ◌/◌, get_or, arith}
use Rattle.std.proofs.lemmas.List.{with_items_is}
use Rattle.tile_work.specs.TileSet.{IsWritten}
use Rattle.tile_work.proofs.TileSetWords.{below_count, in_words, in_summary, IsSummed-last, IsSummed-others}
use Rattle.tile_work.proofs.TileSetWords.{tiles_of-written}
use Rattle.tile_work.proofs.tile_set.TileSet.remove.Goals as goal

pub clear_place-requires : goal.clear_place-requires
clear_place-requires c =
    let tile = below_count _ _ _ c.self.view_is c.args.tile c.requires in
    rw c.deref_mut.ensures.value (in_words _ _ _ c.self.invariant c.args.tile tile)

pub index-requires : goal.index-requires
index-requires c =
    let tile = below_count _ _ _ c.self.view_is c.args.tile c.requires in
    omega (arith, c.self.invariant.word_count)

pub clear_place-requires-then-index-eq0 : goal.clear_place-requires-then-index-eq0
clear_place-requires-then-index-eq0 c =
    let tile = below_count _ _ _ c.self.view_is c.args.tile c.requires in
    rw c.deref_mut-then-index-eq0.ensures.value (in_summary _ _ _ c.self.invariant c.args.tile tile)

pub invariant_of-self : goal.invariant_of-self
invariant_of-self c =
    let tile = below_count _ _ _ c.self.view_is c.args.tile c.requires in
    let write : IsWritten c.self.inside.words.items c.clear_place.new.words c.args.tile 0 =
    rw (← c.deref_mut.ensures.value) c.clear_place.ensures in
    let noted : IsWritten c.self.inside.summary.items c.clear_place-then-index-eq0.new.words (c.args.tile / 64) 0 =
    rw (← c.deref_mut-then-index-eq0.ensures.value) c.clear_place-then-index-eq0.ensures in
    let items = with_items_is c.self.inside.words c.clear_place.new.words (omega (arith, write.count)) in
    let read : c.index.result.now ≡ get_or c.clear_place.new.words (c.args.tile / 64) c.index.result.now =
    c.index.ensures ∙ ap (λ ws. get_or ws (c.args.tile / 64) c.index.result.now) items in
    rw (items, with_items_is c.self.inside.summary c.clear_place-then-index-eq0.new.words (omega (arith, noted.count)))
    (IsSummed-last _ _ _ c.self.invariant c.args.tile tile _ write c.index.result.now read _
    c.if-index-eq0.true noted)

pub invariant_of-self-else-index-eq0 : goal.invariant_of-self-else-index-eq0
invariant_of-self-else-index-eq0 c =
    let tile = below_count _ _ _ c.self.view_is c.args.tile c.requires in
    let write : IsWritten c.self.inside.words.items c.clear_place.new.words c.args.tile 0 =
    rw (← c.deref_mut.ensures.value) c.clear_place.ensures in
    let items = with_items_is c.self.inside.words c.clear_place.new.words (omega (arith, write.count)) in
    let read : c.index.result.now ≡ get_or c.clear_place.new.words (c.args.tile / 64) c.index.result.now =
    c.index.ensures ∙ ap (λ ws. get_or ws (c.args.tile / 64) c.index.result.now) items in
    rw items
    (IsSummed-others _ _ _ c.self.invariant c.args.tile tile _ write c.index.result.now read
    c.if-index-eq0.false)

pub returns-then-index-eq0 : goal.returns-then-index-eq0
returns-then-index-eq0 c =
    let tile = below_count _ _ _ c.self.view_is c.args.tile c.requires in
    let write : IsWritten c.self.inside.words.items c.clear_place.new.words c.args.tile 0 =
    rw (← c.deref_mut.ensures.value) c.clear_place.ensures in
    rw (with_items_is c.self.inside.words c.clear_place.new.words (omega (arith, write.count)), ← c.self.view_is)
    (tiles_of-written c.self.inside.count _ _ c.args.tile 0 tile write)

pub returns-else-index-eq0 : goal.returns-else-index-eq0
returns-else-index-eq0 c =
    let tile = below_count _ _ _ c.self.view_is c.args.tile c.requires in
    let write : IsWritten c.self.inside.words.items c.clear_place.new.words c.args.tile 0 =
    rw (← c.deref_mut.ensures.value) c.clear_place.ensures in
    rw (with_items_is c.self.inside.words c.clear_place.new.words (omega (arith, write.count)), ← c.self.view_is)
    (tiles_of-written c.self.inside.count _ _ c.args.tile 0 tile write)
