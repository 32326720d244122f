-- What the tactics leave open of `insert_all`.
use Rattle.std.proofs.{Common.◌≡◌, Common.sym, Common.◌∙◌, Common.arith, lemmas.List.with_items_is}
use Rattle.tile_work.specs.TileSet.{AreUnited}
use Rattle.tile_work.proofs.TileSetWords.{count_is}
use Rattle.tile_work.proofs.TileSetUnions.{same_words, same_summaries, IsSummed-united, HasGained-united}
use Rattle.tile_work.proofs.tile_set.TileSet.insert_all.Goals as goal

pub unite-requires : goal.unite-requires
unite-requires c =
    let counts : c.other.inside.count ≡ c.self.inside.count =
    count_is _ _ _ c.other.view_is ∙ c.requires ∙ sym (count_is _ _ _ c.self.view_is) in
    rw (c.deref.ensures.value, c.deref_mut.ensures.value)
    (same_words _ _ _ _ _ _ c.self.invariant c.other.invariant counts)

pub unite-requires-2 : goal.unite-requires-2
unite-requires-2 c =
    let counts : c.other.inside.count ≡ c.self.inside.count =
    count_is _ _ _ c.other.view_is ∙ c.requires ∙ sym (count_is _ _ _ c.self.view_is) in
    rw (c.deref-2.ensures.value, c.deref_mut-2.ensures.value)
    (same_summaries _ _ _ _ _ _ c.self.invariant c.other.invariant counts)

pub invariant_of-self : goal.invariant_of-self
invariant_of-self c =
    let counts : c.other.inside.count ≡ c.self.inside.count =
    count_is _ _ _ c.other.view_is ∙ c.requires ∙ sym (count_is _ _ _ c.self.view_is) in
    let words : AreUnited c.self.inside.words.items c.other.inside.words.items c.unite.new.words =
    rw (← c.deref_mut.ensures.value, ← c.deref.ensures.value) c.unite.ensures in
    let summary : AreUnited c.self.inside.summary.items c.other.inside.summary.items c.unite-2.new.words =
    rw (← c.deref_mut-2.ensures.value, ← c.deref-2.ensures.value) c.unite-2.ensures in
    rw (
      with_items_is c.self.inside.words c.unite.new.words (omega (arith, words.count)),
      with_items_is c.self.inside.summary c.unite-2.new.words (omega (arith, summary.count)),
    )
    (IsSummed-united _ _ _ _ _ _ c.self.invariant c.other.invariant counts _ _ words summary)

pub returns : goal.returns
returns c =
    let counts : c.other.inside.count ≡ c.self.inside.count =
    count_is _ _ _ c.other.view_is ∙ c.requires ∙ sym (count_is _ _ _ c.self.view_is) in
    let words : AreUnited c.self.inside.words.items c.other.inside.words.items c.unite.new.words =
    rw (← c.deref_mut.ensures.value, ← c.deref.ensures.value) c.unite.ensures in
    rw (with_items_is c.self.inside.words c.unite.new.words (omega (arith, words.count)))
    (HasGained-united c.self.inside.count c.other.inside.count c.self.inside.words.items c.self.inside.summary.items
    c.other.inside.words.items c.other.inside.summary.items c.self.invariant c.other.invariant counts c.unite.new.words
    words c.args.self.now c.args.other.now c.self.view_is c.other.view_is)
