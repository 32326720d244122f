-- What the tactics leave open of `insert`.
use Rattle.std.proofs.{Common.◌/◌, Common.arith, lemmas.List.with_items_is}
use Rattle.tile_work.specs.TileSet.{IsWritten}
use Rattle.tile_work.proofs.TileSetWords.{below_count, in_words, IsSummed-insert, tiles_of-written}
use Rattle.tile_work.proofs.tile_set.TileSet.insert.Goals as goal

pub set_place-requires : goal.set_place-requires
set_place-requires c =
    let tile = below_count _ _ _ c.self.view_is c.args.tile c.requires in
    rw c.deref_mut.ensures.value (in_words _ _ _ c.self.invariant c.args.tile tile)

pub invariant_of-self : goal.invariant_of-self
invariant_of-self c =
    let tile = below_count _ _ _ c.self.view_is c.args.tile c.requires in
    let write : IsWritten c.self.inside.words.items c.set_place.new.words c.args.tile 1 =
    rw (← c.deref_mut.ensures.value) c.set_place.ensures in
    let noted : IsWritten c.self.inside.summary.items c.set_place-2.new.words (c.args.tile / 64) 1 =
    rw (← c.deref_mut-2.ensures.value) c.set_place-2.ensures in
    rw (
      with_items_is c.self.inside.words c.set_place.new.words (omega (arith, write.count)),
      with_items_is c.self.inside.summary c.set_place-2.new.words (omega (arith, noted.count)),
    )
    (IsSummed-insert _ _ _ c.self.invariant c.args.tile tile _ _ write noted)

pub returns : goal.returns
returns c =
    let tile = below_count _ _ _ c.self.view_is c.args.tile c.requires in
    let write : IsWritten c.self.inside.words.items c.set_place.new.words c.args.tile 1 =
    rw (← c.deref_mut.ensures.value) c.set_place.ensures in
    rw (with_items_is c.self.inside.words c.set_place.new.words (omega (arith, write.count)), ← c.self.view_is)
    (tiles_of-written c.self.inside.count _ _ c.args.tile 1 tile write)
