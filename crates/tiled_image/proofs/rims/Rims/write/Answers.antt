-- What the tactics leave open of `write`.
use Rattle.std.proofs.Common.{ℕ, List, length, ap, sym, subst, ◌∙◌}
use Rattle.tiled_image.specs.Rims.{AreRimsOf}
use Rattle.tiled_image.proofs.rims.Rims.write.Goals as goal

pub write_rim-requires-clause-count : goal.write_rim-requires-clause-count
write_rim-requires-clause-count c = ap length (c.deref.ensures.value ∙ c.self.view_is) ∙ c.requires.count

pub write_rim-requires-clause-tile : goal.write_rim-requires-clause-tile
write_rim-requires-clause-tile c = c.requires.tile

pub write_rim-requires-clause-width : goal.write_rim-requires-clause-width
write_rim-requires-clause-width c = c.requires.width

pub write_rim-requires-clause-height : goal.write_rim-requires-clause-height
write_rim-requires-clause-height c = c.requires.height

pub write_rim-requires-clause-lies : goal.write_rim-requires-clause-lies
write_rim-requires-clause-lies c = c.requires.lies

pub returns-clause-size : goal.returns-clause-size
returns-clause-size c = c.write_rim.ensures.size

pub returns-clause-written : goal.returns-clause-written
returns-clause-written c whole are =
    c.write_rim.ensures.written whole
    (subst (λ (xs : List ℕ). AreRimsOf c.args.tiling.now whole xs) (sym (c.deref.ensures.value ∙ c.self.view_is)) are)
