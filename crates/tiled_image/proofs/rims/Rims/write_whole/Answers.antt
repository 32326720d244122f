-- What the tactics leave open of `write_whole`.
use Rattle.std.proofs.Common.{sym, subst}
use Rattle.grid_core.specs.declared.rect.Rect.{Rect}
use Rattle.tiled_image.specs.RaisedTiles.{IsRimWritten}
use Rattle.tiled_image.proofs.{WrittenParts.all_by_sides, WrittenRims.tile_copied}
use Rattle.tiled_image.proofs.rims.Rims.write_whole.Goals as goal

pub returns-clause-copied : goal.returns-clause-copied
returns-clause-copied c whole laid =
    let a = c.args in
    let old = a.image.now in
    let new = c.write.new.image in
    tile_copied a.tiling.now a.tile c.requires.tile whole old new a.self.now laid c.write.ensures.size
    (subst (λ (shown : Rect). IsRimWritten a.tiling.now a.tile whole shown old new)
    (sym (all_by_sides old c.width.result c.height.result c.width.ensures.value c.height.ensures.value))
    (c.write.ensures.written whole laid.rims_are))
