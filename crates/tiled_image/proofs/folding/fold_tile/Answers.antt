-- What the tactics leave open of `fold_tile`.
use Rattle.std.proofs.Common.{◌≡◌, ◌<◌, List, Option, None, slice_index_or, subst, sym}
use Rattle.std.proofs.lemmas.Bool.{MatchBool-at_false, MatchBool-at_true}
use Rattle.grid_core.specs.{Raster.Raster, Tiles.rect_of}
use Rattle.tiled_image.specs.RaisedTiles.{IsPartWritten, whole_of}
use Rattle.tiled_image.specs.TiledImage.{IsKept, IsKeptAs, image_of}
use Rattle.tiled_image.proofs.FoldedTiles.{laid_in_rows, part_folded, rows_folded}
use Rattle.tiled_image.proofs.PartsAt.{if_there}
use Rattle.tiled_image.proofs.folding.fold_tile.Goals as goal

pub write_into_part-requires-clause-count : goal.write_into_part-requires-clause-count
write_into_part-requires-clause-count c = c.requires.laid.rims_are.count

pub write_into_part-requires-clause-tile : goal.write_into_part-requires-clause-tile
write_into_part-requires-clause-tile c = c.requires.tile

pub write_into_part-requires-clause-within : goal.write_into_part-requires-clause-within
write_into_part-requires-clause-within c =
    subst (λ n. c.args.tile < n) (sym c.requires.kept.are_cut.count) c.requires.tile

pub write_into_part-requires-clause-width : goal.write_into_part-requires-clause-width
write_into_part-requires-clause-width c =
    let a = c.args in
    if_there (slice_index_or a.parts.now a.tile None) (λ (m : Raster). m.width ≡ (rect_of a.tiling.now a.tile).w)
    (λ m there. (c.requires.kept.are_cut.cut a.tile m there).width)

pub write_into_part-requires-clause-height : goal.write_into_part-requires-clause-height
write_into_part-requires-clause-height c =
    let a = c.args in
    if_there (slice_index_or a.parts.now a.tile None) (λ (m : Raster). m.height ≡ (rect_of a.tiling.now a.tile).h)
    (λ m there. (c.requires.kept.are_cut.cut a.tile m there).height)

pub insert-requires : goal.insert-requires
insert-requires c = subst (λ n. c.args.tile < n) (sym c.requires.kept.count) c.requires.tile

pub let_go-requires-clause-kept : goal.let_go-requires-clause-kept
let_go-requires-clause-kept c =
    let a = c.args in
    let new = c.write_into_part.new.parts in
    let same = MatchBool-at_false (IsPartWritten a.tiling.now a.tile a.rims.now a.parts.now new) (new ≡ a.parts.now)
    c.if-write_into_part.false c.write_into_part.ensures in
    subst (λ (parts : List (Option Raster)). IsKept a.tiling.now a.rows.now parts a.newer.now) (sym same)
    c.requires.kept

pub let_go-requires-clause-tile : goal.let_go-requires-clause-tile
let_go-requires-clause-tile c = c.requires.tile

pub write_whole-requires-clause-count : goal.write_whole-requires-clause-count
write_whole-requires-clause-count c = c.requires.laid.rims_are.count

pub write_whole-requires-clause-tile : goal.write_whole-requires-clause-tile
write_whole-requires-clause-tile c = c.requires.tile

pub write_whole-requires-clause-width : goal.write_whole-requires-clause-width
write_whole-requires-clause-width c = c.let_go.ensures.kept.rows_of_tiling.width

pub write_whole-requires-clause-height : goal.write_whole-requires-clause-height
write_whole-requires-clause-height c = c.let_go.ensures.kept.rows_of_tiling.height

pub returns-then-write_into_part-clause-kept : goal.returns-then-write_into_part-clause-kept
returns-then-write_into_part-clause-kept c =
    let a = c.args in
    let new = c.write_into_part.new.parts in
    let whole = whole_of a.tiling.now a.rows.now a.parts.now a.newer.now a.rims.now in
    (part_folded c.requires.kept a.tile c.requires.tile whole a.rims.now c.requires.laid new c.insert.new.self
    (MatchBool-at_true (IsPartWritten a.tiling.now a.tile a.rims.now a.parts.now new) (new ≡ a.parts.now)
    c.if-write_into_part.true c.write_into_part.ensures) c.insert.ensures).kept

pub returns-then-write_into_part-clause-folded : goal.returns-then-write_into_part-clause-folded
returns-then-write_into_part-clause-folded c =
    let a = c.args in
    let new = c.write_into_part.new.parts in
    let whole = whole_of a.tiling.now a.rows.now a.parts.now a.newer.now a.rims.now in
    (part_folded c.requires.kept a.tile c.requires.tile whole a.rims.now c.requires.laid new c.insert.new.self
    (MatchBool-at_true (IsPartWritten a.tiling.now a.tile a.rims.now a.parts.now new) (new ≡ a.parts.now)
    c.if-write_into_part.true c.write_into_part.ensures) c.insert.ensures).folded

pub returns-else-write_into_part-clause-kept : goal.returns-else-write_into_part-clause-kept
returns-else-write_into_part-clause-kept c =
    let a = c.args in
    let new = c.write_into_part.new.parts in
    let whole = whole_of a.tiling.now a.rows.now a.parts.now a.newer.now a.rims.now in
    let same = MatchBool-at_false (IsPartWritten a.tiling.now a.tile a.rims.now a.parts.now new) (new ≡ a.parts.now)
    c.if-write_into_part.false c.write_into_part.ensures in
    let gone = c.let_go.new in
    let kept = subst (λ (parts : List (Option Raster)). IsKeptAs (image_of a.tiling.now a.rows.now parts a.newer.now)
    a.tiling.now gone.rows gone.parts gone.newer) same c.let_go.ensures.kept in
    let none = c.let_go.ensures.none in
    (rows_folded kept a.tile c.requires.tile whole a.rims.now c.requires.laid none c.write_whole.new.image
    (c.write_whole.ensures.copied whole
    (laid_in_rows kept a.tile c.requires.tile whole a.rims.now c.requires.laid none))).kept

pub returns-else-write_into_part-clause-folded : goal.returns-else-write_into_part-clause-folded
returns-else-write_into_part-clause-folded c =
    let a = c.args in
    let new = c.write_into_part.new.parts in
    let whole = whole_of a.tiling.now a.rows.now a.parts.now a.newer.now a.rims.now in
    let same = MatchBool-at_false (IsPartWritten a.tiling.now a.tile a.rims.now a.parts.now new) (new ≡ a.parts.now)
    c.if-write_into_part.false c.write_into_part.ensures in
    let gone = c.let_go.new in
    let kept = subst (λ (parts : List (Option Raster)). IsKeptAs (image_of a.tiling.now a.rows.now parts a.newer.now)
    a.tiling.now gone.rows gone.parts gone.newer) same c.let_go.ensures.kept in
    let none = c.let_go.ensures.none in
    (rows_folded kept a.tile c.requires.tile whole a.rims.now c.requires.laid none c.write_whole.new.image
    (c.write_whole.ensures.copied whole
    (laid_in_rows kept a.tile c.requires.tile whole a.rims.now c.requires.laid none))).folded
