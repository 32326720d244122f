-- What the tactics leave open of `bounds_above`.
use Rattle.std.proofs.Common.{◌<◌, ap, sym, subst, ◌∙◌, arith}
use Rattle.grid_core.specs.{declared.rect.Rect.Rect, Tiles.Tiles, Tiles.count_of, Tiles.rect_of}
use Rattle.tiled_image.specs.Shown.{AreInWhole}
use Rattle.tiled_image.proofs.ShownParts.{bounds_in_whole, lie_in_size, piece_in_source}
use Rattle.tiled_image.proofs.image.TiledImage.bounds_above.Goals as goal

pub rect-rect-requires : goal.rect-rect-requires
rect-rect-requires c =
    subst (λ (t : Tiles). c.args.tile < count_of t) (sym c.tiling-tiling.ensures.value) c.requires.tile

pub bounds_above-bounds-requires-clause-piece : goal.bounds_above-bounds-requires-clause-piece
bounds_above-bounds-requires-clause-piece c =
    piece_in_source c.in-Some.ensures c.args.piece.now c.requires.piece

pub counted_from-requires : goal.counted_from-requires
counted_from-requires c = c.bounds_above-bounds.ensures.lie

pub in_whole-requires-clause-lie : goal.in_whole-requires-clause-lie
in_whole-requires-clause-lie c =
    let has = c.in-Some.ensures in
    let own = c.in-Some.own in
    let rect_is =
    c.rect-rect.ensures.value ∙ ap (λ (t : Tiles). rect_of t c.args.tile) c.tiling-tiling.ensures.value in
    lie_in_size c.counted_from.result c.rect-rect.result own (has.width ∙ sym (ap (λ (r : Rect). r.w) rect_is))
    (has.height ∙ sym (ap (λ (r : Rect). r.h) rect_is)) c.counted_from.ensures.lie

pub in_whole-requires-clause-columns : goal.in_whole-requires-clause-columns
in_whole-requires-clause-columns c =
    omega (
      arith,
      c.rect-rect.ensures.fits.columns,
      ap (λ (t : Tiles). t.width) c.tiling-tiling.ensures.value,
      c.tiling-tiling.ensures.of_tiling.tiled.size.width_within,
    )

pub in_whole-requires-clause-rows : goal.in_whole-requires-clause-rows
in_whole-requires-clause-rows c =
    omega (
      arith,
      c.rect-rect.ensures.fits.rows,
      ap (λ (t : Tiles). t.height) c.tiling-tiling.ensures.value,
      c.tiling-tiling.ensures.of_tiling.tiled.size.height_within,
    )

pub returns : goal.returns
returns c =
    let found = c.bounds_above-bounds.result in
    let counted = c.counted_from.result in
    let bounds = c.in_whole.result in
    let rect_is =
    c.rect-rect.ensures.value ∙ ap (λ (t : Tiles). rect_of t c.args.tile) c.tiling-tiling.ensures.value in
    bounds_in_whole c.in-Some.ensures c.args.piece.now found counted bounds c.bounds_above-bounds.ensures
    c.counted_from.ensures (subst (λ (r : Rect). AreInWhole r counted bounds) rect_is c.in_whole.ensures)
