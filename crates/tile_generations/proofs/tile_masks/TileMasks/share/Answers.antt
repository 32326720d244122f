-- What the tactics leave open of `share`.
use Rattle.std.proofs.Common.{◌<◌, sym, ◌∙◌, ap, subst}
use Rattle.std.specs.Arc.{arc_value}
use Rattle.grid_core.specs.{Rects.IsPart, Tiles.rect_of}
use Rattle.tile_generations.specs.CutMasks.{cut_mask}
use Rattle.tile_generations.proofs.CutMasks.{cut_at, stored_more}
use Rattle.tile_generations.proofs.tile_masks.TileMasks.share.Goals as goal

pub returns-in-Some-clause-part : goal.returns-in-Some-clause-part
returns-in-Some-clause-part c =
    let masks = c.requires.masks in
    let at =
    cut_at c.self.inside.tiles.items c.args.self.now c.args.tile c.index.result.now c.self.view_is
    (subst (λ n. c.args.tile < n) (sym masks.count) c.requires.tile) c.index.ensures in
    subst (IsPart (rect_of c.args.tiling.now c.args.tile) c.args.whole.now) (sym c.in_ok-try_clone.ensures)
    (masks.cut c.args.tile (arc_value c.in-Some.mask) (at ∙ ap cut_mask c.in-Some.is))

pub returns-clause-masks : goal.returns-clause-masks
returns-clause-masks c =
    let copied = c.in_ok-try_clone-2.ensures ∙ c.in_ok-mask.ensures.ok in
    stored_more c.self.inside.tiles.items c.args.self.now c.args.whole.now c.args.tiling.now c.args.tile
    c.in_ok-try_clone-2.field-0 c.self.view_is c.requires.masks c.requires.tile
    (subst (IsPart (rect_of c.args.tiling.now c.args.tile) c.args.whole.now) (sym copied)
    (subst (λ r. IsPart r c.args.whole.now c.in_ok-cut.field-0) c.rect.ensures.value c.in_ok-cut.ensures))
