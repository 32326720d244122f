-- What the tactics leave open of `bounds_over`.
use Rattle.std.proofs.Common.{ℕ, List, sym, subst, ◌∙◌}
use Rattle.tiled_image.specs.Rims.{IsRimOf}
use Rattle.tiled_image.proofs.RimsAbove.{four_widened}
use Rattle.tiled_image.proofs.rims.Rims.bounds_over.Goals as goal

pub returns : goal.returns
returns c image value is_rim has =
    let a = c.args in
    let same = c.deref-values.ensures.value ∙ c.self.view_is in
    four_widened a.tiling.now a.tile c.side.ensures.tiled c.requires.tile image value c.deref-values.result.now
    a.rim.now (subst (λ (rims : List ℕ). IsRimOf a.tiling.now image rims a.tile) (sym same) is_rim) has c.none.result
    c.widened_at-top.result c.widened_at-bottom.result c.widened_at-left.result c.widened_at.result c.none.ensures
    c.widened_at-top.ensures c.widened_at-bottom.ensures c.widened_at-left.ensures c.widened_at.ensures
