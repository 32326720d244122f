-- What the tactics leave open of `raise_border`.
use Rattle.std.proofs.Common.{ℕ, List, sym, subst, ◌∙◌}
use Rattle.tiled_image.specs.Rims.{IsRimOf}
use Rattle.tiled_image.proofs.RaisedBorders.{border_raised}
use Rattle.tiled_image.proofs.rims.Rims.raise_border.Goals as goal

pub returns : goal.returns
returns c image value is_rim shown =
    let a = c.args in
    let same = c.deref-values.ensures.value ∙ c.self.view_is in
    border_raised a.tiling.now a.tile c.side.ensures.tiled c.requires.tile image value c.deref-values.result.now
    (subst (λ (rims : List ℕ). IsRimOf a.tiling.now image rims a.tile) (sym same) is_rim) a.cells.now
    c.raise_border_at.new.cells c.raise_border_at-2.new.cells c.raise_border_at-3.new.cells
    c.raise_border_at-4.new.cells shown c.raise_border_at.ensures c.raise_border_at-2.ensures
    c.raise_border_at-3.ensures c.raise_border_at-4.ensures
