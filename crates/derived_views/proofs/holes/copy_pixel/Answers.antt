use Rattle.std.proofs.Common.{◌≡◌, sym, subst, ap, ◌∙◌}
use Rattle.grid_core.specs.{declared.pixel.Pixel.Pixel, Raster.with_value}
use Rattle.derived_views.specs.Rasters.{Copies}
use Rattle.derived_views.proofs.holes.copy_pixel.Goals as goal
use Rattle.derived_views.proofs.Borders.{copied_pixel}

pub returns : goal.returns
returns c =
    let image = c.args.grid.now in
    let border = c.args.border.now in
    let p = c.args.p in
    let written = c.set.ensures ∙ ap (λ v. with_value border p v) c.get.ensures in
    subst (λ r. Copies (λ (q : Pixel). q ≡ p) image border r) (sym written)
    (copied_pixel image border p c.requires.part c.requires.inside c.requires.on_border)
