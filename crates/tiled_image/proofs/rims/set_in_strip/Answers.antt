-- What the tactics leave open of `set_in_strip`.
use Rattle.std.proofs.Common.{◌≡◌, ◌<◌, set, ap, sym, subst, ◌∙◌}
use Rattle.grid_core.specs.{declared.rect.Rect.Rect, Rects.IsInRect}
use Rattle.grid_core.proofs.Tilings.{tiles_lie_inside}
use Rattle.tiled_image.specs.{Rims.IsStripChanged, Rims.strip_at, Rims.strip_of}
use Rattle.tiled_image.proofs.StripCopies.{set_strip}
use Rattle.tiled_image.proofs.rims.set_in_strip.Goals as goal

pub strip_at-strip-requires-clause-some_width : goal.strip_at-strip-requires-clause-some_width
strip_at-strip-requires-clause-some_width c =
    subst (λ (r : Rect). 0 < r.w) (sym c.requires.rect)
    (tiles_lie_inside c.args.tiling.now c.args.tile c.side.ensures.tiled c.requires.tile).some_width

pub strip_at-strip-requires-clause-some_height : goal.strip_at-strip-requires-clause-some_height
strip_at-strip-requires-clause-some_height c =
    subst (λ (r : Rect). 0 < r.h) (sym c.requires.rect)
    (tiles_lie_inside c.args.tiling.now c.args.tile c.side.ensures.tiled c.requires.tile).some_height

pub returns-then-contains : goal.returns-then-contains
returns-then-contains c =
    let a = c.args in
    let tiling = a.tiling.now in
    let strip_is : c.strip_at-strip.result ≡ strip_of tiling a.tile a.edge =
    c.strip_at-strip.ensures ∙ ap (strip_at a.edge) c.requires.rect in
    let inside = subst (λ (r : Rect). IsInRect r a.p) strip_is (c.contains.ensures.0 c.if-contains.true) in
    subst (λ n. IsStripChanged tiling a.tile a.edge (λ q. q ≡ a.p) (λ _. a.value) a.values.now
    (set a.values.now n a.value)) (sym c.place_of.ensures.value)
    (set_strip tiling a.tile c.side.ensures.tiled c.requires.tile a.edge a.p a.value a.values.now c.requires.count
    inside)
