-- What the tactics leave open of `place_of`.
use Rattle.std.proofs.Common.{◌≡◌, ◌<◌, ap, sym, subst, ◌∙◌, arith}
use Rattle.grid_core.specs.{declared.rect.Rect.Rect, Rects.IsInRect}
use Rattle.grid_core.proofs.Tilings.{tiles_lie_inside}
use Rattle.tiled_image.specs.Rims.{strip_at, strip_of}
use Rattle.tiled_image.proofs.Strips.{in_strip_room, place_is, start_small, strip_ends}
use Rattle.tiled_image.proofs.rims.place_of.Goals as goal

pub strip_at-strip-requires-clause-some_width : goal.strip_at-strip-requires-clause-some_width
strip_at-strip-requires-clause-some_width c =
    subst (λ (r : Rect). 0 < r.w) (sym c.requires.rect)
    (tiles_lie_inside c.args.tiling.now c.args.tile c.side.ensures.tiled c.requires.tile).some_width

pub strip_at-strip-requires-clause-some_height : goal.strip_at-strip-requires-clause-some_height
strip_at-strip-requires-clause-some_height c =
    subst (λ (r : Rect). 0 < r.h) (sym c.requires.rect)
    (tiles_lie_inside c.args.tiling.now c.args.tile c.side.ensures.tiled c.requires.tile).some_height

pub overflow_add-result : goal.overflow_add-result
overflow_add-result c =
    let a = c.args in
    let tiling = a.tiling.now in
    let strip_is : c.strip_at-strip.result ≡ strip_of tiling a.tile a.edge =
    c.strip_at-strip.ensures ∙ ap (strip_at a.edge) c.requires.rect in
    let inside = subst (λ (r : Rect). IsInRect (strip_at a.edge r) a.p) c.requires.rect c.requires.at in
    omega (
      arith,
      place_is tiling a.tile a.edge c.strip_at-strip.result a.p c.start_of.result strip_is c.start_of.ensures inside,
      in_strip_room tiling a.tile c.side.ensures.tiled c.requires.tile a.edge a.p inside,
      start_small tiling a.tile c.side.ensures.tiled c.requires.tile a.edge,
    )

pub returns-clause-value : goal.returns-clause-value
returns-clause-value c =
    let a = c.args in
    place_is a.tiling.now a.tile a.edge c.strip_at-strip.result a.p c.start_of.result
    (c.strip_at-strip.ensures ∙ ap (strip_at a.edge) c.requires.rect) c.start_of.ensures
    (subst (λ (r : Rect). IsInRect (strip_at a.edge r) a.p) c.requires.rect c.requires.at)

pub returns-clause-room : goal.returns-clause-room
returns-clause-room c =
    let a = c.args in
    let tiling = a.tiling.now in
    let strip_is : c.strip_at-strip.result ≡ strip_of tiling a.tile a.edge =
    c.strip_at-strip.ensures ∙ ap (strip_at a.edge) c.requires.rect in
    let inside = subst (λ (r : Rect). IsInRect (strip_at a.edge r) a.p) c.requires.rect c.requires.at in
    omega (
      arith,
      place_is tiling a.tile a.edge c.strip_at-strip.result a.p c.start_of.result strip_is c.start_of.ensures inside,
      in_strip_room tiling a.tile c.side.ensures.tiled c.requires.tile a.edge a.p inside,
      strip_ends tiling a.tile c.side.ensures.tiled c.requires.tile a.edge,
    )
