-- What the tactics leave open of `fill_from`.
use Rattle.std.proofs.Common.{◌≡◌, ◌+◌, ◌*◌, ◌<◌, ◌≤◌, ℕ, List, length, slice_range, ap, sym, subst, ◌∙◌, arith}
use Rattle.std.proofs.lemmas.Bool.{iff_false}
use Rattle.grid_core.specs.{declared.bounds.Bounds.Bounds, declared.pixel.Pixel.Pixel, declared.rect.Rect.Rect}
use Rattle.grid_core.specs.Bounds.{AreEmpty, bounds_of, intersection, rect_within}
use Rattle.grid_core.specs.{Rects.IsInRect, Rects.RectFits, Tiles.Tiles, Tiles.rect_of}
use Rattle.grid_core.proofs.Tilings.{tiles_lie_inside}
use Rattle.border_queues.specs.Around.{around_of}
use Rattle.tiled_image.specs.declared.rims.Edge.{Edge}
use Rattle.tiled_image.specs.{Rims.IsEdgeBeside, Rims.StandApart, Rims.start_of, Rims.strip_at, Rims.strip_of}
use Rattle.tiled_image.specs.Shown.{CanCopy, IsStripCopied, as_image, cell_in}
use Rattle.tiled_image.proofs.CopiedStrips.{part_long}
use Rattle.tiled_image.proofs.RingTiles.{beside_has, border_fits, can_copy_common, common, common_shown, none_shown}
use Rattle.tiled_image.proofs.RingTiles.{some_in}
use Rattle.tiled_image.proofs.StripCopies.{strip_cell}
use Rattle.tiled_image.proofs.Strips.{start_small, strip_ends, tile_strip_lies, tile_strip_small}
use Rattle.tiled_image.proofs.Strips.{tile_strip_within, tiles_apart}
use Rattle.tiled_image.proofs.rims.fill_from.Goals as goal

-- the bounds of the pixels that a strip and a rectangle have both
meet_is : (strip around : Rect) (own other meet : Bounds) → own ≡ bounds_of strip → other ≡ bounds_of around
    → meet ≡ intersection own other → meet ≡ intersection (bounds_of strip) (bounds_of around)
meet_is strip around own other meet own_is other_is is = is ∙ (λ i. intersection (own_is i) (other_is i))

-- the strip has each pixel of its tile that lies around the other one
strip_has : (tiling : Tiles) (tile other : ℕ) (rect own around : Rect) (edge : Edge) → rect ≡ rect_of tiling other
    → own ≡ rect_of tiling tile → around ≡ around_of tiling tile → IsEdgeBeside rect own edge → (p : Pixel)
    → IsInRect around p → IsInRect (rect_of tiling other) p → IsInRect (strip_of tiling other edge) p
strip_has tiling tile other rect own around edge rect_is own_is around_is at p near inside =
    let there : IsEdgeBeside (rect_of tiling other) (rect_of tiling tile) edge =
    subst (λ (r : Rect). IsEdgeBeside (rect_of tiling other) r edge) own_is
    (subst (λ (r : Rect). IsEdgeBeside r own edge) rect_is at) in
    beside_has tiling.width tiling.height (rect_of tiling other) (rect_of tiling tile) edge there p
    (subst (λ (r : Rect). IsInRect r p) around_is near) inside

pub edge_beside-edge-requires : goal.edge_beside-edge-requires
edge_beside-edge-requires c =
    let tiling = c.args.tiling.now in
    subst (λ (r : Rect). StandApart r c.rect.result) (sym c.rect-rect.ensures.value)
    (subst (λ (r : Rect). StandApart (rect_of tiling c.args.other) r) (sym c.rect.ensures.value)
    (tiles_apart tiling c.args.other c.args.tile c.side-side.ensures.tiled c.requires.other c.requires.tile
    c.requires.differ))

pub strip_at-strip-requires-clause-some_width : goal.strip_at-strip-requires-clause-some_width
strip_at-strip-requires-clause-some_width c = c.rect-rect.ensures.fits.some_width

pub strip_at-strip-requires-clause-some_height : goal.strip_at-strip-requires-clause-some_height
strip_at-strip-requires-clause-some_height c = c.rect-rect.ensures.fits.some_height

pub strip_at-strip-requires-clause-columns : goal.strip_at-strip-requires-clause-columns
strip_at-strip-requires-clause-columns c =
    omega (arith, c.rect-rect.ensures.fits.columns, c.side-side.ensures.tiled.size.width_within)

pub strip_at-strip-requires-clause-rows : goal.strip_at-strip-requires-clause-rows
strip_at-strip-requires-clause-rows c =
    omega (arith, c.rect-rect.ensures.fits.rows, c.side-side.ensures.tiled.size.height_within)

pub of-bounds-requires-clause-columns : goal.of-bounds-requires-clause-columns
of-bounds-requires-clause-columns c =
    let strip_is : c.strip_at-strip.result ≡ strip_of c.args.tiling.now c.args.other c.edge_beside-edge.result =
    c.strip_at-strip.ensures ∙ ap (strip_at c.edge_beside-edge.result) c.rect-rect.ensures.value in
    subst (λ (r : Rect). r.x + r.w < 4294967296) (sym strip_is)
    (tile_strip_small c.args.tiling.now c.args.other c.side-side.ensures.tiled c.requires.other
    c.edge_beside-edge.result).0

pub of-bounds-requires-clause-rows : goal.of-bounds-requires-clause-rows
of-bounds-requires-clause-rows c =
    let strip_is : c.strip_at-strip.result ≡ strip_of c.args.tiling.now c.args.other c.edge_beside-edge.result =
    c.strip_at-strip.ensures ∙ ap (strip_at c.edge_beside-edge.result) c.rect-rect.ensures.value in
    subst (λ (r : Rect). r.y + r.h < 4294967296) (sym strip_is)
    (tile_strip_small c.args.tiling.now c.args.other c.side-side.ensures.tiled c.requires.other
    c.edge_beside-edge.result).1

pub of-requires-clause-columns : goal.of-requires-clause-columns
of-requires-clause-columns c =
    let a = c.args in
    let tiling = a.tiling.now in
    let fits = border_fits tiling.width tiling.height (rect_of tiling a.tile)
    (tiles_lie_inside tiling a.tile c.side-side.ensures.tiled c.requires.tile) in
    subst (λ (r : Rect). r.x + r.w < 4294967296) (sym c.requires.around)
    (omega (arith, fits.columns, c.side-side.ensures.tiled.size.width_within))

pub of-requires-clause-rows : goal.of-requires-clause-rows
of-requires-clause-rows c =
    let a = c.args in
    let tiling = a.tiling.now in
    let fits = border_fits tiling.width tiling.height (rect_of tiling a.tile)
    (tiles_lie_inside tiling a.tile c.side-side.ensures.tiled c.requires.tile) in
    subst (λ (r : Rect). r.y + r.h < 4294967296) (sym c.requires.around)
    (omega (arith, fits.rows, c.side-side.ensures.tiled.size.height_within))

pub returns-then-is_empty : goal.returns-then-is_empty
returns-then-is_empty c image are =
    let a = c.args in
    let tiling = a.tiling.now in
    let edge = c.edge_beside-edge.result in
    let strip_is : c.strip_at-strip.result ≡ strip_of tiling a.other edge =
    c.strip_at-strip.ensures ∙ ap (strip_at edge) c.rect-rect.ensures.value in
    let meet = meet_is c.strip_at-strip.result a.around c.of-bounds.result c.of.result c.intersection-common.result
    c.of-bounds.ensures c.of.ensures c.intersection-common.ensures in
    let empty : AreEmpty (intersection (bounds_of (strip_of tiling a.other edge)) (bounds_of a.around)) =
    subst (λ (r : Rect). AreEmpty (intersection (bounds_of r) (bounds_of a.around))) strip_is
    (subst AreEmpty meet (c.is_empty.ensures.0 c.if-is_empty.true)) in
    none_shown (rect_of tiling a.other) (strip_of tiling a.other edge) a.around
    (tile_strip_lies tiling a.other c.side-side.ensures.tiled c.requires.other edge)
    (strip_has tiling a.tile a.other c.rect-rect.result c.rect.result a.around edge c.rect-rect.ensures.value
    c.rect.ensures.value c.requires.around c.edge_beside-edge.ensures) empty image a.cells.now

pub start_of-start-requires : goal.start_of-start-requires
start_of-start-requires c = c.requires.other

pub overflow_add-end : goal.overflow_add-end
overflow_add-end c =
    omega (
      arith,
      start_small c.args.tiling.now c.args.other c.side-side.ensures.tiled c.requires.other c.edge_beside-edge.result,
      c.start_of-start.ensures,
      c.side-side.ensures.value,
    )

pub rect-requires-2-clause-columns : goal.rect-requires-2-clause-columns
rect-requires-2-clause-columns c =
    omega (arith, (some_in c.intersection-common.result (iff_false c.is_empty.ensures c.if-is_empty.false)).0)

pub rect-requires-2-clause-rows : goal.rect-requires-2-clause-rows
rect-requires-2-clause-rows c =
    omega (arith, (some_in c.intersection-common.result (iff_false c.is_empty.ensures c.if-is_empty.false)).1)

pub offset_bounds-values-start : goal.offset_bounds-values-start
offset_bounds-values-start c =
    omega (
      arith,
      start_small c.args.tiling.now c.args.other c.side-side.ensures.tiled c.requires.other c.edge_beside-edge.result,
      c.start_of-start.ensures,
    )

pub slice_bounds-copy_cells-count : goal.slice_bounds-copy_cells-count
slice_bounds-copy_cells-count c = omega arith

pub slice_bounds-copy_cells-start : goal.slice_bounds-copy_cells-start
slice_bounds-copy_cells-start c =
    let start = c.start_of-start.result in
    let begins : start ≤ start + c.side-side.result = omega arith in
    begins

pub slice_bounds-copy_cells-end : goal.slice_bounds-copy_cells-end
slice_bounds-copy_cells-end c =
    let within : c.start_of-start.result + c.side-side.result ≤ length c.args.values.now =
    omega (
      arith,
      strip_ends c.args.tiling.now c.args.other c.side-side.ensures.tiled c.requires.other c.edge_beside-edge.result,
      c.start_of-start.ensures,
      c.side-side.ensures.value,
      c.requires.count,
    ) in
    within

pub copy_cells-requires-clause-strip : goal.copy_cells-requires-clause-strip
copy_cells-requires-clause-strip c =
    let a = c.args in
    let tiling = a.tiling.now in
    let strip = c.strip_at-strip.result in
    let start = c.start_of-start.result in
    let cells = slice_range a.values.now start (start + c.side-side.result) in
    let meet = meet_is strip a.around c.of-bounds.result c.of.result c.intersection-common.result c.of-bounds.ensures
    c.of.ensures c.intersection-common.ensures in
    let fits : RectFits tiling.width tiling.height a.around =
    subst (λ (r : Rect). RectFits tiling.width tiling.height r) (sym c.requires.around)
    (border_fits tiling.width tiling.height (rect_of tiling a.tile)
    (tiles_lie_inside tiling a.tile c.side-side.ensures.tiled c.requires.tile)) in
    subst (λ (r : Rect). CanCopy r (as_image strip cells) strip a.around (length a.cells.now))
    (sym (c.rect-2.ensures ∙ ap rect_within meet))
    (can_copy_common strip a.around cells tiling.width tiling.height (length a.cells.now)
    (λ empty. iff_false c.is_empty.ensures c.if-is_empty.false (subst AreEmpty (sym meet) empty)) fits
    c.side-side.ensures.tiled.size c.requires.room)

pub copy_cells-requires-clause-room : goal.copy_cells-requires-clause-room
copy_cells-requires-clause-room c =
    let a = c.args in
    let tiling = a.tiling.now in
    let edge = c.edge_beside-edge.result in
    let strip = c.strip_at-strip.result in
    let start = c.start_of-start.result in
    let side = c.side-side.result in
    let strip_is : strip ≡ strip_of tiling a.other edge =
    c.strip_at-strip.ensures ∙ ap (strip_at edge) c.rect-rect.ensures.value in
    let within : start + side ≤ length a.values.now =
    omega (
      arith,
      strip_ends tiling a.other c.side-side.ensures.tiled c.requires.other edge,
      c.start_of-start.ensures,
      c.side-side.ensures.value,
      c.requires.count,
    ) in
    let long = part_long a.values.now start side within ∙ c.side-side.ensures.value in
    let room = tile_strip_within tiling a.other c.side-side.ensures.tiled c.requires.other edge in
    subst (λ n. strip.w * strip.h ≤ n) (sym long)
    (subst (λ (r : Rect). r.w * r.h ≤ tiling.side) (sym strip_is) room)

pub returns : goal.returns
returns c image are =
    let a = c.args in
    let tiling = a.tiling.now in
    let edge = c.edge_beside-edge.result in
    let strip = c.strip_at-strip.result in
    let own = strip_of tiling a.other edge in
    let start = c.start_of-start.result in
    let cells = slice_range a.values.now start (start + c.side-side.result) in
    let now = a.cells.now in
    let new = c.copy_cells.new.cells in
    let strip_is : strip ≡ own = c.strip_at-strip.ensures ∙ ap (strip_at edge) c.rect-rect.ensures.value in
    let meet = meet_is strip a.around c.of-bounds.result c.of.result c.intersection-common.result c.of-bounds.ensures
    c.of.ensures c.intersection-common.ensures in
    let cells_are : cells
    ≡ slice_range a.values.now (start_of tiling a.other edge) (start_of tiling a.other edge + tiling.side) =
    λ i. slice_range a.values.now (c.start_of-start.ensures i) (c.start_of-start.ensures i
    + c.side-side.ensures.value i) in
    let copied = subst (λ (xs : List ℕ). IsStripCopied (common own a.around) (cell_in own xs) a.around now new)
    cells_are (subst (λ (r : Rect). IsStripCopied (common r a.around) (cell_in r cells) a.around now new) strip_is
    (subst (λ (r : Rect). IsStripCopied r (cell_in strip cells) a.around now new)
    (c.rect-2.ensures ∙ ap rect_within meet) c.copy_cells.ensures)) in
    common_shown (rect_of tiling a.other) own a.around
    (tile_strip_lies tiling a.other c.side-side.ensures.tiled c.requires.other edge)
    (strip_has tiling a.tile a.other c.rect-rect.result c.rect.result a.around edge c.rect-rect.ensures.value
    c.rect.ensures.value c.requires.around c.edge_beside-edge.ensures) image
    (cell_in own (slice_range a.values.now (start_of tiling a.other edge)
    (start_of tiling a.other edge + tiling.side))) now new
    (strip_cell tiling a.other c.side-side.ensures.tiled c.requires.other edge image a.values.now are) copied
