-- What the tactics leave open of `take_edge`.
use Rattle.std.proofs.Common.{◌≡◌, ◌+◌, ◌*◌, ◌-◌, ◌≤◌, ℕ, length, slice_index, ap, subst, ◌∙◌, arith}
use Rattle.std.proofs.lemmas.Nat.{mul-le}
use borrow.Rule.Slice.PartMut.{put_mid}
use Rattle.grid_core.specs.{declared.pixel.Pixel.Pixel, declared.rect.Rect.Rect, Rects.IsInRect}
use Rattle.grid_core.specs.Raster.{value_at}
use Rattle.row_scans.proofs.Replacing.{IsReplaced}
use Rattle.tiled_image.specs.{Rims.rank_of, Rims.strip_at, Rims.strip_of, Shown.cell_in}
use Rattle.tiled_image.proofs.CopiedStrips.{part_long, part_replaced}
use Rattle.tiled_image.proofs.OwnRims.{edge_taken}
use Rattle.tiled_image.proofs.Strips.{rank_below}
use Rattle.tiled_image.proofs.rims.taking.take_edge.Goals as goal

-- a pixel stands as far from the image's corner as its numbers say
from_corner : (x y w : ℕ) → (y - 0) * w + (x - 0) ≡ y * w + x
from_corner x y w =
    let row : y - 0 ≡ y = omega arith in
    let column : x - 0 ≡ x = omega arith in
    λ i. row i * w + column i

pub returns : goal.returns
returns c =
    let a = c.args in
    let tiling = a.tiling.now in
    let side = c.side-side.result in
    let start = c.rank_of.result * side in
    let start_is : start ≡ rank_of a.edge * tiling.side = λ i. c.rank_of.ensures i * c.side-side.ensures.value i in
    let rows : (rank_of a.edge + 1) * tiling.side ≤ 4 * tiling.side =
    mul-le (rank_of a.edge + 1) tiling.side 4 tiling.side (omega (arith, rank_below a.edge)) (omega arith) in
    let within : start + side ≤ length a.own.now =
    omega (arith, rows, start_is, c.side-side.ensures.value, c.requires.count) in
    let cells = c.copy_cells.new.cells in
    let long : length cells ≡ side = c.copy_cells.ensures.count ∙ part_long a.own.now start side within in
    let strip_is : c.strip_at-strip.result ≡ strip_of tiling a.tile a.edge =
    c.strip_at-strip.ensures ∙ ap (strip_at a.edge) c.rect.ensures.value in
    let new = put_mid start (start + side - start) a.own.now cells in
    edge_taken tiling a.image.now a.tile c.side-side.ensures.tiled c.requires.tile a.edge cells a.own.now new
    (subst (λ n. IsReplaced n cells a.own.now new) start_is (part_replaced start side cells a.own.now long within))
    (long ∙ c.side-side.ensures.value)
    (subst (λ (strip : Rect). (p : Pixel) → IsInRect strip p → cell_in strip cells p ≡ value_at a.image.now p) strip_is
    (λ p inside.
    c.copy_cells.ensures.inside p inside
    ∙ (λ i. slice_index (c.cells.ensures.values i) ((p.y - 0) * c.width.ensures.value i + (p.x - 0)))
    ∙ ap (slice_index a.image.now.cells) (from_corner p.x p.y a.image.now.width)))
