use Rattle.std.proofs.Common.{◌≡◌, ◌*◌, ◌<◌, ◌≤◌, [], ◌∷◌, ◌++◌, length, get_or, subst, ap, arith, ◌∙◌}
use Rattle.grid_core.specs.{Path.Inside, Path.domain_of, Raster.index_of, Raster.value_at, Raster.with_value}
use Rattle.raster_sweeps.specs.Flooding.{Floods}
use Rattle.raster_sweeps.proofs.Flood.Cells.{written_sized}
use Rattle.raster_sweeps.proofs.Flood.Seeding.{inside_from_index, seeding_marks, seeding_passes}
use Rattle.raster_sweeps.proofs.thresholds.seed_level.Goals.{then-value-level+in_ok-mark, else-value-level}
use Rattle.raster_sweeps.proofs.thresholds.seed_level.Goals as goal

pub loop-i-preserved : goal.loop-i-preserved
loop-i-preserved c =
    let mask = c.args.source.now.mask.now in
    let marker = c.args.source.now.marker.now in
    let conn = c.args.source.now.conn in
    let level = c.args.level in
    let d = domain_of mask conn in
    let i = c.loop-i.i in
    let image = c.loop-i.image in
    let waiting = c.loop-i.waiting.items in
    let below = c.requires.below in
    let filled : length marker.cells ≡ marker.width * marker.height = c.cells-value-items.ensures.sized.filled in
    let items : c.cells-value-items.result.now ≡ marker.cells = c.cells-value-items.ensures.values in
    let in_cells : i < length marker.cells = omega (arith, c.loop-i-test.true, ap length items) in
    let value : get_or c.cells-value-items.result.now i 0 ≡ get_or marker.cells i 0 = ap (λ xs. get_or xs i 0) items in
    elim c.if-value-level.branch [
      | then-value-level+in_ok-mark w ↦
          let q = w.pixel_at.result in
          let column : q.x < mask.width = omega (arith, w.pixel_at.ensures.column, c.width-width.ensures.value) in
          let place : index_of mask.width q ≡ i =
          subst (λ v. index_of v q ≡ i) c.width-width.ensures.value w.pixel_at.ensures.place in
          let within : index_of mask.width q < mask.width * mask.height =
          omega (
            arith,
            place,
            in_cells,
            filled,
            ap (λ v. v * marker.height) below.width,
            ap (λ v. mask.width * v) below.height,
          ) in
          let inside : Inside d q = inside_from_index d q column within in
          let seen : value_at marker q ≡ get_or marker.cells i 0 =
          ap (λ v. get_or marker.cells (index_of v q) 0) below.width ∙ ap (λ k. get_or marker.cells k 0) place in
          let seed : level ≤ value_at marker q = omega (arith, seen, value, w.if-value-level.true) in
          let drawn : c.if-value-level.image ≡ with_value image q level = w.image-is ∙ w.mark.ensures.image in
          let listed : c.if-value-level.waiting.items ≡ waiting ++ q ∷ [] =
          ap (λ v. v.items) w.waiting-is ∙ w.in_ok-mark.ensures.waiting in
          record {
            below = c.loop-i.invariant.below;
            sized = rw drawn (written_sized q level c.loop-i.invariant.sized);
            flooding =
                rw (drawn, listed) (seeding_marks conn mask marker level i image waiting below filled
                c.loop-i.invariant.sized c.loop-i.invariant.flooding q inside place seed);
          }
      | else-value-level w ↦
          let drawn : c.if-value-level.image ≡ image = w.image-is in
          let listed : c.if-value-level.waiting.items ≡ waiting = ap (λ v. v.items) w.waiting-is in
          let low : get_or marker.cells i 0 < level = omega (arith, value, w.if-value-level.false) in
          record {
            below = c.loop-i.invariant.below;
            sized = rw drawn c.loop-i.invariant.sized;
            flooding =
                rw (drawn, listed) (seeding_passes conn mask marker level i image waiting below filled
                c.loop-i.invariant.sized c.loop-i.invariant.flooding low);
          }
    ]

pub returns : goal.returns
returns c =
    let mask = c.args.source.now.mask.now in
    let marker = c.args.source.now.marker.now in
    let below = c.requires.below in
    let all : c.loop-i.i ≡ mask.width * mask.height =
    omega (
      arith,
      c.loop-i-test.false,
      c.loop-i.auto.i-end,
      ap length c.cells-value-items.ensures.values,
      c.cells-value-items.ensures.sized.filled,
      ap (λ v. v * marker.height) below.width,
      ap (λ v. mask.width * v) below.height,
    ) in
    subst (λ n. Floods c.args.source.now c.args.level n c.loop-i.image c.loop-i.waiting.items) all c.loop-i.invariant
