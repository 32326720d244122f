use Rattle.std.proofs.Common.{◌≡◌, ◌+◌, ◌<◌, false, true, IsTrue, refl, arith}
use Rattle.grid_core.specs.{Neighbours.apart, Raster.value_at, Rects.domain_in, Rects.part}
use Rattle.raster_sweeps.proofs.ImageRows.{aside_closed, closed_aside, beside_closed, closed_beside, row_closed}
use Rattle.raster_sweeps.proofs.ImageRows.{last_row_closed, own_of_row, down_of_row, up_of_row}
use Rattle.raster_sweeps.proofs.closed.is_row_closed.Goals as goal

pub returns-then-not-is_closed_along : goal.returns-then-not-is_closed_along
returns-then-not-is_closed_along c =
    let d = domain_in c.args.rect c.args.conn in
    let mask = part c.args.rect (value_at c.args.mask.now) in
    let image = part c.args.rect (value_at c.args.image.now) in (
      λ yes. absurd (let no : false ≡ true = yes in cc),
      λ closed.
          let within : IsTrue c.is_closed_along.result =
          c.is_closed_along.ensures.1 (closed_aside d c.row_in-row.ensures c.row_in-mask_row.ensures
          c.row_in-row.ensures refl c.requires.row (own_of_row d mask image c.args.y closed)) in
          absurd cc,
    )

pub returns-then-y-rect : goal.returns-then-y-rect
returns-then-y-rect c =
    let d = domain_in c.args.rect c.args.conn in
    let mask = part c.args.rect (value_at c.args.mask.now) in
    let image = part c.args.rect (value_at c.args.image.now) in (
      λ yes.
          last_row_closed d mask image c.args.y c.if-y-rect.true
          (aside_closed d c.row_in-row.ensures c.row_in-mask_row.ensures c.row_in-row.ensures refl
          (c.is_closed_along.ensures.0 c.if-not-is_closed_along.false)),
      λ closed. refl,
    )

pub returns-then-is_closed_to : goal.returns-then-is_closed_to
returns-then-is_closed_to c =
    let d = domain_in c.args.rect c.args.conn in
    let mask = part c.args.rect (value_at c.args.mask.now) in
    let image = part c.args.rect (value_at c.args.image.now) in
    let y = c.args.y in
    let row = c.row_in-row.ensures in
    let mask_row = c.row_in-mask_row.ensures in
    let below = c.row_in-below.ensures in
    let down : apart y (y + 1) ≡ 1 = omega arith in
    let up : apart (y + 1) y ≡ 1 = omega arith in
    let inside : y + 1 < d.height = omega (arith, c.requires.row, c.if-y-rect.false) in (
      λ yes.
          row_closed d mask image y
          (aside_closed d row mask_row row refl (c.is_closed_along.ensures.0 c.if-not-is_closed_along.false))
          (beside_closed d row c.row_in-mask_below.ensures below down
          (c.is_closed_to.ensures.0 c.if-is_closed_to.true))
          (beside_closed d below mask_row row up (c.is_closed_to-then-is_closed_to.ensures.0 yes)),
      λ closed.
          c.is_closed_to-then-is_closed_to.ensures.1
          (closed_beside d below mask_row row up inside c.requires.row (up_of_row d mask image y closed)),
    )

pub returns-else-is_closed_to : goal.returns-else-is_closed_to
returns-else-is_closed_to c =
    let d = domain_in c.args.rect c.args.conn in
    let mask = part c.args.rect (value_at c.args.mask.now) in
    let image = part c.args.rect (value_at c.args.image.now) in
    let y = c.args.y in
    let down : apart y (y + 1) ≡ 1 = omega arith in
    let inside : y + 1 < d.height = omega (arith, c.requires.row, c.if-y-rect.false) in (
      λ yes. absurd (let both : IsTrue c.is_closed_to.result = yes in cc),
      λ closed.
          c.is_closed_to.ensures.1
          (closed_beside d c.row_in-row.ensures c.row_in-mask_below.ensures c.row_in-below.ensures down c.requires.row
          inside (down_of_row d mask image y closed)),
    )
