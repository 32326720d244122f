-- What the tactics leave open of `beyond_sides`.
use Rattle.std.proofs.Common.{◌+◌, ◌≤◌, true, false, nat_lt, ap, arith, subst, sym}
use Rattle.std.proofs.lemmas.Bool.{ltb-true}
use Rattle.grid_core.specs.{declared.rect.Rect.Rect, Tiles.max_tile_side}
use Rattle.border_queues.specs.Sides.{HaveLengths, at}
use Rattle.tile_work.specs.declared.work_table.along.BeyondSides.{BeyondSides}
use Rattle.tile_work.specs.Along.{AreBeyond, LeadsTo}
use Rattle.tile_work.proofs.work_table.along.beyond_sides.Goals.{After-rect-x}
use Rattle.tile_work.proofs.work_table.along.beyond_sides.Goals as goal

pub overflow_add-right : goal.overflow_add-right
overflow_add-right c = omega (arith, c.rect-x.ensures.fits.columns, c.width-width.ensures.tiled.size.width_within)

pub overflow_add-below : goal.overflow_add-below
overflow_add-below c = omega (arith, c.rect-x.ensures.fits.rows, c.width-width.ensures.tiled.size.height_within)

-- there are values along the sides of the rectangle
have_lengths : (c : After-rect-x) → HaveLengths c.args.tiling.now c.rect-x.result c.args.sides.now
have_lengths c =
    subst (λ (rect : Rect). HaveLengths c.args.tiling.now rect c.args.sides.now) (sym c.rect-x.ensures.value)
    c.requires.sides

-- a side has no more pixels than a tile may have there
few_columns : (c : After-rect-x) → c.rect-x.result.w ≤ max_tile_side
few_columns c =
    let is = ap (λ (rect : Rect). rect.w) c.rect-x.ensures.value in
    omega (arith, is, c.width-width.ensures.tiled.tile_side.at_most)

few_rows : (c : After-rect-x) → c.rect-x.result.h ≤ max_tile_side
few_rows c =
    let is = ap (λ (rect : Rect). rect.h) c.rect-x.ensures.value in
    omega (arith, is, c.width-width.ensures.tiled.tile_side.at_most)

pub look_beyond-requires-clause-count : goal.look_beyond-requires-clause-count
look_beyond-requires-clause-count c = few_columns (goal.at.look_beyond-requires-clause-count c).After-rect-x

pub look_beyond-requires-2-clause-count : goal.look_beyond-requires-2-clause-count
look_beyond-requires-2-clause-count c = few_rows (goal.at.look_beyond-requires-2-clause-count c).After-rect-x

pub look_beyond-requires-3-clause-count : goal.look_beyond-requires-3-clause-count
look_beyond-requires-3-clause-count c = few_rows (goal.at.look_beyond-requires-3-clause-count c).After-rect-x

pub look_beyond-requires-4-clause-count : goal.look_beyond-requires-4-clause-count
look_beyond-requires-4-clause-count c = few_columns (goal.at.look_beyond-requires-4-clause-count c).After-rect-x

pub look_beyond-requires-clause-first : goal.look_beyond-requires-clause-first
look_beyond-requires-clause-first c = λ goes_on.
    let fits = c.rect-x.ensures.fits in (
      omega (arith, fits.some_width, fits.columns),
      omega (arith, fits.some_height, fits.rows, c.saturating_sub-before_y.ensures),
    )

pub look_beyond-requires-clause-lengths : goal.look_beyond-requires-clause-lengths
look_beyond-requires-clause-lengths c = λ goes_on.
    (have_lengths (goal.at.look_beyond-requires-clause-lengths c).After-rect-x).above (ltb-true _ _ goes_on)

pub look_beyond-requires-2-clause-first : goal.look_beyond-requires-2-clause-first
look_beyond-requires-2-clause-first c = λ goes_on.
    let fits = c.rect-x.ensures.fits in (
      omega (arith, fits.some_width, fits.columns, c.saturating_sub-before_x.ensures),
      omega (arith, fits.some_height, fits.rows),
    )

pub look_beyond-requires-2-clause-lengths : goal.look_beyond-requires-2-clause-lengths
look_beyond-requires-2-clause-lengths c = λ goes_on.
    (have_lengths (goal.at.look_beyond-requires-2-clause-lengths c).After-rect-x).left (ltb-true _ _ goes_on)

pub look_beyond-requires-3-clause-first : goal.look_beyond-requires-3-clause-first
look_beyond-requires-3-clause-first c = λ goes_on.
    let fits = c.rect-x.ensures.fits in
    let right = ltb-true _ _ goes_on in (
      omega (arith, right, c.width-width.ensures.value),
      omega (arith, fits.some_height, fits.rows),
    )

pub look_beyond-requires-3-clause-lengths : goal.look_beyond-requires-3-clause-lengths
look_beyond-requires-3-clause-lengths c = λ goes_on.
    let right = ltb-true _ _ goes_on in
    (have_lengths (goal.at.look_beyond-requires-3-clause-lengths c).After-rect-x).right
    (omega (arith, right, c.width-width.ensures.value))

pub look_beyond-requires-4-clause-first : goal.look_beyond-requires-4-clause-first
look_beyond-requires-4-clause-first c = λ goes_on.
    let fits = c.rect-x.ensures.fits in
    let below = ltb-true _ _ goes_on in (
      omega (arith, fits.some_width, fits.columns),
      omega (arith, below, c.height-height.ensures.value),
    )

pub look_beyond-requires-4-clause-lengths : goal.look_beyond-requires-4-clause-lengths
look_beyond-requires-4-clause-lengths c = λ goes_on.
    let below = ltb-true _ _ goes_on in
    (have_lengths (goal.at.look_beyond-requires-4-clause-lengths c).After-rect-x).below
    (omega (arith, below, c.height-height.ensures.value))

pub returns-clause-beyond : goal.returns-clause-beyond
returns-clause-beyond c =
    let tiles = c.args.tiling.now in
    let sides = c.args.sides.now in
    let rect = c.rect-x.result in
    let x = rect.x in
    let y = rect.y in
    let w = rect.w in
    let h = rect.h in
    let beyond : BeyondSides = record {
      above = c.look_beyond.result;
      left = c.look_beyond-2.result;
      right = c.look_beyond-3.result;
      below = c.look_beyond-4.result;
    } in
    subst (λ (r : Rect). AreBeyond tiles r sides beyond) c.rect-x.ensures.value
    (record {
      above =
          subst (λ n. LeadsTo tiles (nat_lt 0 y) (at x n) false w sides.above beyond.above)
          c.saturating_sub-before_y.ensures c.look_beyond.ensures;
      left =
          subst (λ n. LeadsTo tiles (nat_lt 0 x) (at n y) true h sides.left beyond.left)
          c.saturating_sub-before_x.ensures c.look_beyond-2.ensures;
      right =
          subst (λ n. LeadsTo tiles (nat_lt (x + w) n) (at (x + w) y) true h sides.right beyond.right)
          c.width-width.ensures.value c.look_beyond-3.ensures;
      below =
          subst (λ n. LeadsTo tiles (nat_lt (y + h) n) (at x (y + h)) false w sides.below beyond.below)
          c.height-height.ensures.value c.look_beyond-4.ensures;
    })
