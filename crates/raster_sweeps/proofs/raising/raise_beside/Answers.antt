use Rattle.std.proofs.Common.{◌∙◌, arith}
use Rattle.raster_sweeps.proofs.Beside.{from_four, on_at, on_twice, on_wide, stands_still, stands_within, to_four}
use Rattle.raster_sweeps.proofs.raising.raise_beside.Goals as goal

pub overflow_mul-cell : goal.overflow_mul-cell
overflow_mul-cell c = omega (arith, stands_within c.requires.at)

pub overflow_add-cell : goal.overflow_add-cell
overflow_add-cell c = omega (arith, stands_within c.requires.at)

pub bounds-image-cell : goal.bounds-image-cell
bounds-image-cell c = (stands_within c.requires.at).0

pub raise_above-requires-clause-at : goal.raise_above-requires-clause-at
raise_above-requires-clause-at c = record {
  has = c.requires.at.has;
  inside = c.requires.at.inside;
  place = c.requires.at.place;
  room = omega (arith, c.requires.at.room);
}

pub raise_left-requires : goal.raise_left-requires
raise_left-requires c = stands_still c.requires.at 1 c.raise_above.ensures (omega arith)

pub raise_right-requires : goal.raise_right-requires
raise_right-requires c =
    stands_still (stands_still c.requires.at 2 c.raise_above.ensures (omega arith)) 1 c.raise_left.ensures
    (omega arith)

pub raise_below-requires-clause-width : goal.raise_below-requires-clause-width
raise_below-requires-clause-width c =
    c.raise_right.ensures.width ∙ c.raise_left.ensures.width ∙ c.raise_above.ensures.width ∙ c.requires.width

pub raise_below-requires-clause-at : goal.raise_below-requires-clause-at
raise_below-requires-clause-at c =
    let second = stands_still c.requires.at 3 c.raise_above.ensures (omega arith) in
    let third = stands_still second 2 c.raise_left.ensures (omega arith) in
    stands_still third 1 c.raise_right.ensures (omega arith)

pub returns : goal.returns
returns c =
    let rect = c.args.rect in
    let wide = c.requires.width in
    let second = c.raise_above.ensures.width ∙ wide in
    let third = c.raise_left.ensures.width ∙ second in
    let last = c.raise_right.ensures.width ∙ third in
    on_at (on_twice
    (on_twice (on_wide rect wide c.raise_above.ensures) (on_wide rect second c.raise_left.ensures))
    (on_twice (on_wide rect third c.raise_right.ensures) (on_wide rect last c.raise_below.ensures)))
    (to_four rect c.args.width c.args.p) (from_four rect c.args.width c.args.p)
