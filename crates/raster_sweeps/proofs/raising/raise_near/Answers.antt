use Rattle.std.proofs.Common.{◌∙◌, arith}
use Rattle.raster_sweeps.proofs.Beside.{from_near, on_at, on_twice, on_wide, stands_still, stands_within, to_near}
use Rattle.raster_sweeps.proofs.raising.raise_near.Goals as goal

pub overflow_mul-cell : goal.overflow_mul-cell
overflow_mul-cell c = omega (arith, stands_within c.requires.at)

pub overflow_add-cell : goal.overflow_add-cell
overflow_add-cell c = omega (arith, stands_within c.requires.at)

pub bounds-image-cell : goal.bounds-image-cell
bounds-image-cell c = (stands_within c.requires.at).0

pub raise_three_above-requires-clause-at : goal.raise_three_above-requires-clause-at
raise_three_above-requires-clause-at c = record {
  has = c.requires.at.has;
  inside = c.requires.at.inside;
  place = c.requires.at.place;
  room = omega (arith, c.requires.at.room);
}

pub raise_three-requires : goal.raise_three-requires
raise_three-requires c = stands_still c.requires.at 3 c.raise_three_above.ensures (omega arith)

pub raise_three_below-requires-clause-width : goal.raise_three_below-requires-clause-width
raise_three_below-requires-clause-width c =
    c.raise_three.ensures.width ∙ c.raise_three_above.ensures.width ∙ c.requires.width

pub raise_three_below-requires-clause-at : goal.raise_three_below-requires-clause-at
raise_three_below-requires-clause-at c =
    let second = stands_still c.requires.at 6 c.raise_three_above.ensures (omega arith) in
    stands_still second 3 c.raise_three.ensures (omega arith)

pub returns : goal.returns
returns c =
    let rect = c.args.rect in
    let wide = c.requires.width in
    let second = c.raise_three_above.ensures.width ∙ wide in
    let last = c.raise_three.ensures.width ∙ second in
    on_at (on_twice
    (on_twice (on_wide rect wide c.raise_three_above.ensures) (on_wide rect second c.raise_three.ensures))
    (on_wide rect last c.raise_three_below.ensures))
    (to_near rect c.args.width c.args.p) (from_near rect c.args.width c.args.p)
