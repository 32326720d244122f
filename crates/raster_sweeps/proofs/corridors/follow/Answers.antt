use Rattle.std.proofs.Common.{arith}
use Rattle.raster_sweeps.proofs.Ways.{followed_nowhere, way_in_image}
use Rattle.raster_sweeps.proofs.corridors.follow.Goals as goal

pub returns-then-has_near : goal.returns-then-has_near
returns-then-has_near c conn = followed_nowhere c.requires.close c.requires.inside

pub returns-then-not-none_rises : goal.returns-then-not-none_rises
returns-then-not-none_rises c conn = followed_nowhere c.requires.close c.requires.inside

pub returns : goal.returns
returns c conn = followed_nowhere c.requires.close c.requires.inside

pub none_rises-requires-clause-within : goal.none_rises-requires-clause-within
none_rises-requires-clause-within c = (way_in_image c.requires.close c.in-Some.ensures.down).1

pub bounds-image-cell : goal.bounds-image-cell
bounds-image-cell c =
    let beside = (way_in_image c.requires.close c.in-Some.ensures.down).1 in
    omega (arith, beside)

pub none_rises-requires-2-clause-within : goal.none_rises-requires-2-clause-within
none_rises-requires-2-clause-within c = (way_in_image c.requires.close c.in-Some.ensures.down).0

pub none_rises-requires-3-clause-within : goal.none_rises-requires-3-clause-within
none_rises-requires-3-clause-within c = (way_in_image c.requires.close c.in-Some.ensures.up).0

pub returns-in_default : goal.returns-in_default
returns-in_default c conn = followed_nowhere c.requires.close c.requires.inside

pub follow_column-requires-clause-close : goal.follow_column-requires-clause-close
follow_column-requires-clause-close c = c.requires.close

pub follow_column-requires-clause-way : goal.follow_column-requires-clause-way
follow_column-requires-clause-way c = c.in-Some.ensures.down

pub follow_column-requires-clause-behind : goal.follow_column-requires-clause-behind
follow_column-requires-clause-behind c = record {
  last = c.none_rises-2.ensures.0 c.if-none_rises.true;
  beside = c.none_rises.ensures.0 c.if-not-none_rises.false;
}

pub follow_column-requires-then-none_rises-2-clause-close : goal.follow_column-requires-then-none_rises-2-clause-close
follow_column-requires-then-none_rises-2-clause-close c = c.requires.close

pub follow_column-requires-then-none_rises-2-clause-way : goal.follow_column-requires-then-none_rises-2-clause-way
follow_column-requires-then-none_rises-2-clause-way c = c.in-Some.ensures.up

pub follow_column-requires-then-none_rises-2-clause-behind : goal.follow_column-requires-then-none_rises-2-clause-behind
follow_column-requires-then-none_rises-2-clause-behind c = record {
  last = c.none_rises-3.ensures.0 c.if-none_rises-2.true;
  beside = c.none_rises.ensures.0 c.if-not-none_rises.false;
}
