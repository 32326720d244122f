-- What the tactics leave open of `look_beyond`.
use Rattle.std.proofs.Common.{arith, refl}
use Rattle.std.proofs.lemmas.Bool.{both_ways}
use Rattle.tile_work.proofs.work_table.along.look_beyond.Goals as goal

pub returns-then-not-goes_on : goal.returns-then-not-goes_on
returns-then-not-goes_on c = record {
  within = c.requires.from;
  tile_is = λ goes_on. absurd (both_ways _ c.if-not-goes_on.true goes_on);
  first_is = refl;
  is_column_is = refl;
  some = λ more. absurd (omega arith);
  closed = λ goes_on none. absurd (both_ways _ c.if-not-goes_on.true goes_on);
}

pub is_open-requires : goal.is_open-requires
is_open-requires c = c.requires.lengths c.if-not-goes_on.false

pub overflow_cast-told : goal.overflow_cast-told
overflow_cast-told c = omega (arith, c.requires.count)

pub tile_of-requires : goal.tile_of-requires
tile_of-requires c = c.requires.first c.if-not-goes_on.false
