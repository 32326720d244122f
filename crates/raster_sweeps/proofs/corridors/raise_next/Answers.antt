use Rattle.std.proofs.Common.{arith}
use Rattle.raster_sweeps.proofs.Ways.{has_passed, match_map, way_within}
use Rattle.raster_sweeps.proofs.corridors.raise_next.Goals as goal

pub bounds-image-cell : goal.bounds-image-cell
bounds-image-cell c = let within = way_within c.requires.close c.requires.way in omega (arith, within.0)

pub overflow_sub-cell : goal.overflow_sub-cell
overflow_sub-cell c = let within = way_within c.requires.close c.requires.way in omega (arith, within.1)

pub raise_alone-requires-clause-some : goal.raise_alone-requires-clause-some
raise_alone-requires-clause-some c = (way_within c.requires.close c.requires.way).1

pub raise_alone-requires-clause-within : goal.raise_alone-requires-clause-within
raise_alone-requires-clause-within c = (way_within c.requires.close c.requires.way).2

pub returns : goal.returns
returns c =
    match_map (has_passed c.requires.close c.requires.way c.requires.behind) (λ stays. stays) c.raise_alone.result
    c.raise_alone.ensures.risen
