use Rattle.std.proofs.Common.{arith, inl, inr, sym, ◌∙◌}
use Rattle.std.proofs.lemmas.Bool.{false≢true}
use Rattle.raster_sweeps.proofs.Raised.{spread_twice, spread_with}
use Rattle.raster_sweeps.proofs.raising.raise_cross.Goals as goal

pub raise_two-first-requires-clause-within : goal.raise_two-first-requires-clause-within
raise_two-first-requires-clause-within c k here = c.requires.within k (inl here)

pub raise_two-second-requires-clause-within : goal.raise_two-second-requires-clause-within
raise_two-second-requires-clause-within c k here =
    omega (arith, c.requires.within k (inr here), c.raise_two-first.ensures.raised.filled)

pub returns-then-first : goal.returns-then-first
returns-then-first c =
    spread_with (spread_twice c.raise_two-first.ensures c.raise_two-second.ensures) (λ all. (c.if-first.true, all))
    (λ all. all.1)

pub returns-else-first : goal.returns-else-first
returns-else-first c =
    spread_with (spread_twice c.raise_two-first.ensures c.raise_two-second.ensures)
    (λ yes. absurd (false≢true (sym c.if-first.false ∙ yes))) (λ all. all.0)
