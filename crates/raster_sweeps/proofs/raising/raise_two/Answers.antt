use Rattle.std.proofs.Common.{arith, inl, inr, sym, ◌∙◌}
use Rattle.std.proofs.lemmas.Bool.{false≢true}
use Rattle.raster_sweeps.proofs.Raised.{spread_twice, spread_with}
use Rattle.raster_sweeps.proofs.raising.raise_two.Goals as goal

pub raise_one-first-requires-clause-within : goal.raise_one-first-requires-clause-within
raise_one-first-requires-clause-within c k here = c.requires.within k (inl here)

pub raise_one-second-requires-clause-within : goal.raise_one-second-requires-clause-within
raise_one-second-requires-clause-within c k here =
    omega (arith, c.requires.within k (inr here), c.raise_one-first.ensures.raised.filled)

pub returns-then-first : goal.returns-then-first
returns-then-first c =
    spread_with (spread_twice c.raise_one-first.ensures c.raise_one-second.ensures) (λ all. (c.if-first.true, all))
    (λ all. all.1)

pub returns-else-first : goal.returns-else-first
returns-else-first c =
    spread_with (spread_twice c.raise_one-first.ensures c.raise_one-second.ensures)
    (λ yes. absurd (false≢true (sym c.if-first.false ∙ yes))) (λ all. all.0)
