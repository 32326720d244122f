use Rattle.std.proofs.Common.{arith, inl, inr, IsTrue}
use Rattle.raster_sweeps.proofs.Raised.{spread_twice, spread_with}
use Rattle.raster_sweeps.proofs.raising.raise_around.Goals.{then-above, else-above}
use Rattle.raster_sweeps.proofs.raising.raise_around.Goals as goal

pub raise-above-requires-clause-within : goal.raise-above-requires-clause-within
raise-above-requires-clause-within c k here = c.requires.within k (inl here)

pub raise-beside-requires-clause-within : goal.raise-beside-requires-clause-within
raise-beside-requires-clause-within c k here =
    omega (arith, c.requires.within k (inr (inl here)), c.raise-above.ensures.raised.filled)

pub raise-below-requires-clause-within : goal.raise-below-requires-clause-within
raise-below-requires-clause-within c k here =
    omega (
      arith,
      c.requires.within k (inr (inr here)),
      c.raise-above.ensures.raised.filled,
      c.raise-beside.ensures.raised.filled,
    )

pub returns-then-beside : goal.returns-then-beside
returns-then-beside c =
    let lower = spread_twice c.raise-beside.ensures c.raise-below.ensures in
    spread_with (spread_twice c.raise-above.ensures lower) (λ all. (c.if-beside.true.0, (c.if-beside.true.1, all)))
    (λ all. all.1.1)

pub returns-else-beside : goal.returns-else-beside
returns-else-beside c =
    let some : IsTrue c.raise-above.result × (IsTrue c.raise-beside.result × IsTrue c.raise-below.result) → ⊥ =
    λ all. elim c.if-beside.either [ inl not ↦ cc (all.1.0, not.1) | inr not ↦ cc (all.0, not) ] in
    let lower = spread_twice c.raise-beside.ensures c.raise-below.ensures in
    spread_with (spread_twice c.raise-above.ensures lower)
    (λ yes. absurd (elim c.if-above.branch [
      | then-above w ↦ elim c.if-beside.either [ inl not ↦ cc (yes, w.t-22-is, not.1) | inr not ↦ cc ]
      | else-above w ↦ cc (yes, w.t-22-is)
    ]))
    (λ all. absurd (some all))
