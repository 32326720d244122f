use Rattle.std.proofs.Common.{inl, inr}
use Rattle.std.proofs.lemmas.Bool.{false≢true}
use Rattle.raster_sweeps.proofs.open_cells.can_raise_around.Goals as goal

pub returns : goal.returns
returns c k here lower = elim here [
  | inl above ↦ absurd (false≢true (c.if-can_rise_in.ensures k above lower))
  | inr other ↦ elim other [
    | inl beside ↦ absurd (false≢true (c.if-can_rise_in-2.ensures k beside lower))
    | inr below ↦ c.can_rise_in-3.ensures k below lower
  ]
]

pub can_rise_in-requires-clause-within : goal.can_rise_in-requires-clause-within
can_rise_in-requires-clause-within c k here = c.requires.within k (inl here)

pub can_rise_in-requires-2-clause-within : goal.can_rise_in-requires-2-clause-within
can_rise_in-requires-2-clause-within c k here = c.requires.within k (inr (inl here))

pub can_rise_in-requires-3-clause-within : goal.can_rise_in-requires-3-clause-within
can_rise_in-requires-3-clause-within c k here = c.requires.within k (inr (inr here))
