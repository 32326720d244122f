use Rattle.std.proofs.Common.{inl, inr}
use Rattle.std.proofs.lemmas.Bool.{false≢true}
use Rattle.raster_sweeps.proofs.open_cells.can_raise_cross.Goals as goal

pub returns : goal.returns
returns c k here lower = elim here [
  | inl first ↦ elim first [
    | inl above ↦ absurd (false≢true (c.if-can_rise.ensures k above lower))
    | inr left ↦ absurd (false≢true (c.if-can_rise-2.ensures k left lower))
  ]
  | inr last ↦ elim last [
    | inl right ↦ absurd (false≢true (c.if-can_rise-3.ensures k right lower))
    | inr below ↦ c.can_rise-4.ensures k below lower
  ]
]
