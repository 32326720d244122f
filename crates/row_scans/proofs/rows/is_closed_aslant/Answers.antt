use Rattle.row_scans.proofs.RowPairs.{closed_aslant, aslant_right, aslant_left}
use Rattle.row_scans.proofs.rows.is_closed_aslant.Goals as goal

pub returns-then-is_closed_straight : goal.returns-then-is_closed_straight
returns-then-is_closed_straight c = (
  λ yes.
      closed_aslant c.requires.some c.requires.rows (c.is_closed_straight.ensures.0 c.if-is_closed_straight.true)
      (c.is_closed_straight-then-is_closed_straight.ensures.0 yes),
  λ closed.
      c.is_closed_straight-then-is_closed_straight.ensures.1
      (aslant_left c.requires.some c.requires.rows closed),
)

pub returns-else-is_closed_straight : goal.returns-else-is_closed_straight
returns-else-is_closed_straight c = (
  λ yes. absurd cc,
  λ closed. c.is_closed_straight.ensures.1 (aslant_right c.requires.some c.requires.rows closed),
)
