use Rattle.std.proofs.Common.{◌≡◌, ◌<◌, ◌≤◌, ◌↔◌, ℕ, slice_index}
use Rattle.seedpaint_c.proofs.cells.are_below.Given as goal

abbrev pub invariant-loop-i : goal.invariant-loop-i
invariant-loop-i l = (l.excess ≡ 0) ↔ ((k : ℕ) → k < l.i → slice_index l.cells k ≤ slice_index l.limits k)
