use Rattle.std.proofs.Common.{ℕ, ◌<◌}
use Rattle.core_dispatch.specs.Closing.{IsPlaceOf}
use Rattle.core_dispatch.proofs.dispatcher.closing.place_of.Given as goal

abbrev pub invariant-loop-place : goal.invariant-loop-place
invariant-loop-place l = (p : ℕ) → p < l.place → IsPlaceOf l.ends.items l.number p → ⊥
