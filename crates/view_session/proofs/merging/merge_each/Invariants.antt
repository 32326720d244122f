use Rattle.std.proofs.Common.{map, take}
use Rattle.view_session.specs.Merging.{LeadsOn}
use Rattle.view_session.proofs.merging.merge_each.Given as goal

-- the deltas so far lead from the state at the start to this one
abbrev pub invariant-loop-holder : goal.invariant-loop-holder
invariant-loop-holder g l =
    LeadsOn l.w l.h (take l.holder-index (map g.D.HasDelta.delta_of l.holders)) l.fn.state l.state
