use Rattle.std.proofs.Common.{ℕ, ◌<◌, slice_index_or}
use Rattle.spd_codec.specs.declared.frame.Frame.{Frame}
use Rattle.view_session.specs.Kept.{IsFrameFor}
use Rattle.view_session.proofs.kept.are_all_for.Given as goal

-- the frames so far are meant for it
abbrev pub invariant-loop-frame : goal.invariant-loop-frame
invariant-loop-frame l =
    (k : ℕ) (d : Frame) → k < l.frame-index → IsFrameFor l.conn l.print (slice_index_or l.frames k d)
