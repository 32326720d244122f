use Rattle.std.proofs.Common.{sym, ap, ◌∙◌}
use Rattle.stroke_lattice.specs.Pieces.{frame_length}
use Rattle.stroke_lattice.proofs.Items.{frame_length_of_nothing}
use Rattle.stroke_lattice.proofs.split.Pieces.make_room.Goals as goal

pub returns-in_ok-push-clause-measured : goal.returns-in_ok-push-clause-measured
returns-in_ok-push-clause-measured c =
    sym (ap frame_length (c.replace-last.ensures.after ∙ c.new.ensures) ∙ frame_length_of_nothing)
