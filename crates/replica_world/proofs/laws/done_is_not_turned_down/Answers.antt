use Rattle.replica_world.proofs.Outcomes.{done_not_turned_down}
use Rattle.replica_world.proofs.laws.done_is_not_turned_down.Goals as goal

pub returns : goal.returns
returns c =
    done_not_turned_down c.at_most_one_frame.ensures c.merged_is_acceptable.ensures
    c.refused_is_not_acceptable.ensures
