use Rattle.replica_world.proofs.Headline.{equal_states}
use Rattle.replica_world.proofs.laws.same_content_gives_equal_states.Goals as goal

pub returns : goal.returns
returns c = equal_states c.contents_decide_a_state.ensures
