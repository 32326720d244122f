use Rattle.studio.proofs.Chains.{last_is_sound}
use Rattle.studio.proofs.shots.laws.the_last_of_a_chain_is_sound.Goals as goal

pub returns : goal.returns
returns c = last_is_sound
