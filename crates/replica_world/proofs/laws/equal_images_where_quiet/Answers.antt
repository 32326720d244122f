use Rattle.replica_world.proofs.Headline.{equal_images}
use Rattle.replica_world.proofs.laws.equal_images_where_quiet.Goals as goal

pub returns : goal.returns
returns c = λ world a b of_a of_b same quiet_a quiet_b.
    equal_images c.every_state_has_a_marker.ensures c.at_most_one_reconstruction.ensures
    c.equal_pixels_equal_images.ensures world a b of_a of_b
    (c.same_content_gives_equal_states.ensures world a b of_a of_b same) quiet_a quiet_b
