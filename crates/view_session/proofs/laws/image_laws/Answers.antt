use Rattle.view_session.proofs.laws.image_laws.Goals as goal

pub returns : goal.returns
returns c = record {
  rises = c.reach_rises_with_marker.ensures;
  one_marker = c.at_most_one_marker.ensures;
  one_reconstruction = c.at_most_one_reconstruction.ensures;
  equal_images = c.equal_pixels_equal_images.ensures;
}
