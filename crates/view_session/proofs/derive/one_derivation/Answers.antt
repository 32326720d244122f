use Rattle.view_session.proofs.Derived.{one_derivation, one_refusal_of_a_file, none_of_a_refused_file}
use Rattle.view_session.proofs.derive.one_derivation.Goals as goal

pub returns-clause-text : goal.returns-clause-text
returns-clause-text c = one_derivation (record {
  one_fill = c.at_most_one_fill.ensures;
  one_regional_maxima = c.at_most_one_regional_maxima.ensures;
  one_reconstruction = c.at_most_one_reconstruction.ensures;
  equal_images = c.equal_pixels_equal_images.ensures;
}) c.one_image.ensures

pub returns-clause-refusal : goal.returns-clause-refusal
returns-clause-refusal c = one_refusal_of_a_file c.one_fault.ensures.first

pub returns-clause-none : goal.returns-clause-none
returns-clause-none c = none_of_a_refused_file c.one_fault.ensures.none
