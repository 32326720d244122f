use Rattle.derived_views.proofs.Views.{one_regional_maxima}
use Rattle.derived_views.proofs.laws.at_most_one_regional_maxima.Goals as goal

pub returns : goal.returns
returns c = one_regional_maxima
