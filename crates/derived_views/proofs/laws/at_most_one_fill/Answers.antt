use Rattle.derived_views.proofs.Views.{one_fill}
use Rattle.derived_views.proofs.laws.at_most_one_fill.Goals as goal

pub returns : goal.returns
returns c = one_fill
