use Rattle.derived_views.proofs.Views.{no_greater_beside}
use Rattle.derived_views.proofs.laws.no_greater_beside.Goals as goal

pub returns : goal.returns
returns c = no_greater_beside
