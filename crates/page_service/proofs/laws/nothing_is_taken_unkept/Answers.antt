use Rattle.page_service.proofs.Leaving.{nothing_is_taken_unkept}
use Rattle.page_service.proofs.laws.nothing_is_taken_unkept.Goals as goal

pub returns : goal.returns
returns c = nothing_is_taken_unkept
