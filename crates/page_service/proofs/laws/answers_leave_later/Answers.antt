use Rattle.page_service.proofs.Leaving.{leaves_later}
use Rattle.page_service.proofs.laws.answers_leave_later.Goals as goal

pub returns : goal.returns
returns c = leaves_later c.each_is_later.ensures
