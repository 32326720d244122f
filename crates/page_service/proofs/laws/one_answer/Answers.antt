use Rattle.page_service.proofs.Once.{one_asked, not_both, one_refusal}
use Rattle.page_service.proofs.laws.one_answer.Goals as goal

pub returns : goal.returns
returns c = record { one_asked = one_asked; not_both = not_both; one_refusal = one_refusal }
