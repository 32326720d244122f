use Rattle.std.proofs.Common.{refl}
use Rattle.core_dispatch.proofs.Rings.{desk_kept}
use Rattle.core_dispatch.proofs.pen.Pen.submit.Goals as goal

pub returns-in-Ok-clause-desk : goal.returns-in-Ok-clause-desk
returns-in-Ok-clause-desk c = desk_kept _ _ refl c.in-Ok.ensures.ring

pub returns-in-Err-Full-clause-desk : goal.returns-in-Err-Full-clause-desk
returns-in-Err-Full-clause-desk c = desk_kept _ _ refl c.in-Err-Full.ensures.ring
