use Rattle.std.proofs.Common.{sym, subst₂}
use Rattle.http_server.specs.History.{Rests}
use Rattle.page_server.proofs.transfer.read_once.Goals as goal

pub returns-in-Err-clause-rests : goal.returns-in-Err-clause-rests
returns-in-Err-clause-rests g c =
    λ rests. subst₂ Rests (sym c.read_from.ensures.config) (sym c.in-Err.ensures.err.0) rests
