use Rattle.page_server.proofs.Counting.{page_takes}
use Rattle.page_server.proofs.page.PageKept.take.Goals as goal

pub returns-clause-taken : goal.returns-clause-taken
returns-clause-taken c =
    page_takes c.take_found.result _ _ _ c.take_found.ensures.rest c.take_found.ensures.later
    c.take_found.ensures.taken c.take_found.ensures.has_all
