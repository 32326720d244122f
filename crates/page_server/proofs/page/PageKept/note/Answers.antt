use Rattle.page_server.proofs.Counting.{page_notes}
use Rattle.page_server.proofs.page.PageKept.note.Goals as goal

pub returns : goal.returns
returns c = page_notes _ _ _ c.note_kept.ensures
