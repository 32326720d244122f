use Rattle.edit_lang.proofs.WrittenLines.{placement_read, withdrawal_text_read, lines_read}
use Rattle.edit_lang.proofs.LiveStrokes.{live_read, entries_held}
use Rattle.edit_lang.proofs.writing.what_is_written_is_read.Goals as goal

pub returns-clause-placement : goal.returns-clause-placement
returns-clause-placement c = placement_read

pub returns-clause-withdrawal : goal.returns-clause-withdrawal
returns-clause-withdrawal c = withdrawal_text_read

pub returns-clause-live : goal.returns-clause-live
returns-clause-live c = λ s held. live_read s (entries_held s held)

pub returns-clause-lines : goal.returns-clause-lines
returns-clause-lines c = lines_read
