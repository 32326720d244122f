use Rattle.view_session.proofs.KeptViews.{joined_files}
use Rattle.view_session.proofs.laws.joined_files_spell_both.Goals as goal

pub returns : goal.returns
returns c = joined_files c.joined_files_spell_both.ensures
