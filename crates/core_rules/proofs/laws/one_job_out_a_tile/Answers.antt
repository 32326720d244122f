-- The law `one_job_out_a_tile`, by its lemma.
use Rattle.core_rules.proofs.Counting.{one_job_out_a_tile}
use Rattle.core_rules.proofs.laws.one_job_out_a_tile.Goals as goal

pub returns : goal.returns
returns c = one_job_out_a_tile
