use Rattle.core_dispatch.proofs.Around.{rest_pens}
use Rattle.thread_tests.proofs.Companies.{keeper_stays}
use Rattle.thread_tests.proofs.playing.recall.Goals as goal

pub returns : goal.returns
returns c = keeper_stays _ _ c.requires (rest_pens _ _ c.recall.ensures.rest) c.recall.ensures.untouched.studio
