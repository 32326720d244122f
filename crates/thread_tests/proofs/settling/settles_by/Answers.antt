use Rattle.core_dispatch.proofs.Around.{rest_pens}
use Rattle.thread_tests.proofs.Companies.{keeper_stays}
use Rattle.thread_tests.proofs.settling.settles_by.Goals as goal

pub returns-in-Ok : goal.returns-in-Ok
returns-in-Ok g c =
    keeper_stays _ _ c.requires (rest_pens _ _ c.in-Ok.ensures.rest) c.in-Ok.ensures.untouched.studio

pub returns-in-Err : goal.returns-in-Err
returns-in-Err g c =
    keeper_stays _ _ c.requires (rest_pens _ _ c.in-Err.ensures.rest) c.in-Err.ensures.untouched.studio
