use Rattle.studio.proofs.keeper.Keeper.open.Goals as goal

pub returns-in-Ok-open-clause-first : goal.returns-in-Ok-open-clause-first
returns-in-Ok-open-clause-first g c =
    let shot = c.in-Ok-first_shot.shot in
    record {
      dispatcher_is = c.in-Ok-first_shot.ensures.same;
      shown = (shot, c.in-Ok-first_shot.ensures.shot, c.in-Ok-open.ensures.chain);
    }
