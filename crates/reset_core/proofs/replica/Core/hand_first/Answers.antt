use Rattle.std.proofs.Common.{refl, subst, inl}
use Rattle.core_rules.specs.{Work.Core, Runs.HasHints, Invariant.IsSound}
use Rattle.border_queues.specs.TileWork.{IsLeast}
use Rattle.reset_core.proofs.Settling.{first_handed}
use Rattle.reset_core.proofs.replica.Core.hand_first.Goals as goal

pub returns-in-Some : goal.returns-in-Some
returns-in-Some c =
    let first = subst (λ (core : Core). IsLeast (HasHints core) c.in-Some.tile) c.self.view_is c.in-Some.ensures in
    let sound = subst IsSound c.self.view_is c.self.invariant.sound in
    inl (
      refl,
      first_handed c.args.self.now c.in-Some.tile first c.requires sound c.hand-handed.result
          c.hand-handed.new.self c.hand-handed.ensures,
    )
