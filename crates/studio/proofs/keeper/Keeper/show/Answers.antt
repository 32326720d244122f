use Rattle.std.proofs.Common.{[], ◌∷◌, ◌++◌, ap, subst, ◌∙◌, arith}
use Rattle.core_dispatch.specs.Dispatching.{core_by}
use Rattle.studio.specs.{Words.shown_by, Keeping.IsShotOf}
use Rattle.studio.proofs.Following.{may_follow, shot_follows}
use Rattle.studio.proofs.keeper.Keeper.show.Goals as goal

pub returns-clause-shown : goal.returns-clause-shown
returns-clause-shown g c =
    let shot = c.in_ok-shot.shot in
    let state = c.in_ok-state.ensures in
    let image = c.in_ok-image.ensures in (
      shot,
      subst (λ d. IsShotOf (core_by d) shot) (image.dispatcher ∙ state.dispatcher) c.in_ok-shot.ensures.shot,
      c.in_ok-told.ensures.chain ∙ ap (λ p. shown_by p ++ shot ∷ []) (image.publisher ∙ state.publisher),
    )

pub show-requires : goal.show-requires
show-requires g c = grind (arith, may_follow)

pub invariant_of-self-2 : goal.invariant_of-self-2
invariant_of-self-2 g c = grind (arith, shot_follows)
