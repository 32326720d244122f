-- What the tactics leave open of `first_news`.
use Rattle.std.proofs.Common.{List, [], ◌∷◌, ◌++◌, ◌∙◌, ap, subst}
use Rattle.stroke_lattice.specs.{Change.IsChange, State.State, State.nothing}
use Rattle.reset_core.proofs.Starting.{empty_is_compatible, is_copy}
use Rattle.page_board.specs.declared.news.News.{News}
use Rattle.page_board.proofs.board.opening.first_news.Goals as goal

pub join-requires : goal.join-requires
join-requires c = empty_is_compatible c.in-Ok.copy c.args.state.now c.in-Ok.ensures.value

pub returns : goal.returns
returns c =
    let change = c.in_ok-change.change in
    let same = is_copy c.in-Ok.copy c.args.state.now c.join.new.self c.in-Ok.ensures.value c.in_ok-change.ensures.join
    in (
      change,
      subst (λ (s : State). IsChange nothing s change) same
          (subst (λ (s : State). IsChange s c.join.new.self change) c.in-Ok.ensures.value
          c.in_ok-change.ensures.change),
      c.in_ok-push.ensures.items
          ∙ ap (λ (all : List News). all ++ record { step = 1; change = change } ∷ []) c.new-news.ensures.items,
    )
