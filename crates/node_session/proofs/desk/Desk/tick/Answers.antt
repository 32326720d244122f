use Rattle.std.proofs.Common.{ap, subst, sym, ◌∙◌}
use Rattle.core_dispatch.specs.Books.{BooksView}
use Rattle.studio.specs.{declared.keeper.Keeper.Keeper, Keeping.books_of}
use Rattle.node_session.specs.Working.{HasWorked}
use Rattle.node_session.proofs.Desks.{studio_stays, silent_through, works_behind}
use Rattle.node_session.proofs.desk.Desk.tick.Goals as goal

pub show-requires : goal.show-requires
show-requires g c = studio_stays _ _ c.work.ensures.silent.0 c.requires

pub returns-clause-works : goal.returns-clause-works
returns-clause-works g c =
    works_behind 1 _ _ _ _ _ (silent_through _ _ _ c.work.ensures.silent c.show.ensures.silent)
    c.exchange.ensures.works

pub returns-clause-worked : goal.returns-clause-worked
returns-clause-worked g c =
    subst (λ (b : BooksView). HasWorked 1024 c.args.threads 32768 c.args.self.now.keeper b)
    (sym (ap (λ (k : Keeper). books_of k) c.exchange.ensures.keeper ∙ c.show.ensures.books))
    c.work.ensures.worked
