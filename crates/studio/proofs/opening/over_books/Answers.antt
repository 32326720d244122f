use Rattle.std.proofs.Common.{sym, ap, ◌∙◌, subst}
use Rattle.steal_pool.specs.Views.{OwnerView, AreFresh}
use Rattle.core_dispatch.specs.Dispatching.{books_by, owner_by}
use Rattle.studio.specs.Opening.{IsNewOwner}
use Rattle.studio.proofs.Beginnings.{eyes_kept, shown_once_kept}
use Rattle.studio.proofs.opening.over_books.Goals as goal

pub returns-in-Ok-eyes-clause-over : goal.returns-in-Ok-eyes-clause-over
returns-in-Ok-eyes-clause-over g c =
    let first = c.in-Ok-open.ensures.first in
    let kept = c.in-Ok-eyes.ensures.shows in
    let same = c.in-Ok-eyes.ensures.dispatcher ∙ first.dispatcher_is in
    let made = c.new-dispatcher.ensures in
    let owner = ap owner_by same ∙ made.owner in
    let pool = c.in-Ok.ensures in
    record {
      books_are = ap books_by same ∙ made.books;
      owner =
          subst (IsNewOwner c.args.hands) (sym owner)
          (record {
            pushed = pool.pushed;
            capacity = pool.capacity;
            collected = pool.collected;
            waiting = pool.waiting;
            rings = pool.rings;
            rooms = pool.rooms;
          });
      shown =
          shown_once_kept c.in-Ok-open.keeper c.eyes.new.self _ c.args.books.core kept
          (ap (λ b. b.core) made.books) first.shown;
      hands_are = subst (λ (o : OwnerView). AreFresh o c.in-Ok.pool.hands.items) (sym owner) pool.hands;
      eyes_are =
          eyes_kept c.in-Ok-open.keeper.publisher c.eyes.new.self.publisher c.args.eyes _ kept
          c.in-Ok-eyes.ensures.eyes;
    }
