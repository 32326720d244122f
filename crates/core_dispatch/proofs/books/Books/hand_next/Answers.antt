use Rattle.std.proofs.Common.{◌≡◌, ap, arith, length, subst, sym, ◌∙◌}
use Rattle.core_rules.specs.{Work.Core, Work.work_at, Runs.HasHints}
use Rattle.tiled_core.specs.Handing.{AreHandedOver}
use Rattle.core_dispatch.specs.{contracts.books.Books.the_view, Books.BooksView, Handing.WereHanded}
use Rattle.core_dispatch.proofs.Handing.{some_wait, were_handed}
use Rattle.core_dispatch.proofs.Steady.{steady_books, handed_over_is_steady}
use Rattle.core_dispatch.proofs.books.Books.hand_next.Goals as goal

pub invariant_of-self : goal.invariant_of-self
invariant_of-self c =
    let lent = c.deref_mut.result.now in
    steady_books (the_view c.self.inside) lent c.hand_waiting.new.self c.deref_mut.ensures.value c.self.invariant
    (handed_over_is_steady (length (work_at lent c.in_ok-tile.tile).inbox) c.in_ok-tile.tile lent
    c.hand_waiting.new.self c.hand_waiting.ensures.handed)

pub returns-clause-next : goal.returns-clause-next
returns-clause-next c =
    let tile = c.in_ok-tile.tile in
    let core = c.args.self.now.core in
    let new = c.hand_waiting.new.self in
    let least = c.in_ok-tile.ensures in
    let hints = subst (λ (k : Core). HasHints k tile) c.core.ensures.value least.0.1 in
    let some = some_wait core tile hints in
    let lent = c.deref_mut.ensures.value ∙ ap (λ (b : BooksView). b.core) c.self.view_is in
    let count : c.hand_waiting.result ≡ length (work_at core tile).inbox =
    c.hand_waiting.ensures.count ∙ ap (λ (k : Core). length (work_at k tile).inbox) lent in
    let over =
    subst (λ (k : Core). AreHandedOver tile (length (work_at k tile).inbox) k new) lent
    c.hand_waiting.ensures.handed in (
      omega (arith, some, count),
      subst (λ n. WereHanded n core new) (sym count)
          (were_handed (length (work_at core tile).inbox) tile core new hints.0 (omega arith) over),
    )
