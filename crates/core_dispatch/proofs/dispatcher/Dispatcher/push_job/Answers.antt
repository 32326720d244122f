use Rattle.std.proofs.Common.{subst, sym}
use Rattle.core_rules.specs.Invariant.{IsSound}
use Rattle.core_dispatch.specs.{Books.BooksView, Genuine.AreGenuine}
use Rattle.core_dispatch.proofs.{Genuine.by_placing, Pushing.placed_is_pushed}
use Rattle.core_dispatch.proofs.dispatcher.Dispatcher.push_job.Goals as goal

pub invariant_of-self : goal.invariant_of-self
invariant_of-self c rise =
    let d = c.self.inside in
    let rises = c.and-self-inside.ensures.rise rise in
    by_placing d.books.core d.serials.bound c.and-self-inside.result.bound c.args.tile c.in-Ok-Some.job
    (record { books = c.take.new.self; owner = d.owner }) (record { books = c.push.new.books; owner = c.push.new.owner })
    c.push.result (subst IsSound c.core.ensures.value c.is_sound.ensures) (c.self.invariant rises.0)
    (rw c.in-Ok-Some.field-0-is at c.in-Ok-Some.ensures.taken) c.push.ensures
    (rw c.ticket.ensures at rises.1) (rw c.ticket.ensures at c.and-self-inside.ensures.bound rise)

pub returns-in-Ok-Some : goal.returns-in-Ok-Some
returns-in-Ok-Some c =
    let d = c.self.inside in
    rw (← c.self.view_is)
    (placed_is_pushed c.args.tile (record { books = d.books; owner = d.owner })
    (record { books = c.push.new.books; owner = c.push.new.owner }) c.take.new.self c.in-Ok-Some.job c.push.result
    (rw c.in-Ok-Some.field-0-is at c.in-Ok-Some.ensures.taken) c.in-Ok-Some.ensures.rest c.push.ensures)

pub invariant_of-self-in-Err : goal.invariant_of-self-in-Err
invariant_of-self-in-Err c rise =
    let d = c.self.inside in
    subst (λ (books : BooksView). AreGenuine books.core d.serials.bound d.owner.pushed) (sym c.in-Err.ensures.err)
    (c.self.invariant rise)
