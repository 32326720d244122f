use Rattle.std.proofs.Common.{◌≡◌, ℕ, ◌<◌, ◌≤◌, arith}
use Rattle.std.proofs.lemmas.Result.{err_from_is_err_and}
use Rattle.core_dispatch.proofs.Ends.{kept_themselves, kept_through, same_has_end, same_spent, same_back, taken_more}
use Rattle.core_dispatch.proofs.GoingOn.{goes_itself, goes_through, edits_themselves, edits_through}
use Rattle.core_dispatch.proofs.dispatcher.Dispatcher.take_edits_left.Goals as goal

pub loop-number-init : goal.loop-number-init
loop-number-init c =
    let d = c.args.self.now in
    record {
      taken = λ n before. absurd (omega (arith, before));
      ends = kept_themselves c.args.ends.now.items d.books d.books c.requires.ends (goes_itself d).pens;
      goes_on = goes_itself d;
      edits = edits_themselves d;
    }

pub take_edits_of-requires-clause-found : goal.take_edits_of-requires-clause-found
take_edits_of-requires-clause-found c =
    same_has_end c.args.ends.now.items c.loop-number.ends.items c.loop-number.number c.loop-number.invariant.ends.0
    (c.requires.each c.loop-number.number (omega (arith, c.loop-number-test.true, c.pens-number-end.ensures)))

pub take_edits_of-requires-clause-ends : goal.take_edits_of-requires-clause-ends
take_edits_of-requires-clause-ends c = c.loop-number.invariant.ends.1

pub returns-in_err-take_edits_of-clause-whole : goal.returns-in_err-take_edits_of-clause-whole
returns-in_err-take_edits_of-clause-whole c =
    let p = err_from_is_err_and c.from_residual.result c.from_residual.ensures.1 in
    rw p.1 tt

pub returns-in_err-take_edits_of-clause-spent : goal.returns-in_err-take_edits_of-clause-spent
returns-in_err-take_edits_of-clause-spent c =
    let start = c.args.ends.now.items in
    let now = c.loop-number.ends.items in
    let p = err_from_is_err_and c.from_residual.result c.from_residual.ensures.1 in
    rw (p.1, p.2)
    (λ is.
    same_spent now start c.take_edits_of.new.self.books (same_back start now c.loop-number.invariant.ends.0)
    (c.in_err-take_edits_of.ensures.spent is))

pub returns-in_err-take_edits_of-clause-why : goal.returns-in_err-take_edits_of-clause-why
returns-in_err-take_edits_of-clause-why c =
    let p = err_from_is_err_and c.from_residual.result c.from_residual.ensures.1 in
    rw (p.1, p.2) c.in_err-take_edits_of.ensures.why

pub returns-in_err-take_edits_of-clause-ends : goal.returns-in_err-take_edits_of-clause-ends
returns-in_err-take_edits_of-clause-ends c =
    kept_through c.args.ends.now.items c.loop-number.ends.items c.take_edits_of.new.ends.items
    c.loop-number.self.books c.take_edits_of.new.self.books c.loop-number.invariant.ends c.take_edits_of.ensures.ends

pub returns-in_err-take_edits_of-clause-goes_on : goal.returns-in_err-take_edits_of-clause-goes_on
returns-in_err-take_edits_of-clause-goes_on c =
    goes_through c.args.self.now c.loop-number.self c.take_edits_of.new.self c.loop-number.invariant.goes_on
    c.take_edits_of.ensures.goes_on

pub returns-in_err-take_edits_of-clause-taken : goal.returns-in_err-take_edits_of-clause-taken
returns-in_err-take_edits_of-clause-taken c =
    edits_through c.args.self.now c.loop-number.self c.take_edits_of.new.self c.loop-number.invariant.edits
    c.take_edits_of.ensures.taken

pub loop-number-preserved : goal.loop-number-preserved
loop-number-preserved c =
    let so_far = c.loop-number.invariant in
    let one = c.take_edits_of.ensures in
    record {
      taken =
          taken_more c.args.ends.now.items c.loop-number.ends.items c.loop-number.self.books
          c.take_edits_of.new.self.books c.loop-number.number so_far.ends.0 so_far.taken one.others
          c.in_ok-take_edits_of.ensures.whole;
      ends =
          kept_through c.args.ends.now.items c.loop-number.ends.items c.take_edits_of.new.ends.items
          c.loop-number.self.books c.take_edits_of.new.self.books so_far.ends one.ends;
      goes_on =
          goes_through c.args.self.now c.loop-number.self c.take_edits_of.new.self so_far.goes_on one.goes_on;
      edits = edits_through c.args.self.now c.loop-number.self c.take_edits_of.new.self so_far.edits one.taken;
    }

-- once the loop has come to the end, each number lies before it
before_end : (number desks now end at : ℕ) → number < now → now ≡ desks → end ≡ desks → end ≤ at → number < at
before_end number desks now end at below same is_end past = omega arith

pub returns-clause-whole : goal.returns-clause-whole
returns-clause-whole c = λ number below.
    c.loop-number.invariant.taken number
    (before_end number _ _ _ _ below c.loop-number.invariant.goes_on.pens.count c.pens-number-end.ensures
    c.loop-number-test.false)

pub returns-clause-ends : goal.returns-clause-ends
returns-clause-ends c = c.loop-number.invariant.ends

pub returns-clause-goes_on : goal.returns-clause-goes_on
returns-clause-goes_on c = c.loop-number.invariant.goes_on

pub returns-clause-taken : goal.returns-clause-taken
returns-clause-taken c = c.loop-number.invariant.edits
