use Rattle.std.proofs.Common.{◌≡◌, ℕ, ◌↔◌, Bool, IsTrue, List, length, refl, subst}
use Rattle.std.proofs.{lemmas.Bool.iff_false, lemmas.Result.err_from_is_err_and}
use Rattle.core_dispatch.specs.Books.{BooksView}
use Rattle.core_dispatch.specs.Closing.{IsOneOf, IsOneOfEach}
use Rattle.core_dispatch.specs.declared.error.CloseError.TheVariants.{CountSpent, EndMissing}
use Rattle.core_dispatch.specs.declared.pen.PenEnd.{PenEnd}
use Rattle.core_dispatch.proofs.Ends.{kept_themselves, kept_through, all_taken_at}
use Rattle.core_dispatch.proofs.GoingOn.{goes_itself, goes_through, edits_themselves}
use Rattle.core_dispatch.proofs.dispatcher.Dispatcher.take_rest.Goals as goal

-- the test by the number of pens is one by the books
tells_of_each : (b : Bool) (pens : ℕ) (ends : List PenEnd) (books : BooksView) → pens ≡ length books.desks
    → IsTrue b ↔ IsOneOf pens ends → IsTrue b ↔ IsOneOfEach ends books
tells_of_each b pens ends books count tells = subst (λ n. IsTrue b ↔ IsOneOf n ends) count tells

missing_is_not_spent : EndMissing ≡ CountSpent → ⊥
missing_is_not_spent is = cc

pub returns-then-not-has_one_of_each-clause-not_all : goal.returns-then-not-has_one_of_each-clause-not_all
returns-then-not-has_one_of_each-clause-not_all c =
    let d = c.args.self.now in
    let tells = tells_of_each c.has_one_of_each.result c.pens.result c.args.ends.now.items d.books c.pens.ensures
    c.has_one_of_each.ensures in
    record {
      missing = (λ is. iff_false tells c.if-not-has_one_of_each.true, λ none. refl);
      nothing = λ is. refl;
      spent = λ is. absurd (missing_is_not_spent is);
      goes_on = goes_itself d;
      stays = edits_themselves d;
    }

pub returns-then-not-has_one_of_each-clause-ends : goal.returns-then-not-has_one_of_each-clause-ends
returns-then-not-has_one_of_each-clause-ends c =
    let d = c.args.self.now in
    kept_themselves c.args.ends.now.items d.books d.books c.requires (goes_itself d).pens

pub returns-in_err-take_edits_left-clause-not_all : goal.returns-in_err-take_edits_left-clause-not_all
returns-in_err-take_edits_left-clause-not_all c =
    let d = c.args.self.now in
    let tells = tells_of_each c.has_one_of_each.result c.pens.result c.args.ends.now.items d.books c.pens.ensures
    c.has_one_of_each.ensures in
    let p = err_from_is_err_and c.from_residual.result c.from_residual.ensures.1 in
    rw (p.1, p.2) (record {
      missing = (
        λ is. absurd (c.in_err-take_edits_left.ensures.why is),
        λ none. absurd (none (tells.0 c.if-not-has_one_of_each.false)),
      );
      nothing = λ is. absurd (c.in_err-take_edits_left.ensures.why is);
      spent = c.in_err-take_edits_left.ensures.spent;
      goes_on = c.take_edits_left.ensures.goes_on;
      stays = c.take_edits_left.ensures.taken;
    })

pub returns-clause-all : goal.returns-clause-all
returns-clause-all c =
    let d = c.args.self.now in
    let tells = tells_of_each c.has_one_of_each.result c.pens.result c.args.ends.now.items d.books c.pens.ensures
    c.has_one_of_each.ensures in
    record {
      one_of_each = tells.0 c.if-not-has_one_of_each.false;
      all_taken =
          all_taken_at c.take_edits_left.new.self.books c.take_reports_left.new.self.books c.args.ends.now.items
          c.take_reports_left.ensures.desks c.in_ok-take_edits_left.ensures.whole;
      goes_on =
          goes_through c.args.self.now c.take_edits_left.new.self c.take_reports_left.new.self
          c.take_edits_left.ensures.goes_on c.take_reports_left.ensures.goes_on;
      rest = record {
        edited = c.take_edits_left.new.self;
        edits = c.take_edits_left.ensures.taken;
        reports = c.take_reports_left.ensures.taken;
      };
    }

pub returns-clause-ends : goal.returns-clause-ends
returns-clause-ends c =
    let edited = c.take_edits_left.new.self.books in
    let new = c.take_reports_left.new.self.books in
    let ends = c.take_edits_left.new.ends.items in
    let kept = c.take_edits_left.ensures.ends in
    kept_through c.args.ends.now.items ends ends edited new kept
    (kept_themselves ends edited new kept.1 c.take_reports_left.ensures.goes_on.pens)
