-- What is left of a pen, while it is taken.
use Rattle.std.proofs.Common.{◌≡◌, ◌≢◌, ℕ, ◌+◌, ◌<◌, List, [], ◌∷◌, ◌++◌, length, get_or, set, arith, sym, refl, ap}
use Rattle.std.proofs.Common.{◌∙◌, subst, ⊎_elim, append_assoc, Result, Ok, Err}
use Rattle.std.proofs.lemmas.List.{append-nil, length-append}
use mathlib.Core.Option.{some, some-injective}
use lib.ListN.{get_elem?}
use Rattle.atomic_table.proofs.Lists.{at_index, set_here, set_else}
use Rattle.rtrb.specs.Ring.{SameConsumer, IsFinishedOf}
use Rattle.stroke_lattice.specs.State.{State}
use Rattle.grid_core.specs.declared.memory.Memory.{Memory as Wanting}
use Rattle.core_dispatch.specs.{declared.desk.PenDesk.PenDesk, declared.pen.PenEnd.PenEnd, declared.taken.Taken.Taken}
use Rattle.core_dispatch.specs.{Books.BooksView, Books.edits_of, Resting.HasLeft, Resting.HasMoved}
use Rattle.core_dispatch.specs.declared.taken.Taken.TheVariants.{Nothing, Merged, Listed}
use Rattle.core_dispatch.specs.Pens.{IsEndOf, HasAllOf, IsSpent, end_number, all_submitted}
use Rattle.core_dispatch.specs.Taking.{IsNext, IsEditTaken, IsPenTurn, edits_in, seen_at, most_edits}
use Rattle.steal_pool.proofs.Deals.{below}
use Rattle.core_dispatch.proofs.Taking.{pens_kept, turn_keeps_pens}
use Rattle.core_dispatch.proofs.Rounds.{none_taken, one_taken, more_taken, pens_through}

-- ---- the desk of a pen that has finished

module _ (end : PenEnd) (b : BooksView) (is_end : IsEndOf end b) where
  pub has_desk : end_number end < length b.desks
  has_desk = below b.desks (end_number end) is_end.0 is_end.1

  pub own_desk : (desk : PenDesk) → desk ≡ get_or b.desks (end_number end) desk
      → get_elem? b.desks (end_number end) ≡ some desk
  own_desk desk is = at_index b.desks (end_number end) desk has_desk is

  pub own_ring : (desk : PenDesk) → desk ≡ get_or b.desks (end_number end) desk
      → IsFinishedOf end.finished desk.consumer
  own_ring desk is =
      subst (λ (d : PenDesk). IsFinishedOf end.finished d.consumer)
      (some-injective is_end.0 desk (sym is_end.1 ∙ own_desk desk is)) is_end.2

-- ---- books whose other pens stand still

-- a look takes nothing
pub look_moves : (pen : ℕ) (b : BooksView) (desk new : PenDesk) → get_elem? b.desks pen ≡ some desk
    → SameConsumer desk.consumer new.consumer → HasMoved pen b (record b { desks = set b.desks pen new })
look_moves pen b desk new at same = record {
  taken = (0, none_taken b (record b { desks = set b.desks pen new }) refl refl refl);
  others = λ other else. set_else b.desks pen other new else;
  pens = pens_kept b (record b { desks = set b.desks pen new }) pen desk new at refl same;
}

others_kept : (pen : ℕ) (old new : BooksView) (answer : Result Taken Wanting) → IsPenTurn pen old answer new
    → (other : ℕ) → other ≢ pen → get_elem? new.desks other ≡ get_elem? old.desks other
others_kept pen old new (Ok taken) t other else =
    ap (λ (l : List PenDesk). get_elem? l other) t.desks ∙ set_else old.desks pen other t.after else
others_kept pen old new (Err wanting) same other else = ap (λ (b : BooksView). get_elem? b.desks other) same

pub moved_on : (pen : ℕ) (start old new : BooksView) (answer : Result Taken Wanting) → HasMoved pen start old
    → IsPenTurn pen old answer new → HasMoved pen start new
moved_on pen start old new answer so_far turn = record {
  taken = (
    so_far.taken.0 + edits_in answer,
    more_taken start old new so_far.taken.0 (edits_in answer) so_far.taken.1 (one_taken pen old new answer turn),
  );
  others = λ other else. others_kept pen old new answer turn other else ∙ so_far.others other else;
  pens = pens_through start old new so_far.pens (turn_keeps_pens pen old new answer turn);
}

-- ---- the edits that are left

module _ (end : PenEnd) (old new : BooksView) (taken : Taken) (t : IsEditTaken (end_number end) old taken new)
    (left fewer : ℕ) (was : HasLeft old end left) (more : left ≡ fewer + 1) where
  same_desk : was.desk ≡ t.desk
  same_desk = some-injective was.desk t.desk (sym was.at ∙ t.at)

  at_after : get_elem? new.desks (end_number end) ≡ some t.after
  at_after =
      ap (λ (l : List PenDesk). get_elem? l (end_number end)) t.desks
      ∙ set_here old.desks (end_number end) t.after (below old.desks (end_number end) t.desk t.at)

  seen_are : length (seen_at t.desk) ≡ fewer + 1
  seen_are = ap (λ (d : PenDesk). length (seen_at d)) (sym same_desk) ∙ (was.count ∙ more)

  are_all : edits_of t.desk ++ seen_at t.desk ≡ all_submitted end
  are_all = ap (λ (d : PenDesk). edits_of d ++ seen_at d) (sym same_desk) ∙ was.whole

  pub one_less : (delta : State) → IsNext t.desk delta t.after → HasLeft new end fewer
  one_less delta next =
      let seen = seen_are in
      let oldest = next.oldest (omega (arith, seen)) in
      let count = ap (λ (l : List State). length l) oldest in
      record {
        desk = t.after;
        at = at_after;
        whole =
            ap (λ (l : List State). l ++ seen_at t.after) next.edits
            ∙ (append_assoc (edits_of t.desk) (delta ∷ []) (seen_at t.after)
            ∙ (ap (λ (l : List State). edits_of t.desk ++ l) (sym oldest) ∙ are_all));
        count = omega (arith, seen, count);
      }

  pub count_spent : edits_of t.after ≡ edits_of t.desk → length (edits_of t.desk) ≡ most_edits → IsSpent new end
  count_spent edits full =
      let all = ap (λ (l : List State). length l) are_all in (
        t.after,
        at_after,
        ap (λ (l : List State). length l) edits ∙ full,
        omega (arith, seen_are, length-append (edits_of t.desk) (seen_at t.desk), all, full),
      )

-- an edit was taken
pub taken_of_left : (end : PenEnd) (old new : BooksView) (answer : Result Taken Wanting)
    → IsPenTurn (end_number end) old answer new → edits_in answer ≡ 1 → (left fewer : ℕ) → HasLeft old end left
    → left ≡ fewer + 1 → HasLeft new end fewer
taken_of_left end old new (Ok Nothing) t one left fewer was more = absurd (omega (arith, one))
taken_of_left end old new (Ok Merged) t one left fewer was more =
    let (delta, next, merged, same) = t.becomes in one_less end old new Merged t left fewer was more delta next
taken_of_left end old new (Ok (Listed error)) t one left fewer was more =
    let (delta, next, core, why, listed) = t.becomes in
    one_less end old new (Listed error) t left fewer was more delta next
taken_of_left end old new (Err wanting) same one left fewer was more = absurd (omega (arith, one))

-- none was taken, though one is left
pub none_of_left : (end : PenEnd) (old new : BooksView) → IsEditTaken (end_number end) old Nothing new
    → (left fewer : ℕ) → HasLeft old end left → left ≡ fewer + 1 → IsSpent new end
none_of_left end old new t left fewer was more =
    let none = t.becomes.0 in
    let seen = seen_are end old new Nothing t left fewer was more in
    ⊎_elim
    (λ (empty : (seen_at t.desk ≡ []) × (seen_at t.after ≡ [])).
    let gone = ap (λ (l : List State). length l) empty.0 in absurd (omega (arith, seen, gone)))
    (λ (full : length (edits_of t.desk) ≡ most_edits).
    count_spent end old new Nothing t left fewer was more none.edits full) none.why

-- with none left, all was taken
pub all_of : (end : PenEnd) (b : BooksView) → HasLeft b end 0 → HasAllOf b end
all_of end b left = (left.desk, left.at, no_more (edits_of left.desk) (seen_at left.desk) left.count ∙ left.whole) where
  no_more : (l m : List State) → length m ≡ 0 → l ≡ l ++ m
  no_more l [] none = sym (append-nil l)
  no_more l (x ∷ m) none = absurd (omega (arith, none))
