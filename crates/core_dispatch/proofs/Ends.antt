-- Ends of pens, and what is taken of them.
use Rattle.std.proofs.Common.{◌≡◌, ◌≢◌, ℕ, zero, suc, ◌+◌, ◌<◌, ◌≤◌, List, [], ◌∷◌, length, set, get_or, sym, refl, ap}
use Rattle.std.proofs.Common.{◌∙◌, subst, arith, true, Option, Some, None, MatchOption, is_some}
use Rattle.std.proofs.lemmas.List.Elements.{All-set, All-weaker, All-get_or}
use Rattle.std.specs.List.{AllZip}
use mathlib.Core.Logic.{dite}
use mathlib.Core.Option.{some}
use native.Mathlib.Decide.{ℕ_discrete}
use lib.ListN.{get_elem?}
use Rattle.atomic_table.proofs.Lists.{at_index}
use Rattle.core_dispatch.specs.{declared.desk.PenDesk.PenDesk, declared.pen.PenEnd.PenEnd, Books.BooksView}
use Rattle.core_dispatch.specs.{Taking.most_edits}
use Rattle.core_dispatch.specs.Pens.{IsEndOf, IsSameEnd, HasAllOf, IsSpent, KeepsPens, end_number}
use Rattle.core_dispatch.specs.Closing.{AreEndsOf, AreKept, IsPlaceOf, HasEndOf, HaveEach, IsAllTaken, AreAllTaken}
use Rattle.core_dispatch.specs.Closing.{HasSpentCount}
use Rattle.steal_pool.proofs.Deals.{below}

-- ---- the same ends

abbrev AreSame : List PenEnd → List PenEnd → Type 0
AreSame old new = AllZip IsSameEnd old new

same_themselves : (ends : List PenEnd) → AreSame ends ends
same_themselves [] = tt
same_themselves (end ∷ ends) = (record { number = refl; submitted = refl }, same_themselves ends)

pub same_through : (a b c : List PenEnd) → AreSame a b → AreSame b c → AreSame a c
same_through [] [] [] first second = tt
same_through [] [] (z ∷ c) first second = second
same_through [] (y ∷ b) c first second = absurd first
same_through (x ∷ a) [] c first second = absurd first
same_through (x ∷ a) (y ∷ b) [] first second = absurd second
same_through (x ∷ a) (y ∷ b) (z ∷ c) (here, first) (there, second) = (
  record { number = there.number ∙ here.number; submitted = there.submitted ∙ here.submitted },
  same_through a b c first second,
)

pub same_back : (a b : List PenEnd) → AreSame a b → AreSame b a
same_back [] [] same = tt
same_back [] (y ∷ b) same = absurd same
same_back (x ∷ a) [] same = absurd same
same_back (x ∷ a) (y ∷ b) (here, same) =
    (record { number = sym here.number; submitted = sym here.submitted }, same_back a b same)

-- what stands at a place of the one has its like at that place of the other
same_at : (a b : List PenEnd) (place : ℕ) (end : PenEnd) → AreSame a b → get_elem? a place ≡ some end
    → (other : PenEnd) × (get_elem? b place ≡ some other) × IsSameEnd end other
same_at [] b place end same at = absurd cc
same_at (x ∷ a) [] place end same at = absurd same
same_at (x ∷ a) (y ∷ b) zero end (here, same) at =
    let is : x ≡ end = cc in (y, refl, subst (λ (e : PenEnd). IsSameEnd e y) is here)
same_at (x ∷ a) (y ∷ b) (suc place) end (here, same) at = same_at a b place end same at

-- an end that is replaced by its like
same_once_set : (ends : List PenEnd) (place : ℕ) (end new : PenEnd) → get_elem? ends place ≡ some end
    → IsSameEnd end new → AreSame ends (set ends place new)
same_once_set [] place end new at same = absurd cc
same_once_set (x ∷ ends) zero end new at same =
    let is : end ≡ x = cc in (subst (λ (e : PenEnd). IsSameEnd e new) is same, same_themselves ends)
same_once_set (x ∷ ends) (suc place) end new at same =
    (record { number = refl; submitted = refl }, same_once_set ends place end new at same)

-- ---- what is said of the same ends

pub same_has_end : (a b : List PenEnd) (number : ℕ) → AreSame a b → HasEndOf a number → HasEndOf b number
same_has_end a b number same (place, (end, at, is)) =
    let (other, there, like) = same_at a b place end same at in (place, (other, there, like.number ∙ is))

same_taken : (a b : List PenEnd) (books : BooksView) (number : ℕ) → AreSame a b → IsAllTaken books a number
    → IsAllTaken books b number
same_taken a b books number same (place, end, at, is, (desk, there, all)) =
    let (other, here, like) = same_at a b place end same at in (
      place,
      other,
      here,
      like.number ∙ is,
      (desk, ap (λ (n : ℕ). get_elem? books.desks n) like.number ∙ there, all ∙ sym like.submitted),
    )

pub same_spent : (a b : List PenEnd) (books : BooksView) → AreSame a b → HasSpentCount a books → HasSpentCount b books
same_spent a b books same (place, end, at, (desk, there, most, more)) =
    let (other, here, like) = same_at a b place end same at in (
      place,
      other,
      here,
      (
        desk,
        ap (λ (n : ℕ). get_elem? books.desks n) like.number ∙ there,
        most,
        subst (λ (edits : _). most_edits < length edits) (sym like.submitted) more,
      ),
    )

-- ---- ends that are kept

pub kept_themselves : (ends : List PenEnd) (old new : BooksView) → AreEndsOf ends old → KeepsPens old new
    → AreKept ends ends new
kept_themselves ends old new are keeps = (
  same_themselves ends,
  All-weaker (λ end. IsEndOf end old) (λ end. IsEndOf end new) keeps.ends ends are,
)

pub kept_through : (a b c : List PenEnd) (old new : BooksView) → AreKept a b old → AreKept b c new → AreKept a c new
kept_through a b c old new first second = (same_through a b c first.0 second.0, second.1)

-- an end of which more was taken
kept_once_taken : (ends : List PenEnd) (old new : BooksView) (place : ℕ) (end left : PenEnd) → AreEndsOf ends old
    → KeepsPens old new → get_elem? ends place ≡ some end → IsSameEnd end left → IsEndOf left new
    → AreKept ends (set ends place left) new
kept_once_taken ends old new place end left are keeps at same is = (
  same_once_set ends place end left at same,
  All-set (λ e. IsEndOf e new) ends place left is
      (All-weaker (λ e. IsEndOf e old) (λ e. IsEndOf e new) keeps.ends ends are),
)

-- the end at a place
pub end_at : (ends : List PenEnd) (books : BooksView) (place : ℕ) (end : PenEnd) → AreEndsOf ends books
    → place < length ends → get_or ends place end ≡ end → IsEndOf end books
end_at ends books place end are within here =
    subst (λ (e : PenEnd). IsEndOf e books) here (All-get_or (λ e. IsEndOf e books) ends place end within are)

-- what was taken of other pens stays
others_taken : (ends : List PenEnd) (old new : BooksView) (number n : ℕ) → n ≢ number
    → ((pen : ℕ) → pen ≢ number → get_elem? new.desks pen ≡ get_elem? old.desks pen) → IsAllTaken old ends n
    → IsAllTaken new ends n
others_taken ends old new number n differ others (place, end, at, is, (desk, there, all)) =
    let other : end_number end ≢ number = λ e. differ (sym is ∙ e) in
    (place, end, at, is, (desk, others (end_number end) other ∙ there, all))

-- ---- looking for an end

-- the end at this place has this number
pub is_place : (ends : List PenEnd) (place number : ℕ) (end : PenEnd) → place < length ends
    → end ≡ get_or ends place end → number ≡ end_number end → IsPlaceOf ends number place
is_place ends place number end within here is = (end, at_index ends place end within here, sym is)

-- there is one no more before the next place
pub none_before : (ends : List PenEnd) (place number : ℕ) (end : PenEnd) → place < length ends
    → end ≡ get_or ends place end → (number ≡ end_number end → ⊥)
    → ((p : ℕ) → p < place → IsPlaceOf ends number p → ⊥) → (p : ℕ) → p < place + 1 → IsPlaceOf ends number p → ⊥
none_before ends place number end within here differ none p before (other, at, is) = dite (ℕ_discrete p place)
    (λ last.
    let there : some end ≡ some other =
    sym (at_index ends place end within here) ∙ ap (λ (n : ℕ). get_elem? ends n) (sym last) ∙ at in
    let same : end ≡ other = cc in
    differ (sym is ∙ ap end_number (sym same)))
    (λ earlier. none p (omega (arith, before, earlier)) (other, at, is))

-- there is none at all
pub none_at_all : (ends : List PenEnd) (number count : ℕ) → length ends ≤ count
    → ((p : ℕ) → p < count → IsPlaceOf ends number p → ⊥) → HasEndOf ends number → ⊥
none_at_all ends number count all none (p, (other, at, is)) =
    let within = below ends p other at in none p (omega (arith, within, all)) (other, at, is)

-- one more of each
pub one_more_has : (ends : List PenEnd) (number : ℕ) → HaveEach number ends → HasEndOf ends number
    → HaveEach (number + 1) ends
one_more_has ends number so_far has n before = dite (ℕ_discrete n number)
    (λ last. subst (HasEndOf ends) (sym last) has)
    (λ earlier. so_far n (omega (arith, before, earlier)))

-- where a place is found there is an end
pub has_found : (ends : List PenEnd) (number : ℕ) (found : Option ℕ)
    → MatchOption found (HasEndOf ends number → ⊥) (IsPlaceOf ends number) → is_some found ≡ true
    → HasEndOf ends number
has_found ends number (Some place) is there = (place, is)
has_found ends number None is there = absurd cc

-- the end at the place that was found
same_number : (ends : List PenEnd) (place number : ℕ) (end : PenEnd) → IsPlaceOf ends number place
    → end ≡ get_or ends place end → (get_elem? ends place ≡ some end) × (end_number end ≡ number)
same_number ends place number end (other, at, is) here =
    let there = at_index ends place end (below ends place other at) here in
    let e : some end ≡ some other = sym there ∙ at in
    let same : end ≡ other = cc in
    (there, ap end_number same ∙ is)

-- what came of one end
pub record IsOneTaken (ends : List PenEnd) (old new : BooksView) (number : ℕ) (left : List PenEnd) : Type 0 where
  pub others : (n : ℕ) → n < number → IsAllTaken old ends n → IsAllTaken new ends n
  pub kept : AreKept ends left new

pub one_taken : (ends : List PenEnd) (old new : BooksView) (place number : ℕ) (end left : PenEnd)
    → IsPlaceOf ends number place → end ≡ get_or ends place end → AreEndsOf ends old
    → ((pen : ℕ) → pen ≢ end_number end → get_elem? new.desks pen ≡ get_elem? old.desks pen) → IsSameEnd end left
    → IsEndOf left new → KeepsPens old new → IsOneTaken ends old new number (set ends place left)
one_taken ends old new place number end left is here are others same belongs keeps =
    let (at, number_is) = same_number ends place number end is here in
    record {
      others = λ n before taken.
          others_taken ends old new number n (λ e. absurd (omega (arith, before, e)))
          (λ pen differ. others pen (λ e. differ (e ∙ number_is))) taken;
      kept = kept_once_taken ends old new place end left are keeps at same belongs;
    }

-- all of it was taken
pub one_whole : (ends : List PenEnd) (new : BooksView) (place number : ℕ) (end : PenEnd) → IsPlaceOf ends number place
    → end ≡ get_or ends place end → HasAllOf new end → IsAllTaken new ends number
one_whole ends new place number end is here whole =
    let (at, number_is) = same_number ends place number end is here in (place, end, at, number_is, whole)

-- it submitted more than can be counted
pub one_spent : (ends : List PenEnd) (new : BooksView) (place number : ℕ) (end : PenEnd) → IsPlaceOf ends number place
    → end ≡ get_or ends place end → IsSpent new end → HasSpentCount ends new
one_spent ends new place number end is here spent =
    (place, end, (same_number ends place number end is here).0, spent)

-- one pen more
pub taken_more : (start now : List PenEnd) (old new : BooksView) (number : ℕ) → AreSame start now
    → ((n : ℕ) → n < number → IsAllTaken old start n)
    → ((n : ℕ) → n < number → IsAllTaken old now n → IsAllTaken new now n) → IsAllTaken new now number → (n : ℕ)
    → n < number + 1 → IsAllTaken new start n
taken_more start now old new number same so_far others one n before = dite (ℕ_discrete n number)
    (λ last. subst (IsAllTaken new start) (sym last) (same_taken now start new number (same_back start now same) one))
    (λ other.
    let earlier : n < number = omega (arith, before, other) in
    same_taken now start new n (same_back start now same)
    (others n earlier (same_taken start now old n same (so_far n earlier))))

-- it is a matter of the desks alone
pub all_taken_at : (a b : BooksView) (ends : List PenEnd) → b.desks ≡ a.desks → AreAllTaken a ends
    → AreAllTaken b ends
all_taken_at a b ends same all =
    subst (λ (desks : List PenDesk). AreAllTaken (record a { desks = desks }) ends) (sym same) all
