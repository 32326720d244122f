-- A pen and its desk.
use Rattle.std.proofs.Common.{◌≡◌, ℕ, zero, suc, ◌+◌, ◌<◌, List, [], ◌∷◌, ◌++◌, length, map, replicate, Global, refl}
use Rattle.std.proofs.Common.{sym, ap, ◌∙◌, arith}
use Rattle.std.proofs.lemmas.List.{length-map, length-replicate}
use mathlib.Core.Logic.{dite}
use native.Mathlib.Decide.{ℕ_discrete}
use lib.ListN.{get_elem?}
use Rattle.atomic_table.proofs.Lists.{at_longer, at_last}
use Rattle.rtrb.specs.{declared.AnyItems.AnyItems, declared.producer.Producer.Producer}
use Rattle.rtrb.specs.{declared.consumer.Consumer.Consumer, declared.finished.Finished.Finished}
use Rattle.rtrb.specs.Ring.{SameProducer, Finishes, IsPair, IsFinishedOf}
use Rattle.stroke_lattice.specs.State.{State}
use Rattle.core_dispatch.specs.{declared.desk.PenDesk.PenDesk, declared.pen.Pen.Pen, Books.edits_of}
use Rattle.core_dispatch.specs.Pens.{number_of, submitted, KeepsDesk, HasItsDesk, AreRings}

-- the pen's ring is the same one, and so is what is left of it
pair_moved : (old new : Producer State Global AnyItems) (consumer : Consumer State Global AnyItems)
    → SameProducer old new → IsPair old consumer → IsPair new consumer
pair_moved old new consumer ((words, slots, names, heap), room) (w, s, n, h) =
    (w ∙ sym words, s ∙ sym slots, n ∙ sym names, h ∙ sym heap)

pub pair_finished : (pen : Producer State Global AnyItems) (end : Finished State Global AnyItems)
    (consumer : Consumer State Global AnyItems) → Finishes pen end → IsPair pen consumer → IsFinishedOf end consumer
pair_finished pen end consumer ((words, slots, names, heap), sent) (w, s, n, h) =
    (w ∙ sym words, s ∙ sym slots, n ∙ sym names, h ∙ sym heap)

-- a pen of the same number that sends into the same ring has the same desk
pub desk_kept : (old new : Pen) → number_of new ≡ number_of old → SameProducer old.producer new.producer
    → KeepsDesk old new
desk_kept old new number same = record {
  number = number;
  books = λ books (desk, at, pair). (
    desk,
    ap (λ (n : ℕ). get_elem? books.desks n) number ∙ at,
    pair_moved old.producer new.producer desk.consumer same pair,
  );
}

-- a pen has its desk, and what has it still has it later on
pub desk_stays : (pen : Pen) → KeepsDesk pen pen
desk_stays pen = record { number = refl; books = λ books is. is }

pub desk_through : (a b c : Pen) → KeepsDesk a b → KeepsDesk b c → KeepsDesk a c
desk_through a b c first second = record {
  number = second.number ∙ first.number;
  books = λ books is. second.books books (first.books books is);
}

-- what all have in common, the next one has too
one_more : {X : Type 0} (f : X → List State) (l : List X) (x : X) (n : ℕ) → map f l ≡ replicate n []
    → f x ≡ [] → map f (l ++ x ∷ []) ≡ replicate (n + 1) []
one_more f [] x zero all none = ap (λ (e : List State). e ∷ []) none
one_more f [] x (suc n) all none = absurd cc
one_more f (y ∷ ys) x zero all none = absurd cc
one_more f (y ∷ ys) x (suc n) all none =
    let head : f y ≡ [] = cc in
    let tail : map f ys ≡ replicate n [] = cc in
    let rest = one_more f ys x n tail none in
    let e : suc n + 1 ≡ suc (n + 1) = omega arith in
    rw e (cc (head, rest))

count_of : {X : Type 0} (f : X → List State) (l : List X) (n : ℕ) → map f l ≡ replicate n [] → length l ≡ n
count_of f l n all =
    sym (length-map l f) ∙ (ap (λ (m : List (List State)). length m) all ∙ length-replicate n [])

-- one ring more
rings_more : (pens : List Pen) (desks : List PenDesk) (n : ℕ) (pen : Pen) (desk : PenDesk)
    → map edits_of desks ≡ replicate n [] → map submitted pens ≡ replicate n []
    → ((i : ℕ) → i < n → HasItsDesk pens desks i) → number_of pen ≡ n → IsPair pen.producer desk.consumer
    → (i : ℕ) → i < n + 1 → HasItsDesk (pens ++ pen ∷ []) (desks ++ desk ∷ []) i
rings_more pens desks n pen desk taken sent so_far is pair i within = dite (ℕ_discrete i n)
    (λ last. (
      pen,
      at_last pens pen i (count_of submitted pens n sent ∙ sym last),
      is ∙ sym last,
      (desk, at_last desks desk (number_of pen) (count_of edits_of desks n taken ∙ sym is), pair),
    ))
    (λ other.
    let (old, at, number_is, (of_old, there, rings)) = so_far i (omega (arith, within, other)) in (
      old,
      at_longer pens (pen ∷ []) i old at,
      number_is,
      (of_old, at_longer desks (desk ∷ []) (number_of old) of_old there, rings),
    ))

pub ring_added : (pens : List Pen) (desks : List PenDesk) (n : ℕ) (pen : Pen) (desk : PenDesk) → AreRings n desks pens
    → edits_of desk ≡ [] → submitted pen ≡ [] → number_of pen ≡ n → IsPair pen.producer desk.consumer
    → AreRings (n + 1) (desks ++ desk ∷ []) (pens ++ pen ∷ [])
ring_added pens desks n pen desk so_far empty fresh is pair = record {
  taken = one_more edits_of desks desk n so_far.taken empty;
  sent = one_more submitted pens pen n so_far.sent fresh;
  rings = rings_more pens desks n pen desk so_far.taken so_far.sent so_far.rings is pair;
}
