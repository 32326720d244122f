-- An edit that is taken at a desk.
use Rattle.std.proofs.Common.{◌≡◌, ℕ, ◌<◌, List, [], ◌∷◌, ◌++◌, length, get_or, set, map, sym, refl, ap, ◌∙◌, subst}
use Rattle.std.proofs.Common.{Result, Ok, Err}
use Rattle.std.proofs.lemmas.List.{map-set, length-set}
use mathlib.Core.Option.{some, some-injective}
use mathlib.Core.Logic.{dite}
use native.Mathlib.Decide.{ℕ_discrete}
use lib.ListN.{get_elem?}
use Rattle.atomic_table.proofs.Lists.{at_index, at_map, set_here, set_else, set_again}
use Rattle.rtrb.specs.Ring.{SameConsumer, IsPair, IsFinishedOf}
use Rattle.stroke_lattice.specs.State.{State}
use Rattle.grid_core.specs.declared.memory.Memory.{Memory as Wanting}
use Rattle.core_rules.specs.Work.{Core}
use Rattle.core_dispatch.specs.{declared.refusal.Refusal.Refusal, declared.desk.PenDesk.PenDesk, declared.pen.Pen.Pen}
use Rattle.core_dispatch.specs.{declared.pen.PenEnd.PenEnd, Pens.KeepsPens, Pens.number_of, Pens.end_number}
use Rattle.core_dispatch.specs.{declared.taken.Taken.Taken, Taking.Becomes, Taking.IsEditTaken, Taking.IsPenTurn}
use Rattle.core_dispatch.specs.Books.{BooksView, IsFaithful, ledger, edits_of}
use Rattle.steal_pool.proofs.Deals.{below}
use Rattle.core_dispatch.proofs.{Reasons.reason_not_merged, Ledgers.merged, Ledgers.listed}
use Rattle.core_dispatch.specs.declared.taken.Taken.TheVariants as answers

-- ---- rings

pair_kept : (pen : Pen) (desk after : PenDesk) → SameConsumer desk.consumer after.consumer
    → IsPair pen.producer desk.consumer → IsPair pen.producer after.consumer
pair_kept pen desk after ((words, slots, names, heap), room) (w, s, n, h) = (words ∙ w, slots ∙ s, names ∙ n, heap ∙ h)

finished_kept : (end : PenEnd) (desk after : PenDesk) → SameConsumer desk.consumer after.consumer
    → IsFinishedOf end.finished desk.consumer → IsFinishedOf end.finished after.consumer
finished_kept end desk after ((words, slots, names, heap), room) (w, s, n, h) =
    (words ∙ w, slots ∙ s, names ∙ n, heap ∙ h)

-- where one desk is another end of the same ring, each pen has its desk still
pub pens_kept : (old new : BooksView) (pen : ℕ) (desk after : PenDesk) → get_elem? old.desks pen ≡ some desk
    → new.desks ≡ set old.desks pen after → SameConsumer desk.consumer after.consumer → KeepsPens old new
pens_kept old new pen desk after at desks same = record {
  count = ap (λ (l : List PenDesk). length l) desks ∙ length-set old.desks pen after;
  pens = λ p (d, there, pair).
      at_each (λ e. IsPair p.producer e.consumer) (number_of p) d (pair_kept p desk after same) there pair;
  ends = λ end (d, there, its).
      at_each (λ e. IsFinishedOf end.finished e.consumer) (end_number end) d (finished_kept end desk after same) there
      its;
}
  where
    at_each : (P : PenDesk → Type 0) (number : ℕ) (d : PenDesk) → (P desk → P after)
        → get_elem? old.desks number ≡ some d → P d → (e : PenDesk) × (get_elem? new.desks number ≡ some e) × P e
    at_each P number d keeps there is =
        let moved = ap (λ (l : List PenDesk). get_elem? l number) desks in
        dite (ℕ_discrete number pen)
        (λ here.
        let at_pen = ap (λ (j : ℕ). get_elem? (set old.desks pen after) j) here in
        let its : d ≡ desk = some-injective d desk (sym there ∙ (ap (λ (j : ℕ). get_elem? old.desks j) here ∙ at)) in (
          after,
          moved ∙ (at_pen ∙ set_here old.desks pen after (below old.desks pen desk at)),
          keeps (subst P its is),
        ))
        (λ other. (d, moved ∙ (set_else old.desks pen number after other ∙ there), is))

-- the same books keep them
pub same_pens : (old new : BooksView) → new ≡ old → KeepsPens old new
same_pens old new same = subst (λ (b : BooksView). KeepsPens old b) (sym same)
    (record { count = refl; pens = λ pen h. h; ends = λ end h. h })

-- so each pen has its desk still, whatever its turn came to
pub turn_keeps_pens : (pen : ℕ) (old new : BooksView) (answer : Result Taken Wanting) → IsPenTurn pen old answer new
    → KeepsPens old new
turn_keeps_pens pen old new (Ok taken) t = pens_kept old new pen t.desk t.after t.at t.desks t.ring
turn_keeps_pens pen old new (Err wanting) same = same_pens old new same

-- the desk that the fields have at a number is the books'
pub desk_at : (b value : BooksView) (pen : ℕ) (desk : PenDesk) → b ≡ value → pen < length value.desks
    → desk ≡ get_or b.desks pen desk → get_elem? b.desks pen ≡ some desk
desk_at b value pen desk same within is =
    at_index b.desks pen desk (subst (λ (v : BooksView). pen < length v.desks) (sym same) within) is

-- ---- books in which one desk moved on

module _ (b : BooksView) (pen : ℕ) (desk new : PenDesk) (at : get_elem? b.desks pen ≡ some desk) where
  abbrev taken_of : List PenDesk → List (List State)
  taken_of desks = map edits_of desks

  at_taken : get_elem? (ledger b).taken pen ≡ some (edits_of desk)
  at_taken = at_map edits_of b.desks pen desk at

  popped : (delta : State) → edits_of new ≡ edits_of desk ++ delta ∷ []
      → taken_of (set b.desks pen new) ≡ set (taken_of b.desks) pen (edits_of desk ++ delta ∷ [])
  popped delta e = map-set edits_of b.desks pen new ∙ ap (λ (l : List State). set (taken_of b.desks) pen l) e

  not_popped : edits_of new ≡ edits_of desk → taken_of (set b.desks pen new) ≡ taken_of b.desks
  not_popped e =
      map-set edits_of b.desks pen new
      ∙ (ap (λ (l : List State). set (taken_of b.desks) pen l) e
      ∙ set_again (taken_of b.desks) pen (edits_of desk) at_taken)

  abbrev pub books : Core → List Refusal → BooksView
  books after refusals = record b { core = after; desks = set b.desks pen new; refusals = refusals }

  pub passed_books : (refusals : List Refusal) → IsFaithful (ledger b) → edits_of new ≡ edits_of desk
      → refusals ≡ b.refusals → IsFaithful (ledger (books b.core refusals))
  passed_books refusals f e same =
      subst (λ (rs : List Refusal). IsFaithful (ledger (books b.core rs))) (sym same)
      (subst (λ (t : List (List State)). IsFaithful (record (ledger b) { taken = t })) (sym (not_popped e)) f)

  -- what became of the edit keeps the books faithful
  pub faithful : (taken : Taken) (after : Core) (refusals : List Refusal)
      → Becomes pen b desk taken (books after refusals) new → IsFaithful (ledger b)
      → IsFaithful (ledger (books after refusals))
  faithful answers.Nothing after refusals (none, core, same) f =
      subst (λ (c : Core). IsFaithful (ledger (books c refusals))) (sym core)
      (passed_books refusals f none.edits same)
  faithful answers.Merged after refusals (delta, next, (turnover, m), same) f =
      subst (λ (rs : List Refusal). IsFaithful (ledger (books after rs))) (sym same)
      (subst (λ (t : List (List State)). IsFaithful (record (ledger b) { core = after; taken = t }))
      (sym (popped delta next.edits)) (merged (ledger b) pen (edits_of desk) delta turnover after f at_taken m))
  faithful (answers.Listed error) after refusals (delta, next, core, why, more) f =
      let r : Refusal = record { pen = pen; number = length (edits_of desk); error = error; delta = delta } in
      subst (λ (c : Core). IsFaithful (ledger (books c refusals))) (sym core)
      (subst (λ (rs : List Refusal). IsFaithful (ledger (books b.core rs))) (sym more)
      (subst
      (λ (t : List (List State)). IsFaithful (record (ledger b) { taken = t; refusals = b.refusals ++ r ∷ [] }))
      (sym (popped delta next.edits))
      (listed (ledger b) pen (edits_of desk) r f at_taken refl refl (reason_not_merged b.core delta error why))))

  pub took : (taken : Taken) (after : Core) (refusals : List Refusal) → SameConsumer desk.consumer new.consumer
      → Becomes pen b desk taken (books after refusals) new → IsEditTaken pen b taken (books after refusals)
  took taken after refusals ring becomes = record {
    desk = desk;
    after = new;
    at = at;
    ring = ring;
    desks = refl;
    opening = refl;
    becomes = becomes;
  }
