-- Rounds over the pens.
use Rattle.std.proofs.Common.{◌≡◌, ℕ, ◌+◌, ◌≤◌, Bool, true, false, ◌||◌, List, [], ◌∷◌, ◌++◌, length, refl, sym, ap}
use Rattle.std.proofs.Common.{◌∙◌, subst, arith, Result, Ok, Err, IfOk, OnErr, sum_by}
use Rattle.std.proofs.lemmas.List.{append-nil, append_assoc, length-append, Sums.sum_by-append}
use Rattle.std.specs.List.{list_any}
use Rattle.grid_core.specs.declared.memory.Memory.{Memory as Wanting}
use Rattle.core_rules.specs.Events.{Merge, OfMerge}
use Rattle.core_rules.specs.Runs.{Entry}
use Rattle.core_rules.proofs.Running.{run_append}
use Rattle.core_dispatch.specs.{declared.refusal.Refusal.Refusal, declared.taken.Taken.Taken, Pens.KeepsPens}
use Rattle.core_dispatch.specs.declared.taken.Taken.TheVariants.{Nothing, Merged, Listed}
use Rattle.core_dispatch.specs.Books.{BooksView, edits_of}
use Rattle.core_dispatch.specs.Taking.{IsEditTaken, IsPenTurn, ArePenTurns, AreMerges, HaveTakenEdits, edits_in}

-- one turn more
pub turns_more : (pen : ℕ) (a b c : BooksView) (answers : List (Result Taken Wanting)) (answer : Result Taken Wanting)
    (at : ℕ) → at ≡ pen + length answers → ArePenTurns pen a answers b → IsPenTurn at b answer c
    → ArePenTurns pen a (answers ++ answer ∷ []) c
turns_more pen a b c [] answer at is same turn =
    let here : at ≡ pen = omega arith in
    (c, subst (λ (n : ℕ). IsPenTurn n a answer c) here (subst (λ x. IsPenTurn at x answer c) same turn), refl)
turns_more pen a b c (first ∷ answers) answer at is (next, turn, rest) last =
    (next, turn, turns_more (pen + 1) next b c answers answer at (omega arith) rest last)

merges_append : (first second : List Entry) → AreMerges first → AreMerges second → AreMerges (first ++ second)
merges_append [] second none more = more
merges_append ((Merge delta, answer) ∷ log) second rest more = merges_append log second rest more
merges_append (entry ∷ log) second rest more = absurd rest

-- no edit was taken
pub none_taken : (old new : BooksView) → new.core ≡ old.core → new.refusals ≡ old.refusals
    → new.opening ≡ old.opening → HaveTakenEdits old 0 new
none_taken old new core same opening = record {
  log = [];
  listed = [];
  run = core;
  merges = tt;
  refusals = same ∙ sym (append-nil old.refusals);
  all = refl;
  opening = opening;
}

pub more_taken : (a b c : BooksView) (n k : ℕ) → HaveTakenEdits a n b → HaveTakenEdits b k c
    → HaveTakenEdits a (n + k) c
more_taken a b c n k first second = record {
  log = first.log ++ second.log;
  listed = first.listed ++ second.listed;
  run = run_append a.core b.core c.core first.log second.log first.run second.run;
  merges = merges_append first.log second.log first.merges second.merges;
  refusals =
      second.refusals ∙ ap (λ (l : List Refusal). l ++ second.listed) first.refusals
      ∙ append_assoc a.refusals first.listed second.listed;
  all = omega (arith, length-append first.log second.log, length-append first.listed second.listed);
  opening = second.opening ∙ first.opening;
}

pub one_taken : (pen : ℕ) (old new : BooksView) (answer : Result Taken Wanting) → IsPenTurn pen old answer new
    → HaveTakenEdits old (edits_in answer) new
one_taken pen old new (Err wanting) same =
    subst (λ (b : BooksView). HaveTakenEdits old 0 b) (sym same) (none_taken old old refl refl refl)
one_taken pen old new (Ok Nothing) t = none_taken old new t.becomes.1 t.becomes.2 t.opening
one_taken pen old new (Ok Merged) t =
    let (delta, next, merged, same) = t.becomes in
    record {
      log = (Merge delta, OfMerge merged.0) ∷ [];
      listed = [];
      run = (new.core, merged.1, refl);
      merges = tt;
      refusals = same ∙ sym (append-nil old.refusals);
      all = refl;
      opening = t.opening;
    }
one_taken pen old new (Ok (Listed error)) t =
    let (delta, next, core, why, more) = t.becomes in
    record {
      log = [];
      listed = record { pen = pen; number = length (edits_of t.desk); error = error; delta = delta } ∷ [];
      run = core;
      merges = tt;
      refusals = more;
      all = refl;
      opening = t.opening;
    }

pub pens_through : (a b c : BooksView) → KeepsPens a b → KeepsPens b c → KeepsPens a c
pens_through a b c first second = record {
  count = second.count ∙ first.count;
  pens = λ pen h. second.pens pen (first.pens pen h);
  ends = λ end h. second.ends end (first.ends end h);
}

pub any_more : {X : Type 0} (p : X → Bool) (l : List X) (x : X) → list_any p (l ++ x ∷ []) ≡ (list_any p l || p x)
any_more p [] x = or_false (p x) where
  or_false : (b : Bool) → (b || false) ≡ b
  or_false true = refl
  or_false false = refl
any_more p (y ∷ l) x = ap (λ (b : Bool). p y || b) (any_more p l x) ∙ assoc (p y) (list_any p l) (p x) where
  assoc : (a b c : Bool) → (a || (b || c)) ≡ ((a || b) || c)
  assoc true b c = refl
  assoc false b c = refl

-- so many answers came, and so many of them count, at most all; for want of memory came one of them or none
pub record AreCounted {A : Type 0} (counts : A → ℕ) (wants : A → Bool) (answers : List A) (many count : ℕ)
    (memory : Bool) : Type 0 where
  pub all : length answers ≡ many
  pub count_is : count ≡ sum_by counts answers
  pub memory_is : memory ≡ list_any wants answers
  pub few : count ≤ many

pub none_counted : {A : Type 0} (counts : A → ℕ) (wants : A → Bool) → AreCounted counts wants [] 0 0 false
none_counted counts wants = record { all = refl; count_is = refl; memory_is = refl; few = omega arith }

-- one answer more
pub counted_more : {A : Type 0} (counts : A → ℕ) (wants : A → Bool) (answers : List A) (answer : A)
    (many count more : ℕ) (memory now : Bool) → AreCounted counts wants answers many count memory
    → counts answer ≤ 1 → more ≡ count + counts answer → now ≡ (memory || wants answer)
    → AreCounted counts wants (answers ++ answer ∷ []) (many + 1) more now
counted_more counts wants answers answer many count more memory now so_far one sum either = record {
  all = omega (arith, length-append answers (answer ∷ []));
  count_is = omega (arith, sum_by-append counts answers (answer ∷ []));
  memory_is =
      either ∙ (ap (λ (b : Bool). b || wants answer) so_far.memory_is ∙ sym (any_more wants answers answer));
  few = omega arith;
}

pub turn_of : (pen : ℕ) (old new : BooksView) (answer : Result Taken Wanting)
    → IfOk answer (λ taken. IsEditTaken pen old taken new) → OnErr answer (new ≡ old) → IsPenTurn pen old answer new
turn_of pen old new (Ok taken) happens same = happens
turn_of pen old new (Err wanting) happens same = same

pub at_most_one : (answer : Result Taken Wanting) → edits_in answer ≤ 1
at_most_one (Ok Nothing) = omega arith
at_most_one (Ok Merged) = omega arith
at_most_one (Ok (Listed error)) = omega arith
at_most_one (Err wanting) = omega arith
