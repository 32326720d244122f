-- Jobs that are taken and pushed.
use Rattle.std.proofs.Common.{◌≡◌, ◌≢◌, ℕ, ◌+◌, ◌<◌, ◌≤◌, Bool, true, false, ◌||◌, List, [], ◌∷◌, ◌++◌, length}
use Rattle.std.proofs.Common.{refl, sym, ap, ◌∙◌, subst, inl, inr, arith, zero, suc, ◌-◌, None, Some, sum_by}
use Rattle.std.proofs.lemmas.List.{get_or-set_same}
use Rattle.std.proofs.{lemmas.List.Sums.sum_by-append, lemmas.Bool.cases_eq, lemmas.Bool.cases_lt}
use Rattle.std.specs.List.{list_any}
use Rattle.tile_generations.specs.{declared.ticket.Ticket.Ticket, Jobs.Job}
use Rattle.border_queues.specs.TileWork.{TileWork, IsLeast, idle}
use Rattle.core_rules.specs.{Work.Core, Work.work_at, Sweeps.IsReady, Sweeps.IsTaken}
use Rattle.core_dispatch.specs.{Books.BooksView, Books.KeepsRest, declared.turned.Jobs.Jobs}
use Rattle.core_dispatch.specs.{declared.turned.Pushing.Pushing, Dispatching.Dispatcher}
use Rattle.core_dispatch.specs.declared.turned.Pushing.TheVariants.{Pushed, Refused, Wanting}
use Rattle.core_dispatch.specs.Jobs.{HavePushed, IsNextTile, IsPlaced, IsPushed, ArePushed, IsLeft, pushing, pushed_in}
use Rattle.core_dispatch.specs.Jobs.{is_wanting, with_core}
use Rattle.tiled_core.specs.Passing.{ArePassed}
use Rattle.core_dispatch.proofs.Rounds.{any_more}
use Rattle.core_dispatch.proofs.Marking.{IsMarkedAt, abandon_marks, marked_twice, take_marks, unmarked}

-- ---- one tile

-- what became of the job became of its tile
pub placed_is_pushed : (t : ℕ) (old new : Dispatcher) (books : BooksView) (job : Job) (answer : Pushing)
    → IsTaken old.books.core t (Some job) books.core → KeepsRest old.books books
    → IsPlaced (record old { books = books }) job answer new → IsPushed t old answer new
placed_is_pushed t old new books job Pushed is_taken rest same =
    let core : new.books.core ≡ books.core = ap (λ (d : Dispatcher). d.books.core) same in (
      job,
      subst (λ (c : Core). IsTaken old.books.core t (Some job) c) (sym core) is_taken,
      same
          ∙ ap (λ (b : BooksView). record old { books = b; owner = pushing old.owner job })
          (rest ∙ ap (λ (c : Core). record old.books { core = c }) (sym core)),
    )
placed_is_pushed t old new books job Refused is_taken rest (abandoned, same, full) = (
  job,
  books.core,
  is_taken,
  abandoned,
  same ∙ ap (λ (b : BooksView). record old { books = record b { core = new.books.core } }) rest,
  full,
)
placed_is_pushed t old new books job Wanting is_taken rest placed = absurd placed

-- whatever became of the tile, all others are as they were
pub pushed_elsewhere : (t : ℕ) (old new : Dispatcher) (pushing : Pushing) → IsPushed t old pushing new
    → IsMarkedAt t old.books.core new.books.core
pushed_elsewhere t old new Pushed (job, taken, rest) = take_marks old.books.core new.books.core t (Some job) taken
pushed_elsewhere t old new Refused (job, between, taken, abandoned, rest, full) =
    let here : job.ticket.tile ≡ t = ap (λ (k : Ticket). k.tile) taken.1.ticket in
    marked_twice t old.books.core between new.books.core (take_marks old.books.core between t (Some job) taken)
    (subst (λ (u : ℕ). IsMarkedAt u between new.books.core) here
    (abandon_marks between new.books.core job.ticket true abandoned))
pushed_elsewhere t old new Wanting (ready, same) =
    unmarked t old.books.core new.books.core (ap (λ (d : Dispatcher). d.books.core) same)

ready_before : (t u : ℕ) (before after : Core) → IsMarkedAt t before after → u ≢ t → IsReady after u → IsReady before u
ready_before t u before after elsewhere other ready =
    let same = elsewhere.others u other in record {
      is_tile =
          let count = elsewhere.marked.count in
          let lt : u < length after.tiles = ready.is_tile in omega (arith, count, lt);
      dirty = ap (λ (w : TileWork). w.dirty) (sym same) ∙ ready.dirty;
      none_out = ap (λ (w : TileWork). w.out) (sym same) ∙ ready.none_out;
    }

-- a tile whose job was pushed is out
not_ready : (t : ℕ) (old new : Dispatcher) → IsPushed t old Pushed new → IsReady new.books.core t → ⊥
not_ready t old new (job, (is_ready, next, same), rest) ready =
    let core = old.books.core in
    let work : TileWork = record (work_at core t) { dirty = false; out = Some core.serial } in
    let here : work_at new.books.core t ≡ work =
    ap (λ (c : Core). work_at c t) same ∙ get_or-set_same core.tiles t work idle is_ready.is_tile in
    let clean : false ≡ true = sym (ap (λ (w : TileWork). w.dirty) here) ∙ ready.dirty in
    cc

-- ---- one tile after another

-- the number after the last tile, or this one where there is none
abbrev pub end_of : ℕ → List (ℕ × Pushing) → ℕ
end_of from [] = from
end_of from ((t, pushing) ∷ tiles) = end_of (t + 1) tiles

end_more : (from : ℕ) (tiles : List (ℕ × Pushing)) (t : ℕ) (pushing : Pushing)
    → end_of from (tiles ++ (t, pushing) ∷ []) ≡ t + 1
end_more from [] t pushing = refl
end_more from ((u, first) ∷ tiles) t pushing = end_more (u + 1) tiles t pushing

-- one tile more
pushed_more : (from : ℕ) (a b c : Dispatcher) (tiles : List (ℕ × Pushing)) (t : ℕ) (pushing : Pushing)
    → ArePushed from a tiles b → end_of from tiles ≤ t → IsPushed t b pushing c
    → ArePushed from a (tiles ++ (t, pushing) ∷ []) c
pushed_more from a b c [] t pushing same within last =
    (within, (c, subst (λ (x : Dispatcher). IsPushed t x pushing c) same last, refl))
pushed_more from a b c ((u, first) ∷ tiles) t pushing (rises, (next, turn, rest)) within last =
    (rises, (next, turn, pushed_more (u + 1) next b c tiles t pushing rest within last))

-- a tile that is left stays among the left ones
left_still : (tiles : List (ℕ × Pushing)) (t u : ℕ) (pushing : Pushing) → IsLeft tiles u
    → IsLeft (tiles ++ (t, pushing) ∷ []) u
left_still [] t u pushing left = absurd left
left_still ((v, Pushed) ∷ tiles) t u pushing left = left_still tiles t u pushing left
left_still ((v, Refused) ∷ tiles) t u pushing (inl here) = inl here
left_still ((v, Refused) ∷ tiles) t u pushing (inr left) = inr (left_still tiles t u pushing left)
left_still ((v, Wanting) ∷ tiles) t u pushing (inl here) = inl here
left_still ((v, Wanting) ∷ tiles) t u pushing (inr left) = inr (left_still tiles t u pushing left)

last_left : (tiles : List (ℕ × Pushing)) (t : ℕ) (pushing : Pushing) → IsLeft ((t, pushing) ∷ []) t
    → IsLeft (tiles ++ (t, pushing) ∷ []) t
last_left [] t pushing left = left
last_left ((v, Pushed) ∷ tiles) t pushing left = last_left tiles t pushing left
last_left ((v, Refused) ∷ tiles) t pushing left = inr (last_left tiles t pushing left)
last_left ((v, Wanting) ∷ tiles) t pushing left = inr (last_left tiles t pushing left)

-- a tile that is ready once it had its turn is left
still_ready : (t : ℕ) (old new : Dispatcher) (pushing : Pushing) → IsPushed t old pushing new
    → IsReady new.books.core t → IsLeft ((t, pushing) ∷ []) t
still_ready t old new Pushed turn ready = absurd (not_ready t old new turn ready)
still_ready t old new Refused turn ready = inl refl
still_ready t old new Wanting turn ready = inl refl

-- the tiles below a number had their turn: those of them that are ready are left
abbrev pub LeftBelow : ℕ → Core → List (ℕ × Pushing) → Type 0
LeftBelow from core tiles = (t : ℕ) → t < from → IsReady core t → IsLeft tiles t

-- one tile more had its turn
left_more : (from t : ℕ) (old new : Dispatcher) (tiles : List (ℕ × Pushing)) (pushing : Pushing)
    → LeftBelow from old.books.core tiles → IsLeast (λ n. (from ≤ n) × IsReady old.books.core n) t
    → IsPushed t old pushing new → LeftBelow (t + 1) new.books.core (tiles ++ (t, pushing) ∷ [])
left_more from t old new tiles pushing below (is, least) turn u within ready = elim (cases_eq u t) [
  | inl here ↦
      let left = still_ready t old new pushing turn (subst (λ (v : ℕ). IsReady new.books.core v) here ready) in
      subst (λ (v : ℕ). IsLeft (tiles ++ (t, pushing) ∷ []) v) (sym here) (last_left tiles t pushing left)
  | inr other ↦
      let was = ready_before t u old.books.core new.books.core (pushed_elsewhere t old new pushing turn) other ready in
      elim (cases_lt u from) [
        | inl before ↦ left_still tiles t u pushing (below u before was)
        | inr from_on ↦ let no_less = least u (from_on, was) in absurd (omega (arith, within, other, no_less))
      ]
]

-- the tiles below a number had their turn, and this came of them
pub record ArePushedBelow (from : ℕ) (old : Dispatcher) (jobs : Jobs) (now : Dispatcher) : Type 0 where
  pub tiles : List (ℕ × Pushing)
  pub pushed : ArePushed 0 old tiles now
  pub end : end_of 0 tiles ≤ from
  pub left : LeftBelow from now.books.core tiles
  pub kept : length now.books.core.tiles ≡ length old.books.core.tiles
  pub few : jobs.jobs ≤ from
  pub count : jobs.jobs ≡ sum_by (λ tile. pushed_in tile.1) tiles
  pub memory : jobs.memory ≡ list_any (λ tile. is_wanting tile.1) tiles

-- no tile had its turn, and one more has
pub none_pushed : (old : Dispatcher) → ArePushedBelow 0 old (record { jobs = 0; memory = false }) old
none_pushed old = record {
  tiles = [];
  pushed = refl;
  end = omega arith;
  left = λ t within ready. absurd (omega (arith, within));
  kept = refl;
  few = omega arith;
  count = refl;
  memory = refl;
}

at_most_one : (pushing : Pushing) → pushed_in pushing ≤ 1
at_most_one Pushed = omega arith
at_most_one Refused = omega arith
at_most_one Wanting = omega arith

pub one_more_pushed : (from t : ℕ) (old now next : Dispatcher) (jobs more : Jobs) (pushing : Pushing)
    → ArePushedBelow from old jobs now → IsLeast (λ n. (from ≤ n) × IsReady now.books.core n) t
    → IsPushed t now pushing next → more.jobs ≡ jobs.jobs + pushed_in pushing
    → more.memory ≡ (jobs.memory || is_wanting pushing) → ArePushedBelow (t + 1) old more next
one_more_pushed from t old now next jobs more pushing so_far least turn jobs_are memory_is =
    let from_on : from ≤ t = least.0.0 in record {
      tiles = so_far.tiles ++ (t, pushing) ∷ [];
      pushed = pushed_more 0 old now next so_far.tiles t pushing so_far.pushed (omega arith) turn;
      end = omega (arith, end_more 0 so_far.tiles t pushing);
      left = left_more from t now next so_far.tiles pushing so_far.left least turn;
      kept = (pushed_elsewhere t now next pushing turn).marked.count ∙ so_far.kept;
      few = omega (arith, at_most_one pushing);
      count =
          let sums = sum_by-append (λ (tile : ℕ × Pushing). pushed_in tile.1) so_far.tiles ((t, pushing) ∷ []) in
          omega arith;
      memory =
          memory_is
          ∙ (ap (λ (b : Bool). b || is_wanting pushing) so_far.memory
          ∙ sym (any_more (λ (tile : ℕ × Pushing). is_wanting tile.1) so_far.tiles (t, pushing)));
    }

-- ---- tiles that are passed over

-- at a tile that can't be taken nothing happens
none_more : (from : ℕ) (old now : Dispatcher) (jobs : Jobs) → ArePushedBelow from old jobs now
    → (IsReady now.books.core from → ⊥) → ArePushedBelow (from + 1) old jobs now
none_more from old now jobs so_far not = record {
  tiles = so_far.tiles;
  pushed = so_far.pushed;
  end = omega (arith, so_far.end);
  left = λ t within ready. elim (cases_eq t from) [
    | inl here ↦ absurd (not (subst (λ (u : ℕ). IsReady now.books.core u) here ready))
    | inr other ↦ so_far.left t (omega (arith, within, other)) ready
  ];
  kept = so_far.kept;
  few = omega (arith, so_far.few);
  count = so_far.count;
  memory = so_far.memory;
}

or_none : (b : Bool) → b ≡ (b || false)
or_none true = refl
or_none false = refl

-- tiles that are passed over are refused
passed_below : (n from : ℕ) (old now : Dispatcher) (jobs : Jobs) (after : Core) → ArePushedBelow from old jobs now
    → now.owner.capacity ≤ length now.owner.pushed → ArePassed from n now.books.core after
    → ArePushedBelow (from + n) old jobs (with_core now after)
passed_below zero from old now jobs after so_far full same =
    subst (λ (k : ℕ). ArePushedBelow k old jobs (with_core now after)) (omega arith)
    (subst (λ (c : Core). ArePushedBelow from old jobs (with_core now c)) (sym same) so_far)
passed_below (suc n) from old now jobs after so_far full (between, first, rest) =
    let on : from + 1 + n ≡ from + suc n = omega arith in
    elim first [
      | inl passed ↦
          let next : Dispatcher = with_core now between in
          let turn : IsPushed from now Refused next =
          (passed.job, passed.between, passed.is_taken, passed.is_abandoned, refl, full) in
          let least : IsLeast (λ k. (from ≤ k) × IsReady now.books.core k) from =
          ((omega arith, passed.is_taken.0), λ k there. there.0) in
          let more =
          one_more_pushed from from old now next jobs jobs Refused so_far least turn (omega arith)
          (or_none jobs.memory) in
          subst (λ (k : ℕ). ArePushedBelow k old jobs (with_core now after)) on
          (passed_below n (from + 1) old next jobs after more full rest)
      | inr (not, same) ↦
          let more = none_more from old now jobs so_far not in
          subst (λ (k : ℕ). ArePushedBelow k old jobs (with_core now after)) on
          (passed_below n (from + 1) old now jobs after more full
          (subst (λ (c : Core). ArePassed (from + 1) n c after) same rest))
    ]

-- the tiles below some number had their turn, and this is the first one that is ready from there on
pub record IsNextBelow (t : ℕ) (old : Dispatcher) (jobs : Jobs) (now : Dispatcher) : Type 0 where
  pub from : ℕ
  pub so_far : ArePushedBelow from old jobs now
  pub least : IsLeast (λ n. (from ≤ n) × IsReady now.books.core n) t

pub next_below : (from t : ℕ) (old now next : Dispatcher) (jobs : Jobs) → ArePushedBelow from old jobs now
    → IsNextTile from (Some t) now next → IsNextBelow t old jobs next
next_below from t old now next jobs so_far (inl (same, least)) = record {
  from = from;
  so_far = subst (λ (d : Dispatcher). ArePushedBelow from old jobs d) (sym same) so_far;
  least = subst (λ (d : Dispatcher). IsLeast (λ n. (from ≤ n) × IsReady d.books.core n) t) (sym same) least;
}
next_below from t old now next jobs so_far (inr (full, same, (rises, ready, passed))) = record {
  from = t;
  so_far =
      subst (λ (d : Dispatcher). ArePushedBelow t old jobs d) (sym same)
      (subst (λ (k : ℕ). ArePushedBelow k old jobs (with_core now next.books.core)) (omega (arith, rises))
      (passed_below (t - from) from old now jobs next.books.core so_far full passed));
  least = ((omega arith, ready), λ k there. there.0);
}

-- each tile had its turn
all_pushed : (from : ℕ) (old now : Dispatcher) (jobs : Jobs) → ArePushedBelow from old jobs now
    → ((t : ℕ) → from ≤ t → IsReady now.books.core t → ⊥) → HavePushed old jobs now
all_pushed from old now jobs so_far none = record {
  tiles = so_far.tiles;
  pushed = so_far.pushed;
  left = λ t ready. elim (cases_lt t from) [
    | inl below ↦ so_far.left t below ready
    | inr from_on ↦ absurd (none t from_on ready)
  ];
  count = so_far.count;
  memory = so_far.memory;
}

pub pushed_to_end : (from : ℕ) (old now next : Dispatcher) (jobs : Jobs) → ArePushedBelow from old jobs now
    → IsNextTile from None now next → HavePushed old jobs next
pushed_to_end from old now next jobs so_far (inl (same, none)) =
    subst (λ (d : Dispatcher). HavePushed old jobs d) (sym same) (all_pushed from old now jobs so_far none)
pushed_to_end from old now next jobs so_far (inr (full, same, passed)) =
    let count = length now.books.core.tiles in
    let all =
    passed_below (count - from) from old now jobs next.books.core so_far full passed in
    subst (λ (d : Dispatcher). HavePushed old jobs d) (sym same)
    (all_pushed (from + (count - from)) old (with_core now next.books.core) jobs all (λ t from_on ready.
    let within : t < length next.books.core.tiles = ready.is_tile in
    omega (arith, from_on, within, all.kept, so_far.kept)))
