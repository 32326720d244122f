-- The rows of a table and its sets stay in step where one row changes, and the sets say what is left.
use Rattle.std.proofs.Common.{◌≡◌, ◌≢◌, ℕ, zero, suc, ◌<◌, ◌≤◌, Bool, true, false, List, ◌∷◌, map, length, get_or, set}
use Rattle.std.proofs.Common.{replicate, refl, sym, ◌∙◌, ap, subst, arith, inl, inr, ◌↔◌, Option, Some, None, []}
use Rattle.std.proofs.Common.{MatchOption, is_some, IsTrue, not, ◌&&◌, ◌+◌, ◌-◌}
use Rattle.std.proofs.lemmas.Bool.{cases_eq, cases_lt, and_from, and_parts, not-true, both_ways, false_from_ne_true}
use Rattle.std.proofs.lemmas.List.{length-set, length-map, get_or-map, get_or-set_same, get_or-set_other, map-set}
use Rattle.std.proofs.lemmas.List.{set-get_or, length-replicate, get_or-replicate, get_or_past}
use Rattle.border_queues.specs.declared.hint.Hint.{Hint}
use Rattle.border_queues.specs.TileWork.{TileWork, idle, IsIdle, fresh, IsLeast, work_of}
use Rattle.tile_generations.specs.Generations.{max_generation}
use Rattle.tile_work.specs.{declared.work_table.row.TileRow.TileRow, declared.work_table.WorkTable.TheInside.Inside}
use Rattle.tile_work.specs.{TileSet.Has, TileSet.HasNoneFrom, TileSet.IsFirstFrom, Least.IsLeastFrom}
use Rattle.tile_work.specs.WorkTable.{IsDirtyTile, HasJobOut, HasHintsAt, CanBeTaken, as_work, works_of, is_some_hint}
use Rattle.tile_work.specs.WorkTable.{dirty_bits, out_bits, waiting_bits, AreInStep, can_be_taken, ready_in}
use Rattle.tile_work.specs.{Counts.count_from, TileSet.is_without}
use Rattle.tile_work.proofs.{Counts.count_alike, Leasts.least_alike, Leasts.least_of_set}

-- ---- one row changes

-- what the rows say of a tile, as a bit for each, at a tile whose row is known
bit_stays : (says : TileWork → Bool) (bits : List Bool) (works : List TileWork) → bits ≡ map says works → (t : ℕ)
    → t < length works → bits ≡ set bits t (says (work_of works t))
bit_stays says bits works same t within =
    let bit : get_or bits t false ≡ says (work_of works t) =
    ap (λ (b : List Bool). get_or b t false) same ∙ get_or-map says works t idle false within in
    sym (ap (set bits t) (sym bit) ∙ set-get_or bits t false)

bit_changes : (says : TileWork → Bool) (bits : List Bool) (works : List TileWork) → bits ≡ map says works → (t : ℕ)
    → (new : TileWork) → set bits t (says new) ≡ map says (set works t new)
bit_changes says bits works same t new =
    ap (λ (b : List Bool). set b t (says new)) same ∙ sym (map-set says works t new)

-- the row of a tile, in a table that is seen as `now`
pub record IsRowAt (table : Inside) (now : List TileWork) (t : ℕ) (row : TileRow) : Type 0 where
  pub view_is : works_of table.rows.items ≡ now
  pub in_table : t < length now
  pub row_is : row ≡ get_or table.rows.items t row
  pub in_step : AreInStep (works_of table.rows.items) table.dirty table.out table.waiting

module _ {table : Inside} {now : List TileWork} {t : ℕ} {row : TileRow} (at : IsRowAt table now t row) where
  in_works : t < length (works_of table.rows.items)
  in_works =
      let same = ap length at.view_is in
      let there = at.in_table in
      omega (arith, same, there)

  read : work_of (works_of table.rows.items) t ≡ as_work row
  read =
      let mapped = length-map table.rows.items as_work in
      let works = in_works in
      let there : t < length table.rows.items = omega (arith, mapped, works) in
      get_or-map as_work table.rows.items t row idle there ∙ ap as_work (sym at.row_is)

  pub work_is : as_work row ≡ work_of now t
  work_is = sym read ∙ ap (λ (works : List TileWork). work_of works t) at.view_is

  -- the work at the tile changes, and no other
  pub row_changed : (change : TileWork → TileWork) (new : TileRow) → as_work new ≡ change (as_work row)
      → works_of (set table.rows.items t new) ≡ set now t (change (work_of now t))
  row_changed change new same =
      map-set as_work table.rows.items t new
      ∙ ap (λ (works : List TileWork). set works t (as_work new)) at.view_is
      ∙ ap (set now t) (same ∙ ap change work_is)

  pub dirty_stays : table.dirty ≡ set table.dirty t row.dirty
  dirty_stays =
      bit_stays (λ work. work.dirty) table.dirty (works_of table.rows.items) at.in_step.dirty_in_step t in_works
      ∙ ap (λ (w : TileWork). set table.dirty t w.dirty) read

  pub out_stays : table.out ≡ set table.out t (is_some row.out)
  out_stays =
      bit_stays (λ work. is_some work.out) table.out (works_of table.rows.items) at.in_step.out_in_step t in_works
      ∙ ap (λ (w : TileWork). set table.out t (is_some w.out)) read

  pub waiting_stays : table.waiting ≡ set table.waiting t (is_some_hint row.inbox.hints)
  waiting_stays =
      bit_stays (λ work. is_some_hint work.inbox) table.waiting (works_of table.rows.items)
      at.in_step.waiting_in_step t in_works
      ∙ ap (λ (w : TileWork). set table.waiting t (is_some_hint w.inbox)) read

  pub row_bounded : row.generation ≤ max_generation
  row_bounded = subst (λ (w : TileWork). w.generation ≤ max_generation) read (at.in_step.bounded t in_works)

  changed_bounded : (new : TileWork) → new.generation ≤ max_generation → (u : ℕ)
      → u < length (set (works_of table.rows.items) t new)
      → (work_of (set (works_of table.rows.items) t new) u).generation ≤ max_generation
  changed_bounded new most u within =
      let works = works_of table.rows.items in
      let same = length-set works t new in
      let there : u < length works = omega (arith, same, within) in
      elim (cases_eq u t) [
        | inl here ↦
            subst (λ (w : TileWork). w.generation ≤ max_generation)
            (sym (ap (λ i. get_or (set works t new) i idle) here ∙ get_or-set_same works t new idle in_works)) most
        | inr other ↦
            subst (λ (w : TileWork). w.generation ≤ max_generation)
            (sym (get_or-set_other works t u new idle other)) (at.in_step.bounded u there)
      ]

  -- the sets that say what the new row says are in step with the rows
  pub stays_in_step : (new : TileRow) → new.generation ≤ max_generation → (dirty out waiting : List Bool)
      → dirty ≡ set table.dirty t new.dirty → out ≡ set table.out t (is_some new.out)
      → waiting ≡ set table.waiting t (is_some_hint new.inbox.hints)
      → AreInStep (works_of (set table.rows.items t new)) dirty out waiting
  stays_in_step new most dirty out waiting dirty_is out_is waiting_is =
      let work = as_work new in
      let works = works_of table.rows.items in
      let step = at.in_step in
      let changed : AreInStep (set works t work) dirty out waiting = record {
        dirty_in_step = dirty_is ∙ bit_changes (λ work. work.dirty) table.dirty works step.dirty_in_step t work;
        out_in_step = out_is ∙ bit_changes (λ work. is_some work.out) table.out works step.out_in_step t work;
        waiting_in_step =
            waiting_is ∙ bit_changes (λ work. is_some_hint work.inbox) table.waiting works step.waiting_in_step t work;
        bounded = changed_bounded work most;
      } in
      subst (λ (works : List TileWork). AreInStep works dirty out waiting)
      (sym (map-set as_work table.rows.items t new)) changed

-- the sets have each tile of the table
in_bits : (says : TileWork → Bool) (bits : List Bool) (works now : List TileWork) (t : ℕ) → bits ≡ map says works
    → works ≡ now → t < length now → t < length bits
in_bits says bits works now t same view_is within =
    let long : length bits ≡ length now = ap length same ∙ length-map works says ∙ ap length view_is in
    omega (arith, long, within)

pub in_dirty : {works now : List TileWork} {dirty out waiting : List Bool} {t : ℕ}
    → AreInStep works dirty out waiting → works ≡ now → t < length now → t < length dirty
in_dirty step = in_bits (λ work. work.dirty) _ _ _ _ step.dirty_in_step

pub in_out : {works now : List TileWork} {dirty out waiting : List Bool} {t : ℕ}
    → AreInStep works dirty out waiting → works ≡ now → t < length now → t < length out
in_out step = in_bits (λ work. is_some work.out) _ _ _ _ step.out_in_step

pub in_waiting : {works now : List TileWork} {dirty out waiting : List Bool} {t : ℕ}
    → AreInStep works dirty out waiting → works ≡ now → t < length now → t < length waiting
in_waiting step = in_bits (λ work. is_some_hint work.inbox) _ _ _ _ step.waiting_in_step

-- a row of which only the inbox changes
pub row_with_inbox : (row new : TileRow) (hints : List Hint) → new ≡ record row { inbox = new.inbox }
    → new.inbox.hints ≡ hints → as_work new ≡ record (as_work row) { inbox = hints }
row_with_inbox row new hints same hints_are = ap as_work same ∙ ap (λ hs. record (as_work row) { inbox = hs }) hints_are

pub is_some_hint_at : (hints : List Hint) (place : ℕ) → place < length hints → is_some_hint hints ≡ true
is_some_hint_at [] place within = absurd (omega arith)
is_some_hint_at (hint ∷ hints) place within = refl

-- ---- tables without work

map-replicate : {X Y : Type 0} (f : X → Y) (n : ℕ) (x : X) → map f (replicate n x) ≡ replicate n (f x)
map-replicate f zero x = refl
map-replicate f (suc n) x = ap (λ ys. f x ∷ ys) (map-replicate f n x)

pub fresh_in_step : (works : List TileWork) (n first : ℕ) → works ≡ replicate n (fresh first) → first ≤ max_generation
    → (d o w : List Bool) → d ≡ replicate n false → o ≡ replicate n false → w ≡ replicate n false
    → AreInStep works d o w
fresh_in_step works n first same most d o w d_is o_is w_is = record {
  dirty_in_step = d_is ∙ sym (ap dirty_bits same ∙ map-replicate (λ work. work.dirty) n (fresh first));
  out_in_step = o_is ∙ sym (ap out_bits same ∙ map-replicate (λ work. is_some work.out) n (fresh first));
  waiting_in_step =
      w_is ∙ sym (ap waiting_bits same ∙ map-replicate (λ work. is_some_hint work.inbox) n (fresh first));
  bounded = λ t within.
      let count = ap length same in
      let filled = length-replicate n (fresh first) in
      let there : t < n = omega arith in
      subst (λ (w : TileWork). w.generation ≤ max_generation)
      (sym (ap (λ (works : List TileWork). work_of works t) same ∙ get_or-replicate n t (fresh first) idle there)) most;
}

-- ---- what the sets say

-- a set has a tile exactly where its row says so
has_bit : (says : TileWork → Bool) (bits : List Bool) (works : List TileWork) → bits ≡ map says works → (t : ℕ)
    → Has bits t ↔ ((t < length works) × IsTrue (says (work_of works t)))
has_bit says bits works same t =
    let count : length bits ≡ length works = ap length same ∙ length-map works says in
    let bit : t < length works → get_or bits t false ≡ says (work_of works t) =
    λ within. ap (λ (b : List Bool). get_or b t false) same ∙ get_or-map says works t idle false within in (
      λ has. let there : t < length works = (let h = has.0 in omega arith) in (there, sym (bit there) ∙ has.1),
      λ says_so. ((let h = says_so.0 in omega arith), bit says_so.0 ∙ says_so.1),
    )

pub dirty_says : (works : List TileWork) (dirty : List Bool) → dirty ≡ dirty_bits works → (t : ℕ)
    → Has dirty t ↔ IsDirtyTile works t
dirty_says works dirty same = has_bit (λ work. work.dirty) dirty works same

pub out_says : (works : List TileWork) (out : List Bool) → out ≡ out_bits works → (t : ℕ)
    → Has out t ↔ HasJobOut works t
out_says works out same = has_bit (λ work. is_some work.out) out works same

pub some_hint_there : (hints : List Hint) → is_some_hint hints ≡ true → hints ≢ []
some_hint_there [] there none = absurd cc
some_hint_there (hint ∷ hints) there none = absurd cc

pub there_is_some_hint : (hints : List Hint) → (hints ≢ []) → is_some_hint hints ≡ true
there_is_some_hint [] some = absurd (some refl)
there_is_some_hint (hint ∷ hints) some = refl

pub waiting_says : (works : List TileWork) (waiting : List Bool) → waiting ≡ waiting_bits works → (t : ℕ)
    → Has waiting t ↔ HasHintsAt works t
waiting_says works waiting same t =
    let bit = has_bit (λ work. is_some_hint work.inbox) waiting works same t in (
      λ has. let there = bit.0 has in (there.0, some_hint_there (work_of works t).inbox there.1),
      λ some. bit.1 (some.0, there_is_some_hint (work_of works t).inbox some.1),
    )

none_when : (out : Option ℕ) → (is_some out ≡ true → ⊥) → out ≡ None
none_when None never = refl
none_when (Some serial) never = absurd (never refl)

none_is_some : (out : Option ℕ) → out ≡ None → is_some out ≡ true → ⊥
none_is_some out none some = let no : is_some out ≡ false = ap is_some none in absurd cc

-- the first of a set is the least of what the set says
least_by_set : (bits : List Bool) (P : ℕ → Type 0) → ((t : ℕ) → Has bits t ↔ P t) → (from : ℕ) (first : Option ℕ)
    → MatchOption first (HasNoneFrom bits from) (IsFirstFrom bits from) → IsLeastFrom P from first
least_by_set bits P says from first found =
    least_alike (Has bits) P (λ t. (says t).0) (λ t. (says t).1) from first (least_of_set bits from first found)

module _ (table : Inside) (now : List TileWork) (view_is : works_of table.rows.items ≡ now)
    (in_step : AreInStep (works_of table.rows.items) table.dirty table.out table.waiting) where
  pub dirty_of_table : (t : ℕ) → Has table.dirty t ↔ IsDirtyTile now t
  dirty_of_table = dirty_says now table.dirty (in_step.dirty_in_step ∙ ap dirty_bits view_is)

  out_of_table : (t : ℕ) → Has table.out t ↔ HasJobOut now t
  out_of_table = out_says now table.out (in_step.out_in_step ∙ ap out_bits view_is)

  -- a tile that is in the set of dirty ones and not in that of those that are out can be taken
  ready_of_table : (t : ℕ) → (Has table.dirty t × (Has table.out t → ⊥)) ↔ CanBeTaken now t
  ready_of_table t = (
    λ left.
        let dirty = (dirty_of_table t).0 left.0 in
        (dirty, none_when (work_of now t).out (λ some. left.1 ((out_of_table t).1 (dirty.0, some)))),
    λ ready. (
      (dirty_of_table t).1 ready.0,
      λ out. none_is_some (work_of now t).out ready.1 ((out_of_table t).0 out).1,
    ),
  )

  pub dirty_set_count : length table.dirty ≡ length now
  dirty_set_count =
      ap length (in_step.dirty_in_step ∙ ap dirty_bits view_is) ∙ length-map now (λ work. work.dirty)

  pub out_count : length table.out ≡ length table.dirty
  out_count =
      ap length in_step.out_in_step ∙ length-map (works_of table.rows.items) (λ work. is_some work.out)
      ∙ sym (ap length in_step.dirty_in_step ∙ length-map (works_of table.rows.items) (λ work. work.dirty))

  module _ (from : ℕ) (first : Option ℕ) where
    pub next_dirty_of_table : MatchOption first (HasNoneFrom table.dirty from) (IsFirstFrom table.dirty from)
        → IsLeastFrom (IsDirtyTile now) from first
    next_dirty_of_table = least_by_set table.dirty (IsDirtyTile now) dirty_of_table from first

    pub next_out_of_table : MatchOption first (HasNoneFrom table.out from) (IsFirstFrom table.out from)
        → IsLeastFrom (HasJobOut now) from first
    next_out_of_table = least_by_set table.out (HasJobOut now) out_of_table from first

    pub next_waiting_of_table : MatchOption first (HasNoneFrom table.waiting from) (IsFirstFrom table.waiting from)
        → IsLeastFrom (HasHintsAt now) from first
    next_waiting_of_table =
        least_by_set table.waiting (HasHintsAt now)
        (waiting_says now table.waiting (in_step.waiting_in_step ∙ ap waiting_bits view_is)) from first

    pub next_ready_of_table : IsLeastFrom (λ t. Has table.dirty t × (Has table.out t → ⊥)) from first
        → IsLeastFrom (CanBeTaken now) from first
    next_ready_of_table =
        least_alike (λ t. Has table.dirty t × (Has table.out t → ⊥)) (CanBeTaken now) (λ t. (ready_of_table t).0)
        (λ t. (ready_of_table t).1) from first

    pub next_ready_outside_of_table : (set : List Bool)
        → IsLeastFrom (λ t. Has table.dirty t × (Has table.out t → ⊥) × (Has set t → ⊥)) from first
        → IsLeastFrom (λ t. CanBeTaken now t × (Has set t → ⊥)) from first
    next_ready_outside_of_table set =
        least_alike (λ t. Has table.dirty t × (Has table.out t → ⊥) × (Has set t → ⊥))
        (λ t. CanBeTaken now t × (Has set t → ⊥))
        (λ t left. ((ready_of_table t).0 (left.0, left.1), left.2))
        (λ t ready. let parts = (ready_of_table t).1 ready.0 in (parts.0, parts.1, ready.1)) from first

  -- the sets say whether a tile can be taken
  ready_bit : (t : ℕ) → t < length now → is_without table.dirty table.out t ≡ can_be_taken (work_of now t)
  ready_bit t within =
      let dirty : get_or table.dirty t false ≡ (work_of now t).dirty =
      ap (λ (b : List Bool). get_or b t false) (in_step.dirty_in_step ∙ ap dirty_bits view_is)
      ∙ get_or-map (λ work. work.dirty) now t idle false within in
      let out : get_or table.out t false ≡ is_some (work_of now t).out =
      ap (λ (b : List Bool). get_or b t false) (in_step.out_in_step ∙ ap out_bits view_is)
      ∙ get_or-map (λ work. is_some work.out) now t idle false within in
      ap (λ (x : Bool). x && not (get_or table.out t false)) dirty
      ∙ ap (λ (y : Bool). (work_of now t).dirty && not y) out

  pub count_ready_of_table : (from to : ℕ) → to ≤ length now
      → count_from (is_without table.dirty table.out) from (to - from) ≡ ready_in now from (to - from)
  count_ready_of_table from to within =
      count_alike (is_without table.dirty table.out) (λ t. can_be_taken (work_of now t)) from from (to - from)
      (λ k below. ready_bit (from + k) (omega arith))

-- ---- what can be taken

pub can_be_taken_says : (works : List TileWork) (t : ℕ) → IsTrue (can_be_taken (work_of works t)) ↔ CanBeTaken works t
can_be_taken_says works t =
    let work = work_of works t in (
      λ can.
          let parts = and_parts work.dirty (not (is_some work.out)) can in
          let none = none_when work.out (both_ways (is_some work.out) (not-true (is_some work.out) parts.1)) in
          elim (cases_lt t (length works)) [
            | inl within ↦ ((within, parts.0), none)
            | inr past ↦
                let clean : work.dirty ≡ false =
                ap (λ (w : TileWork). w.dirty) (get_or_past works t idle past) in
                absurd (both_ways work.dirty clean parts.0)
          ],
      λ ready. and_from work.dirty (not (is_some work.out)) ready.0.1 (ap (λ o. not (is_some o)) ready.1),
    )

pub cannot_be_taken : (works : List TileWork) (t : ℕ) → (CanBeTaken works t → ⊥)
    → can_be_taken (work_of works t) ≡ false
cannot_be_taken works t never =
    false_from_ne_true (can_be_taken (work_of works t)) (λ can. never ((can_be_taken_says works t).0 can))

-- ---- idle tiles

clean_when : (dirty : Bool) → (IsTrue dirty → ⊥) → dirty ≡ false
clean_when true never = absurd (never refl)
clean_when false never = refl

empty_when : (hints : List Hint) → (hints ≢ [] → ⊥) → hints ≡ []
empty_when [] never = refl
empty_when (hint ∷ hints) never = absurd (never (λ none. absurd cc))

-- no tile has a job out
pub no_job_out : (works : List TileWork) → ((t : ℕ) → HasJobOut works t → ⊥) → (t : ℕ) → t < length works
    → (work_of works t).out ≡ None
no_job_out works none t within = none_when (work_of works t).out (λ some. none t (within, some))

pub idle_when : (works : List TileWork) → ((t : ℕ) → IsDirtyTile works t → ⊥) → ((t : ℕ) → HasJobOut works t → ⊥)
    → ((t : ℕ) → HasHintsAt works t → ⊥) → (t : ℕ) → t < length works → IsIdle (work_of works t)
idle_when works clean none_out empty t within = record {
  clean = clean_when (work_of works t).dirty (λ yes. clean t (within, yes));
  none_out = no_job_out works none_out t within;
  empty = empty_when (work_of works t).inbox (λ some. empty t (within, some));
}

none_waiting : (works : List TileWork) → ((t : ℕ) → t < length works → IsIdle (work_of works t)) → (t : ℕ)
    → HasHintsAt works t → ⊥
none_waiting works quiet t some = some.1 (quiet t some.0).empty

none_of : (first : Option ℕ) (P : Type 0) (Q : ℕ → Type 0) → MatchOption first P Q → is_some first ≡ false → P
none_of None P Q holds none = holds
none_of (Some t) P Q holds none = absurd cc

answer_when_none : (first : Option ℕ) (P : ℕ → Type 0) → MatchOption first ((t : ℕ) → P t → ⊥) (IsLeast P)
    → ((t : ℕ) → P t → ⊥) → (answer : Bool) → is_some first ≡ not answer → answer ≡ true
answer_when_none None P holds none true says = refl
answer_when_none None P holds none false says = absurd cc
answer_when_none (Some t) P holds none answer says = absurd (none t holds.0)

-- where no tile is dirty and none has a job out, a table is quiet exactly where no hint waits
pub quiet_without_hints : (works : List TileWork) (first_dirty first_out first_waiting : Option ℕ)
    → MatchOption first_dirty ((t : ℕ) → IsDirtyTile works t → ⊥) (IsLeast (IsDirtyTile works))
    → MatchOption first_out ((t : ℕ) → HasJobOut works t → ⊥) (IsLeast (HasJobOut works))
    → MatchOption first_waiting ((t : ℕ) → HasHintsAt works t → ⊥) (IsLeast (HasHintsAt works))
    → is_some first_dirty ≡ false → is_some first_out ≡ false → (answer : Bool) → is_some first_waiting ≡ not answer
    → IsTrue answer ↔ ((t : ℕ) → t < length works → IsIdle (work_of works t))
quiet_without_hints works first_dirty first_out first_waiting dirty out waiting clean ended answer says = (
  λ yes.
      idle_when works (none_of first_dirty _ _ dirty clean) (none_of first_out _ _ out ended)
      (none_of first_waiting _ _ waiting (says ∙ ap not yes)),
  λ idle. answer_when_none first_waiting (HasHintsAt works) waiting (none_waiting works idle) answer says,
)
