-- Entries of runs, and the hints that they stand for.
use Rattle.std.proofs.Common.{◌≡◌, ℕ, zero, suc, ◌+◌, ◌<◌, ◌≤◌, Bool, true, false, cond, List, [], ◌∷◌, ◌++◌, map, refl}
use Rattle.std.proofs.Common.{ap, sym, ◌∙◌, arith, min, not, ◌&&◌, nat_eq, nat_lt, flat_map, length, get_or, take, drop}
use Rattle.std.proofs.Common.{remove, slice_index, length-append, zero-add}
use Rattle.std.proofs.lemmas.{Bool.ne_eqb, Bool.le-ltb}
use Rattle.std.proofs.lemmas.List.{map-append, flat_map_more, take-map, drop-map, get_or_append_left, get_or_at}
use Rattle.std.proofs.lemmas.List.Elements.{All-append, All-head, All-nil, All-tail, All-weaker, All-cons}
use Rattle.std.specs.List.{range_with_len}
use Rattle.grid_core.specs.{declared.pixel.Pixel.Pixel, Tiles.tile_of}
use Rattle.border_queues.specs.{declared.hint.Hint.Hint, declared.runs.Run.Run, declared.runs.Entry.Entry}
use Rattle.border_queues.specs.{declared.sides.Side.Side, Sides.level_at, Sides.at, OpenEdges.Sender}
use Rattle.border_queues.specs.Sides.{IsAlong, NoneCanRise}
use Rattle.border_queues.specs.OpenEdges.{hint_to, hints_to, is_open, level_to}
use Rattle.border_queues.specs.Runs.{AreEntries, IsEntry, IsToldAlong, entries_along, entry_at, hint_by}
use Rattle.border_queues.specs.Runs.{hints_by, no_run, place_of, run_of}
use Rattle.border_queues.proofs.Told.{range_more}
use Rattle.border_queues.specs.Sides.{hints_along}

-- ---- another run

run_kept : (runs more : List Run) (entry : Entry) → entry.run < length runs
    → run_of (runs ++ more) entry ≡ run_of runs entry
run_kept runs more entry within = get_or_append_left runs more no_run entry.run within

-- entries mean the same where there are more runs
hints_kept : (runs more : List Run) (entries : List Entry) → AreEntries runs entries
    → hints_by (runs ++ more) entries ≡ hints_by runs entries
hints_kept runs more [] are = refl
hints_kept runs more (entry ∷ entries) are =
    let here = All-head (IsEntry runs) entry entries are in
    let same = run_kept runs more entry here.run in
    let rest = hints_kept runs more entries (All-tail (IsEntry runs) entry entries are) in
    λ i. hint_by (same i) entry ∷ rest i

entries_kept : (runs more : List Run) (entries : List Entry) → AreEntries runs entries
    → AreEntries (runs ++ more) entries
entries_kept runs more entries are =
    All-weaker (IsEntry runs) (IsEntry (runs ++ more)) (λ entry here. record {
      run = omega (arith, here.run, length-append runs more);
      place = let same = run_kept runs more entry here.run in rw same here.place;
    }) entries are

-- the hints of further entries come behind those of the entries before
pub hints_added : (runs now : List Run) (run : Run) (entries added : List Entry) → now ≡ runs ++ run ∷ []
    → AreEntries runs entries → hints_by now (entries ++ added) ≡ hints_by runs entries ++ hints_by now added
hints_added runs now run entries added one_more are =
    map-append (λ entry. hint_by (run_of now entry) entry) entries added
    ∙ ap (λ rs. hints_by rs entries ++ hints_by now added) one_more
    ∙ ap (λ hints. hints ++ hints_by now added) (hints_kept runs (run ∷ []) entries are)

-- the last run has its number
pub run_at : (runs now : List Run) (run : Run) (number : ℕ) → now ≡ runs ++ run ∷ [] → number ≡ length runs
    → get_or now number no_run ≡ run
run_at runs now run number one_more is =
    ap (λ rs. get_or rs number no_run) one_more ∙ get_or_at runs run [] no_run number (sym is)

pub entries_added : (runs now : List Run) (run : Run) (entries added : List Entry) → now ≡ runs ++ run ∷ []
    → AreEntries runs entries → AreEntries now added → AreEntries now (entries ++ added)
entries_added runs now run entries added one_more are more =
    let before : AreEntries now entries = rw one_more (entries_kept runs (run ∷ []) entries are) in
    All-append (IsEntry now) entries added before more

-- ---- the hints of a side

hints_if : (runs : List Run) (entry : Entry) (b : Bool)
    → hints_by runs (cond b (entry ∷ []) []) ≡ cond b (hint_by (run_of runs entry) entry ∷ []) []
hints_if runs entry true = refl
hints_if runs entry false = refl

told_if : (s : Sender) (value : ℕ) (q : Pixel) (b : Bool)
    → map (hint_to s value) (cond b (q ∷ []) []) ≡ cond b (hint_to s value q ∷ []) []
told_if s value q true = refl
told_if s value q false = refl

module _ (runs : List Run) (run : Run) (number : ℕ) (side : Side) (count : ℕ)
    (at_number : get_or runs number no_run ≡ run) where
  -- at a place
  told_at : (s : Sender) (inner outer : ℕ → Pixel)
      → IsToldAlong run.from run.from_generation run.first run.is_column count side inner outer s → (i : ℕ) → i < count
      → hints_by runs (entry_at number side i) ≡ hints_to s (s.image (inner i)) (outer i ∷ [])
  told_at s inner outer told i within =
      let q : Pixel = outer i in
      let value : ℕ = s.image (inner i) in
      let level : ℕ = level_at side i in
      let beyond : ℕ = slice_index side.beyond.now i in
      let entry : Entry = record { run = number; place = i; value = level } in
      let level_is : level ≡ level_to s value q =
      (λ k. min (told.along.own i within k) (told.along.limits i within k)) in
      let hint_is : hint_by run entry ≡ hint_to s value q = (λ k. record {
        from = sym told.tile k;
        from_generation = sym told.generation k;
        to_pixel = sym (told.pixels i within) k;
        value = level_is k;
      }) in
      hints_if runs entry (nat_lt beyond level)
      ∙ ap (λ r. cond (nat_lt beyond level) (hint_by r entry ∷ []) []) at_number
      ∙ (λ k. cond (nat_lt (told.along.beyond i within k) (level_is k)) (hint_is k ∷ []) [])
      ∙ ap (λ same. cond (not same && nat_lt (s.image q) (level_to s value q)) (hint_to s value q ∷ []) [])
      (sym (ne_eqb (tile_of s.tiles q) s.tile (told.others i within)))
      ∙ sym (told_if s value q (is_open s value q))

  told_from : (s : Sender) (inner outer : ℕ → Pixel)
      → IsToldAlong run.from run.from_generation run.first run.is_column count side inner outer s
      → (n from : ℕ) → from + n ≤ count
      → hints_by runs (flat_map (entry_at number side) (range_with_len from n))
      ≡ flat_map (λ i. hints_to s (s.image (inner i)) (outer i ∷ [])) (range_with_len from n)
  told_from s inner outer told zero from within = refl
  told_from s inner outer told (suc n) from within =
      map-append (λ entry. hint_by (run_of runs entry) entry) (entry_at number side from)
      (flat_map (entry_at number side) (range_with_len (from + 1) n))
      ∙ (λ k. told_at s inner outer told from (omega arith) k
      ++ told_from s inner outer told n (from + 1) (omega arith) k)

  -- at all of them
  pub told_along : (s : Sender) (inner outer : ℕ → Pixel)
      → IsToldAlong run.from run.from_generation run.first run.is_column count side inner outer s
      → hints_by runs (entries_along number side count) ≡ hints_along s count inner outer
  told_along s inner outer told = told_from s inner outer told count 0 (omega arith)

  entry_if : (entry : Entry) (b : Bool) → IsEntry runs entry → AreEntries runs (cond b (entry ∷ []) [])
  entry_if entry true is = All-cons (IsEntry runs) entry [] is (All-nil (IsEntry runs))
  entry_if entry false is = All-nil (IsEntry runs)

  are_from : number < length runs → place_of run.first run.is_column + count ≤ 4294967296
      → (n from : ℕ) → from + n ≤ count
      → AreEntries runs (flat_map (entry_at number side) (range_with_len from n))
  are_from numbered fits zero from within = All-nil (IsEntry runs)
  are_from numbered fits (suc n) from within =
      let level : ℕ = level_at side from in
      let here : place_of run.first run.is_column + from < 4294967296 = omega arith in
      All-append (IsEntry runs) (entry_at number side from)
      (flat_map (entry_at number side) (range_with_len (from + 1) n))
      (entry_if (record { run = number; place = from; value = level })
      (nat_lt (slice_index side.beyond.now from) level)
      (record { run = numbered; place = rw at_number here }))
      (are_from numbered fits n (from + 1) (omega arith))

  pub are_along : number < length runs → place_of run.first run.is_column + count ≤ 4294967296
      → AreEntries runs (entries_along number side count)
  are_along numbered fits = are_from numbered fits count 0 (omega arith)

range_next : (place : ℕ) → range_with_len 0 place ++ place ∷ [] ≡ range_with_len 0 (place + 1)
range_next place =
    ap (λ j. range_with_len 0 place ++ j ∷ []) (sym (zero-add place)) ∙ range_more 0 place

-- the entries up to before a place, and then that of the place
pub along_next : (number : ℕ) (side : Side) (before : List Entry) (place : ℕ)
    → (before ++ entries_along number side place) ++ entry_at number side place
    ≡ before ++ entries_along number side (place + 1)
along_next number side before place =
    flat_map_more (entry_at number side) before (range_with_len 0 place) place
    ∙ ap (λ ks. before ++ flat_map (entry_at number side) ks) (range_next place)

-- ---- a side beyond which no pixel can rise

none_by : (s : Sender) (value : ℕ) (q : Pixel) (other : Bool)
    → map (hint_to s value) (cond (other && false) (q ∷ []) []) ≡ []
none_by s value q true = refl
none_by s value q false = refl

none_at : (s : Sender) (value : ℕ) (q : Pixel) → level_to s value q ≤ s.image q → hints_to s value (q ∷ []) ≡ []
none_at s value q high =
    let other : Bool = not (nat_eq (tile_of s.tiles q) s.tile) in
    ap (λ lower. map (hint_to s value) (cond (other && lower) (q ∷ []) []))
    (le-ltb (s.image q) (level_to s value q) high)
    ∙ none_by s value q other

none_from : (s : Sender) (inner outer : ℕ → Pixel) (count : ℕ)
    → ((i : ℕ) → i < count → level_to s (s.image (inner i)) (outer i) ≤ s.image (outer i))
    → (n from : ℕ) → from + n ≤ count
    → flat_map (λ i. hints_to s (s.image (inner i)) (outer i ∷ [])) (range_with_len from n) ≡ []
none_from s inner outer count high zero from within = refl
none_from s inner outer count high (suc n) from within = λ k.
    none_at s (s.image (inner from)) (outer from) (high from (omega arith)) k
    ++ none_from s inner outer count high n (from + 1) (omega arith) k

-- a side that is not open tells nothing
pub none_along : (s : Sender) (inner outer : ℕ → Pixel) (count : ℕ) (side : Side)
    → IsAlong count inner outer s.image s.mask side → NoneCanRise side count → hints_along s count inner outer ≡ []
none_along s inner outer count side along none =
    none_from s inner outer count (λ i within.
    let own = along.own i within in
    let limit = along.limits i within in
    let beyond = along.beyond i within in
    let here : level_at side i ≤ slice_index side.beyond.now i = none i within in
    rw (← own, ← limit, ← beyond) here) count 0 (omega arith)

-- ---- a hint more or less

-- a hint that has a run of its own
pub hint_alone : (runs : List Run) (number : ℕ) (hint : Hint)
    → get_or runs number no_run ≡ record {
      from = hint.from;
      from_generation = hint.from_generation;
      first = hint.to_pixel;
      is_column = false;
    }
    → hints_by runs (record { run = number; place = 0; value = hint.value } ∷ []) ≡ hint ∷ []
hint_alone runs number hint at_number =
    let entry : Entry = record { run = number; place = 0; value = hint.value } in
    let same : hint.to_pixel.x + 0 ≡ hint.to_pixel.x = omega arith in
    ap (λ run. hint_by run entry ∷ []) at_number
    ∙ (λ k. record hint { to_pixel = at (same k) hint.to_pixel.y } ∷ [])

-- a hint is taken out where its entry is
pub hints_removed : (runs : List Run) (entries : List Entry) (i : ℕ)
    → hints_by runs (remove entries i) ≡ remove (hints_by runs entries) i
hints_removed runs entries i =
    let hint : Entry → Hint = λ entry. hint_by (run_of runs entry) entry in
    map-append hint (take i entries) (drop (suc i) entries)
    ∙ (λ k. sym (take-map hint i entries) k ++ sym (drop-map hint (suc i) entries) k)
