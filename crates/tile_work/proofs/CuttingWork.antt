-- The work of a band's tiles, cut out and put back.
use Rattle.std.proofs.Common.{◌≡◌, ℕ, suc, ◌+◌, ◌-◌, ◌<◌, ◌≤◌, Bool, true, false, List, [], ◌∷◌, ◌++◌, length, map}
use Rattle.std.proofs.Common.{slice_range, get_or, set, take, drop, replicate, refl, sym, ap, subst, ◌∙◌, arith, inr}
use Rattle.std.proofs.Common.{None, is_some}
use Rattle.std.proofs.lemmas.List.{length-map, length-take, get_or-map, map_more, map_push, set_at, append_assoc}
use Rattle.std.proofs.lemmas.List.{take_more, take-map, drop-map, ext_get_or, length-replicate, get_or-replicate}
use Rattle.std.proofs.lemmas.List.{append-nil, length-append, take_all}
use Rattle.border_queues.specs.TileWork.{TileWork, idle, work_of}
use Rattle.tile_generations.specs.Generations.{max_generation}
use Rattle.tile_work.specs.{declared.work_table.row.TileRow.TileRow}
use Rattle.tile_work.specs.Cutting.{with_part, IsOnlyMarked, AreOnlyMarked, HaveGenerationsOf}
use Rattle.tile_work.specs.WorkTable.{as_work, works_of, dirty_bits, is_some_hint, AreInStep}
use Rattle.tile_work.proofs.Parts.{length_part, get_or_part, get_or_beside_part, with_one_more}

-- the work that is left at two tiles is the same where only marks are left there, and these are the same
same_marks : (a b : TileWork) → IsOnlyMarked a → IsOnlyMarked b → b.generation ≡ a.generation → (dirty : Bool)
    → dirty ≡ b.dirty → record a { dirty = dirty } ≡ b
same_marks a b only_a only_b generation dirty same =
    let none_out = only_a.none_out ∙ sym only_b.none_out in
    let empty = only_a.empty ∙ sym only_b.empty in
    λ i. record { generation = sym generation i; dirty = same i; out = none_out i; inbox = empty i }

-- ---- rows that are copied

module _ (rows : List TileRow) (i : ℕ) (row : TileRow) (here : i < length rows) (read : row ≡ get_or rows i row) where
  row_work : work_of (works_of rows) i ≡ as_work row
  row_work = get_or-map as_work rows i row idle here ∙ ap as_work (sym read)

  one_more_row : works_of (take (i + 1) rows) ≡ works_of (take i rows) ++ as_work row ∷ []
  one_more_row =
      map_more as_work rows i row here
      ∙ ap (λ (r : TileRow). works_of (take i rows) ++ as_work r ∷ []) (sym read)

  -- a row of the same generation and mark, behind those of the rows before it
  pub one_more_copied : AreOnlyMarked (works_of rows) 0 (length rows) → (copies : List TileRow) (copy : TileRow)
      → as_work copy ≡ record (as_work row) { out = None; inbox = [] } → works_of copies ≡ works_of (take i rows)
      → works_of (copies ++ copy ∷ []) ≡ works_of (take (i + 1) rows)
  one_more_copied marked copies copy is so_far =
      let only : IsOnlyMarked (as_work row) = subst IsOnlyMarked row_work (marked i (omega arith) here) in
      let same : as_work copy ≡ as_work row =
      is ∙ same_marks (record (as_work row) { out = None; inbox = [] }) (as_work row)
      (record { none_out = refl; empty = refl }) only refl row.dirty refl in
      map_push as_work copies copy ∙ ap (λ (works : List TileWork). works ++ as_work copy ∷ []) so_far
      ∙ ap (λ (w : TileWork). works_of (take i rows) ++ w ∷ []) same ∙ sym one_more_row

  -- the set of the dirty tiles of the rows so far, once it has or has not the next one
  module _ (bits : List Bool)
      (so_far : bits ≡ dirty_bits (works_of (take i rows)) ++ replicate (length rows - i) false) where
    abbrev left : List Bool
    left = replicate (length rows - (i + 1)) false

    first_left : bits ≡ dirty_bits (works_of (take i rows)) ++ false ∷ left
    first_left =
        let one_more : length rows - i ≡ suc (length rows - (i + 1)) = omega (arith, here) in
        so_far ∙ ap (λ n. dirty_bits (works_of (take i rows)) ++ replicate n false) one_more

    one_more_bit : dirty_bits (works_of (take i rows)) ++ row.dirty ∷ left
        ≡ dirty_bits (works_of (take (i + 1) rows)) ++ left
    one_more_bit =
        sym (append_assoc (dirty_bits (works_of (take i rows))) (row.dirty ∷ []) left)
        ∙ ap (λ (b : List Bool). b ++ left)
        (sym (map_push (λ work. work.dirty) (works_of (take i rows)) (as_work row)) ∙ ap dirty_bits (sym one_more_row))

    -- it is over as many tiles as there are rows
    pub bits_count : length bits ≡ length rows
    bits_count = ap length so_far ∙ simp (length-append, length-map, length-take, length-replicate) (omega arith)

    pub one_more_dirty : row.dirty ≡ true
        → set bits i true ≡ dirty_bits (works_of (take (i + 1) rows)) ++ replicate (length rows - (i + 1)) false
    one_more_dirty dirty =
        let count : length (dirty_bits (works_of (take i rows))) ≡ i = simp (length-map, length-take) (omega arith) in
        ap (λ (b : List Bool). set b i true) first_left
        ∙ set_at (dirty_bits (works_of (take i rows))) false left true i count
        ∙ ap (λ b. dirty_bits (works_of (take i rows)) ++ b ∷ left) (sym dirty) ∙ one_more_bit

    pub one_more_clean : row.dirty ≡ false
        → bits ≡ dirty_bits (works_of (take (i + 1) rows)) ++ replicate (length rows - (i + 1)) false
    one_more_clean clean =
        first_left ∙ ap (λ b. dirty_bits (works_of (take i rows)) ++ b ∷ left) (sym clean) ∙ one_more_bit

-- so it is the set of all rows behind the last one
pub all_marked : (rows : List TileRow) (i : ℕ) (bits : List Bool) → length rows ≤ i
    → bits ≡ dirty_bits (works_of (take i rows)) ++ replicate (length rows - i) false
    → bits ≡ dirty_bits (works_of rows)
all_marked rows i bits past so_far =
    let none_left : length rows - i ≡ 0 = omega (arith, past) in
    so_far ∙ ap (λ n. dirty_bits (works_of (take i rows)) ++ replicate n false) none_left
    ∙ append-nil (dirty_bits (works_of (take i rows)))
    ∙ ap (λ (rs : List TileRow). dirty_bits (works_of rs)) (take_all i rows past)

-- ---- the table that is cut out

pub works_of_part : (rows : List TileRow) (now : List TileWork) (first end : ℕ) → works_of rows ≡ now
    → works_of (slice_range rows first end) ≡ slice_range now first end
works_of_part rows now first end view =
    sym (take-map as_work (end - first) (drop first rows))
    ∙ ap (take (end - first)) (sym (drop-map as_work first rows))
    ∙ ap (λ (works : List TileWork). slice_range works first end) view

module _ (now : List TileWork) (first end : ℕ) (order : first ≤ end) (within : end ≤ length now) where
  pub marked_part : AreOnlyMarked now first end
      → AreOnlyMarked (slice_range now first end) 0 (length (slice_range now first end))
  marked_part marked u _ here =
      let long = length_part now first end order within in
      subst IsOnlyMarked (sym (get_or_part now first end order within u idle (omega (arith, here, long))))
      (marked (first + u) (omega arith) (omega (arith, here, long)))

  pub bounded_part : ((t : ℕ) → t < length now → (work_of now t).generation ≤ max_generation) → (u : ℕ)
      → u < length (slice_range now first end)
      → (work_of (slice_range now first end) u).generation ≤ max_generation
  bounded_part bounded u here =
      let long = length_part now first end order within in
      subst (λ (w : TileWork). w.generation ≤ max_generation)
      (sym (get_or_part now first end order within u idle (omega (arith, here, long))))
      (bounded (first + u) (omega (arith, here, long, within)))

-- where a word says no of each tile, its set is the empty one
none_say : (says : TileWork → Bool) (works : List TileWork)
    → ((t : ℕ) → t < length works → says (work_of works t) ≡ false)
    → replicate (length works) false ≡ map says works
none_say says works none =
    let filled = length-replicate (length works) false in
    ext_get_or false (replicate (length works) false) (map says works) (filled ∙ sym (length-map works says))
    (λ t within.
    let here : t < length works = omega (arith, within, filled) in
    get_or-replicate (length works) t false false here ∙ sym (none t here)
    ∙ sym (get_or-map says works t idle false here))

pub marked_in_step : (works : List TileWork) (n : ℕ) → n ≡ length works → AreOnlyMarked works 0 (length works)
    → ((t : ℕ) → t < length works → (work_of works t).generation ≤ max_generation) → (dirty out waiting : List Bool)
    → dirty ≡ dirty_bits works → out ≡ replicate n false → waiting ≡ replicate n false
    → AreInStep works dirty out waiting
marked_in_step works n long marked bounded dirty out waiting dirty_is out_is waiting_is =
    let count = ap (λ m. replicate m false) long in
    record {
      dirty_in_step = dirty_is;
      out_in_step = out_is ∙ count ∙ none_say (λ work. is_some work.out) works
          (λ t here. ap is_some (marked t (omega arith) here).none_out);
      waiting_in_step = waiting_is ∙ count ∙ none_say (λ work. is_some_hint work.inbox) works
          (λ t here. ap is_some_hint (marked t (omega arith) here).empty);
      bounded = bounded;
    }

-- ---- marks that are put back

-- one more of the band's tiles is dirty or clean as it is there
pub one_more_put : (old band now : List TileWork) (first i : ℕ) → first + length band ≤ length old → i < length band
    → AreOnlyMarked old first (first + length band) → AreOnlyMarked band 0 (length band)
    → HaveGenerationsOf old first band → now ≡ with_part first (take i band) old → (dirty : Bool)
    → dirty ≡ (work_of band i).dirty
    → set now (first + i) (record (work_of now (first + i)) { dirty = dirty })
    ≡ with_part first (take (i + 1) band) old
one_more_put old band now first i within here marked band_marked generations so_far dirty same =
    let long : length (take i band) ≡ i = simp length-take (omega arith) in
    let fits : first + length (take i band) < length old = omega (arith, long, here, within) in
    let untouched : work_of now (first + i) ≡ work_of old (first + i) =
    ap (λ (works : List TileWork). work_of works (first + i)) so_far
    ∙ get_or_beside_part old (take i band) first (omega (arith, fits)) (first + i) idle (inr (omega (arith, long))) in
    let is : record (work_of now (first + i)) { dirty = dirty } ≡ work_of band i =
    ap (λ (w : TileWork). record w { dirty = dirty }) untouched
    ∙ same_marks (work_of old (first + i)) (work_of band i) (marked (first + i) (omega arith) (omega (arith, here)))
    (band_marked i (omega arith) here) (generations i here) dirty same in
    ap (set now (first + i)) is
    ∙ ap (λ (works : List TileWork). set works (first + i) (work_of band i)) so_far
    ∙ ap (λ n. set (with_part first (take i band) old) (first + n) (work_of band i)) (sym long)
    ∙ with_one_more old (take i band) first (work_of band i) fits
    ∙ ap (λ (part : List TileWork). with_part first part old) (sym (take_more band i idle here))
