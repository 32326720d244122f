-- Hints that come to the rows of a table: the room that they need, and the work once they have come.
use Rattle.std.proofs.Common.{◌≡◌, ◌≢◌, ℕ, ◌+◌, ◌<◌, ◌≤◌, Bool, true, false, cond, List, ◌∷◌, ◌++◌, map}
use Rattle.std.proofs.Common.{length, get_or, set}
use Rattle.std.proofs.Common.{take, drop, refl, sym, ◌∙◌, ap, subst, arith, inl, inr, Result, Ok, Err, OnOk, []}
use Rattle.std.proofs.Common.{is_err, ◌==◌, is_some, slice_index}
use Rattle.std.proofs.lemmas.Bool.{cases_eq, cond-true, cond-false, eq-eqb, ne_eqb}
use Rattle.std.proofs.lemmas.List.{length-map, get_or-map, get_or-set_same, get_or-set_other, set-get_or, map-set}
use Rattle.std.proofs.lemmas.List.{append-nil, append_assoc, drop_more, ext_get_or, get_or_default, length-set, take_at}
use Rattle.std.proofs.lemmas.List.Elements.{filter_more}
use Rattle.tile_generations.specs.Generations.{max_generation}
use Rattle.grid_core.specs.Tiles.{Tiles, tile_of}
use Rattle.border_queues.specs.declared.hint.Hint.{Hint}
use Rattle.border_queues.specs.TileWork.{TileWork, idle, received, work_of, hints_at}
use Rattle.tile_work.specs.declared.work_table.row.TileRow.{TileRow}
use Rattle.tile_work.specs.WorkTable.{AreReceived, as_work, works_of, rooms_of, is_some_hint, dirty_bits}
use Rattle.tile_work.specs.WorkTable.{waiting_bits, AreInStep, HaveRoomFor, IsDelivered}
use Rattle.tile_work.proofs.WorkTables.{row_with_inbox}

-- ---- room

-- what stands at a place of a list, at whatever default
pub read_again : (rows : List TileRow) (t : ℕ) (row : TileRow) → t < length rows
    → get_or rows t row ≡ get_or rows t (get_or rows t row)
read_again rows t row within = get_or_default rows t row (get_or rows t row) within

nothing_lost : (test : Bool) → cond test 0 0 ≡ (let none : ℕ = 0 in none)
nothing_lost true = refl
nothing_lost false = refl

-- one row gets another inbox
module _ (rows : List TileRow) (t : ℕ) (row new : TileRow) (within : t < length rows)
    (is : row ≡ get_or rows t row) where
  -- the work stays
  pub works_stay : as_work new ≡ as_work row → works_of (set rows t new) ≡ works_of rows
  works_stay same =
      map-set as_work rows t new
      ∙ ap (set (works_of rows) t) (same ∙ ap as_work is ∙ sym (get_or-map as_work rows t row idle within))
      ∙ set-get_or (works_of rows) t idle

  -- what is counted at each row, as the room there
  module _ (says : TileRow → ℕ) where
    counts_are : map says (set rows t new) ≡ set (map says rows) t (says new)
    counts_are = map-set says rows t new

    pub count_there : slice_index (map says (set rows t new)) t ≡ says new
    count_there =
        let mapped : length (map says rows) ≡ length rows = length-map rows says in
        let in_counts : t < length (map says rows) = omega (arith, mapped, within) in
        ap (λ counts. slice_index counts t) counts_are ∙ get_or-set_same (map says rows) t (says new) 0 in_counts

    pub count_before : slice_index (map says rows) t ≡ says row
    count_before = get_or-map says rows t row 0 within ∙ ap says (sym is)

    pub count_elsewhere : (u : ℕ) → u ≢ t → slice_index (map says (set rows t new)) u ≡ slice_index (map says rows) u
    count_elsewhere u other =
        ap (λ counts. slice_index counts u) counts_are ∙ get_or-set_other (map says rows) t u (says new) 0 other

    -- the count at each row, where this one has lost at most so many
    pub count_left : (used : ℕ) → says row ≤ says new + used → (u : ℕ)
        → slice_index (map says rows) u ≤ slice_index (map says (set rows t new)) u + cond (t == u) used 0
    count_left used fits u = elim (cases_eq u t) [
      | inl here ↦
          let was = count_before in
          let becomes = count_there in
          let bit : cond (t == t) used 0 ≡ used = ap (λ b. cond b used 0) (eq-eqb t t refl) in
          subst (λ v. slice_index (map says rows) v
          ≤ slice_index (map says (set rows t new)) v + cond (t == v) used 0) (sym here)
          (omega (arith, was, becomes, bit, fits))
      | inr other ↦
          let same = count_elsewhere u other in
          omega (arith, same)
    ]

    pub count_kept : says row ≤ says new → (u : ℕ)
        → slice_index (map says rows) u ≤ slice_index (map says (set rows t new)) u
    count_kept grown u =
        let left = count_left 0 (omega (arith, grown)) u in
        let none = nothing_lost (t == u) in
        omega (arith, left, none)

-- ---- one hint is put into the inbox of its row

-- a set that has the tile is as if it were put in
-- the set of the tiles where hints wait has each row's tile
pub in_waiting_bits : (waiting : List Bool) (rows : List TileRow) (t : ℕ) → waiting ≡ waiting_bits (works_of rows)
    → t < length rows → t < length waiting
in_waiting_bits waiting rows t same within =
    let long : length waiting ≡ length rows =
    ap length same ∙ length-map (works_of rows) (λ work. is_some_hint work.inbox) ∙ length-map rows as_work in
    omega (arith, long, within)

pub still_waiting : (waiting : List Bool) (t : ℕ) → get_or waiting t false ≡ true → waiting ≡ set waiting t true
still_waiting waiting t there = sym (ap (set waiting t) (sym there) ∙ set-get_or waiting t false)

module _ (rows : List TileRow) (t : ℕ) (row new : TileRow) (hint : Hint) (within : t < length rows)
    (is : row ≡ get_or rows t row) (inbox_only : new ≡ record row { inbox = new.inbox })
    (behind : new.inbox.hints ≡ row.inbox.hints ++ hint ∷ []) where
  pub row_received : works_of (set rows t new)
      ≡ set (works_of rows) t (received (work_of (works_of rows) t) (hint ∷ []))
  row_received =
      let read : as_work row ≡ work_of (works_of rows) t =
      ap as_work is ∙ sym (get_or-map as_work rows t row idle within) in
      map-set as_work rows t new
      ∙ ap (set (works_of rows) t) (row_with_inbox row new _ inbox_only behind ∙ ap (λ w. received w (hint ∷ [])) read)

  ends_with_hint : (hints : List Hint) → is_some_hint (hints ++ hint ∷ []) ≡ true
  ends_with_hint [] = refl
  ends_with_hint (first ∷ hints) = refl

  pub waiting_received : (waiting now : List Bool) → waiting ≡ waiting_bits (works_of rows)
      → now ≡ set waiting t true → now ≡ waiting_bits (works_of (set rows t new))
  waiting_received waiting now in_step becomes =
      becomes
      ∙ ap (λ bits. set bits t true) in_step
      ∙ ap (set (waiting_bits (works_of rows)) t) (sym (ends_with_hint (work_of (works_of rows) t).inbox))
      ∙ sym (map-set (λ (w : TileWork). is_some_hint w.inbox) (works_of rows) t
      (received (work_of (works_of rows) t) (hint ∷ [])))
      ∙ ap waiting_bits (sym row_received)

-- ---- the table once hints have come

pub same_bits : (says : TileWork → Bool) (old new : List TileWork) → length new ≡ length old
    → ((t : ℕ) → t < length old → says (work_of new t) ≡ says (work_of old t)) → map says new ≡ map says old
same_bits says old new count same =
    let new_count = length-map new says in
    let old_count = length-map old says in
    ext_get_or false (map says new) (map says old) (omega (arith, count, new_count, old_count))
    (λ t within.
    let in_new : t < length new = omega (arith, within, new_count) in
    let in_old : t < length old = omega (arith, in_new, count) in
    get_or-map says new t idle false in_new ∙ same t in_old ∙ sym (get_or-map says old t idle false in_old))

module _ {tiles : Tiles} {hints : List Hint} {old new : List TileWork} (came : AreReceived tiles hints old new) where
  same_dirty : dirty_bits new ≡ dirty_bits old
  same_dirty =
      same_bits (λ w. w.dirty) old new came.count (λ t within. ap (λ (w : TileWork). w.dirty) (came.each t within))

  pub received_in_step : (dirty out waiting waiting_now : List Bool) → AreInStep old dirty out waiting
      → waiting_now ≡ waiting_bits new → AreInStep new dirty out waiting_now
  received_in_step dirty out waiting waiting_now step in_step = record {
    dirty_in_step = step.dirty_in_step ∙ sym same_dirty;
    out_in_step =
        step.out_in_step
        ∙ sym (same_bits (λ w. is_some w.out) old new came.count
        (λ t within. ap (λ (w : TileWork). is_some w.out) (came.each t within)));
    waiting_in_step = in_step;
    bounded = λ t within.
        let count = came.count in
        let in_old : t < length old = omega (arith, within, count) in
        subst (λ (w : TileWork). w.generation ≤ max_generation) (sym (came.each t in_old)) (step.bounded t in_old);
  }

-- ---- hints that are put into their inboxes one after another

-- the first i of the hints are in the inboxes, and there is room for the others
pub record IsDelivery (tiles : Tiles) (hints : List Hint) (i : ℕ) (first now : List TileRow) (waiting : List Bool) :
    Type 0 where
  pub came : AreReceived tiles (take i hints) (works_of first) (works_of now)
  pub in_step : waiting ≡ waiting_bits (works_of now)
  pub room : (t : ℕ) → t < length now → length (hints_at tiles t (drop i hints)) ≤ slice_index (rooms_of now) t

-- none is yet
pub delivery_starts : (tiles : Tiles) (hints : List Hint) (rows : List TileRow) (waiting : List Bool)
    → HaveRoomFor tiles hints rows → waiting ≡ waiting_bits (works_of rows) → IsDelivery tiles hints 0 rows rows waiting
delivery_starts tiles hints rows waiting room in_step = record {
  came = record {
    count = refl;
    each = λ t within.
        let work = work_of (works_of rows) t in
        ap (λ inbox. record work { inbox = inbox }) (sym (append-nil work.inbox));
  };
  in_step = in_step;
  room = room;
}

pub received_twice : (work : TileWork) (earlier later : List Hint)
    → received (received work earlier) later ≡ received work (earlier ++ later)
received_twice work earlier later =
    ap (λ inbox. record work { inbox = inbox }) (append_assoc work.inbox earlier later)

-- a hint ahead of others, of those that are counted or not
counted_first : (test : Bool) (hint : Hint) (rest : List Hint)
    → length (cond test (hint ∷ rest) rest) ≡ cond test 1 0 + length rest
counted_first true hint rest = omega arith
counted_first false hint rest = omega arith

-- the next hint, which goes to this tile
module _ {tiles : Tiles} {hints : List Hint} {i : ℕ} {first now : List TileRow} {waiting : List Bool} (default : Hint)
    (tile : ℕ) (within : i < length hints) (is_tile : tile ≡ tile_of tiles (get_or hints i default).to_pixel)
    (so_far : IsDelivery tiles hints i first now waiting) where
  next_counted : (t : ℕ) → length (hints_at tiles t (drop i hints))
      ≡ cond (tile == t) 1 0 + length (hints_at tiles t (drop (i + 1) hints))
  next_counted t =
      let hint = get_or hints i default in
      ap (λ hs. length (hints_at tiles t hs)) (drop_more hints i default within)
      ∙ counted_first (tile_of tiles hint.to_pixel == t) hint (hints_at tiles t (drop (i + 1) hints))
      ∙ ap (λ u. cond (u == t) 1 0 + length (hints_at tiles t (drop (i + 1) hints))) (sym is_tile)

  pub room_for_next : tile < length now → 0 < slice_index (rooms_of now) tile
  room_for_next there =
      let one = cond-true {A = ℕ} (tile == tile) 1 0 (eq-eqb tile tile refl) in
      omega (arith, so_far.room tile there, next_counted tile, one)

  module _ {after : List TileRow} {waits : List Bool}
      (one : IsDelivered tile (get_or hints i default) now after waits) where
    received_more : (t : ℕ) → t < length (works_of first) → work_of (works_of after) t
        ≡ received (work_of (works_of first) t) (hints_at tiles t (take (i + 1) hints))
    received_more t there =
        let hint = get_or hints i default in
        let becomes = received (work_of (works_of now) tile) (hint ∷ []) in
        let before = work_of (works_of first) t in
        let earlier = hints_at tiles t (take i hints) in
        let to_t : Bool = tile_of tiles hint.to_pixel == t in
        let more : hints_at tiles t (take (i + 1) hints) ≡ earlier ++ cond to_t (hint ∷ []) [] =
        filter_more (λ (h : Hint). tile_of tiles h.to_pixel == t) hints i default within in
        elim (cases_eq t tile) [
          | inl same ↦
              let to_it : to_t ≡ true = eq-eqb (tile_of tiles hint.to_pixel) t (sym (same ∙ is_tile)) in
              let at_tile : work_of (works_of after) tile ≡ becomes =
              ap (λ works. work_of works tile) one.works
              ∙ get_or-set_same (works_of now) tile becomes idle (omega (arith, there, same, so_far.came.count)) in
              subst (λ u. work_of (works_of after) u ≡ received (work_of (works_of now) u) (hint ∷ []))
              (sym same) at_tile
              ∙ ap (λ work. received work (hint ∷ [])) (so_far.came.each t there)
              ∙ received_twice before earlier (hint ∷ [])
              ∙ ap (λ hs. received before (earlier ++ hs)) (sym (cond-true to_t (hint ∷ []) [] to_it))
              ∙ ap (received before) (sym more)
          | inr other ↦
              let to_another : to_t ≡ false =
              ne_eqb (tile_of tiles hint.to_pixel) t (λ it. other (sym (is_tile ∙ it))) in
              ap (λ works. work_of works t) one.works ∙ get_or-set_other (works_of now) tile t becomes idle other
              ∙ so_far.came.each t there ∙ ap (received before) (sym (append-nil earlier))
              ∙ ap (λ hs. received before (earlier ++ hs)) (sym (cond-false to_t (hint ∷ []) [] to_another))
              ∙ ap (received before) (sym more)
        ]

    pub delivery_goes_on : IsDelivery tiles hints (i + 1) first after waits
    delivery_goes_on =
        let count : length (works_of after) ≡ length (works_of now) =
        ap length one.works ∙ length-set (works_of now) tile _ in
        let rows : length after ≡ length now =
        sym (length-map after as_work) ∙ count ∙ length-map now as_work in
        record {
          came = record { count = count ∙ so_far.came.count; each = received_more };
          in_step = one.waiting;
          room = λ t there.
              let had = so_far.room t (omega (arith, there, rows)) in
              omega (arith, had, one.room t, next_counted t);
        }

-- what is known of an answer that is no error
pub ok_part : {T E : Type 0} (answer : Result T E) (P : Type 0) → is_err answer ≡ false → OnOk answer P → P
ok_part (Ok value) P no_error holds = holds
ok_part (Err error) P no_error holds = absurd cc

-- ---- rows that are lent and written back

pub written_back : (new old : List TileRow) (n : ℕ) → length new ≡ n → take n (new ++ old) ≡ new
written_back new old n count = take_at new old n count
