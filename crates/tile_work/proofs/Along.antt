-- Hints along the sides of a tile: how they come to the rows of a table, and that they are all that the tile tells.
use Rattle.std.proofs.Common.{◌≡◌, ◌≢◌, ℕ, zero, suc, ◌+◌, ◌<◌, ◌≤◌, inl, inr, Bool, true, false, cond, min}
use Rattle.std.proofs.Common.{List, [], ◌∷◌, ◌++◌, map, length, get_or}
use Rattle.std.proofs.Common.{set, slice_index, flat_map, not, ◌&&◌, nat_lt, is_some}
use Rattle.std.proofs.Common.{refl, sym, ◌∙◌, ap, subst, arith, IsTrue}
use Rattle.std.specs.List.{range_with_len}
use Rattle.std.specs.Prelude.{◌==◌}
use Rattle.std.proofs.lemmas.Bool.{cases_eq, cases_lt, eq-eqb, ne_eqb, ltb-true, false_from_ne_true}
use Rattle.std.proofs.lemmas.List.{append-nil, get_or-map, get_or-set_same, get_or-set_other, length-map}
use Rattle.std.proofs.lemmas.List.{length-set, map-set}
use Rattle.std.proofs.lemmas.List.Elements.{filter-append}
use Rattle.grid_core.specs.declared.{pixel.Pixel.Pixel}
use Rattle.grid_core.specs.Tiles.{Tiles, tile_of}
use Rattle.border_queues.specs.declared.{hint.Hint.Hint, sides.Side.Side}
use Rattle.border_queues.specs.OpenEdges.{Sender, hint_to, hints_to, is_open, level_to}
use Rattle.border_queues.specs.Sides.{HasLength, IsAlong, NoneCanRise}
use Rattle.border_queues.specs.Sides.{hints_along, level_at}
use Rattle.border_queues.specs.Runs.{pixel_behind, place_of}
use Rattle.border_queues.specs.{TileWork.TileWork, TileWork.hints_at, TileWork.idle, TileWork.received}
use Rattle.border_queues.specs.TileWork.{work_of}
use Rattle.tile_generations.specs.Generations.{max_generation}
use Rattle.tile_work.specs.declared.work_table.{along.Beyond.Beyond, row.TileRow.TileRow}
use Rattle.tile_work.specs.Along.{CanTell, HasRoomBeyond, HaveGrown, HaveOtherInboxes, IsTelling}
use Rattle.tile_work.specs.Along.{IsTold, LeadsTo, TellApart}
use Rattle.tile_work.specs.WorkTable.{AreReceived, AreInStep, as_work, works_of}
use Rattle.tile_work.specs.WorkTable.{is_some_hint, waiting_bits}
use Rattle.tile_work.proofs.{WorkTableHints.count_elsewhere, WorkTableHints.received_twice, WorkTables.row_with_inbox}
use Rattle.tile_work.proofs.WorkTableHints.{same_bits}

-- ---- hints along a side, by the tile that they go to

not_and : (p q : Bool) → q ≡ false → (p && q) ≡ false
not_and true q never = never
not_and false q never = refl

not_below : (a b : ℕ) → b ≤ a → nat_lt a b ≡ false
not_below a b most = false_from_ne_true (nat_lt a b) (λ yes. let less = ltb-true a b yes in omega arith)

module _ (s : Sender) (inner outer : ℕ → Pixel) where
  abbrev at_place : ℕ → List Hint
  at_place i = hints_to s (s.image (inner i)) (outer i ∷ [])

  abbrev goes_to : ℕ → Hint → Bool
  goes_to t hint = tile_of s.tiles hint.to_pixel == t

  one_here : (t i : ℕ) (told : Bool) → tile_of s.tiles (outer i) ≡ t
      → hints_at s.tiles t (map (hint_to s (s.image (inner i))) (cond told (outer i ∷ []) []))
      ≡ map (hint_to s (s.image (inner i))) (cond told (outer i ∷ []) [])
  one_here t i true here =
      ap (λ b. cond b (hint_to s (s.image (inner i)) (outer i) ∷ []) []) (eq-eqb (tile_of s.tiles (outer i)) t here)
  one_here t i false here = refl

  one_elsewhere : (t i : ℕ) (told : Bool) → tile_of s.tiles (outer i) ≢ t
      → hints_at s.tiles t (map (hint_to s (s.image (inner i))) (cond told (outer i ∷ []) [])) ≡ []
  one_elsewhere t i true other =
      ap (λ b. cond b (hint_to s (s.image (inner i)) (outer i) ∷ []) []) (ne_eqb (tile_of s.tiles (outer i)) t other)
  one_elsewhere t i false other = refl

  all_here : (t a n : ℕ) → ((i : ℕ) → a ≤ i → i < a + n → tile_of s.tiles (outer i) ≡ t)
      → hints_at s.tiles t (flat_map at_place (range_with_len a n)) ≡ flat_map at_place (range_with_len a n)
  all_here t a zero here = refl
  all_here t a (suc n) here =
      filter-append (goes_to t) (at_place a) (flat_map at_place (range_with_len (a + 1) n))
      ∙ ap (λ hs. hs ++ hints_at s.tiles t (flat_map at_place (range_with_len (a + 1) n)))
      (one_here t a (is_open s (s.image (inner a)) (outer a)) (here a (omega arith) (omega arith)))
      ∙ ap (λ hs. at_place a ++ hs)
      (all_here t (a + 1) n (λ i from before. here i (omega arith) (omega arith)))

  all_elsewhere : (t a n : ℕ) → ((i : ℕ) → a ≤ i → i < a + n → tile_of s.tiles (outer i) ≢ t)
      → hints_at s.tiles t (flat_map at_place (range_with_len a n)) ≡ []
  all_elsewhere t a zero other = refl
  all_elsewhere t a (suc n) other =
      filter-append (goes_to t) (at_place a) (flat_map at_place (range_with_len (a + 1) n))
      ∙ ap (λ hs. hs ++ hints_at s.tiles t (flat_map at_place (range_with_len (a + 1) n)))
      (one_elsewhere t a (is_open s (s.image (inner a)) (outer a)) (other a (omega arith) (omega arith)))
      ∙ all_elsewhere t (a + 1) n (λ i from before. other i (omega arith) (omega arith))

  none_along : (a n : ℕ) → ((i : ℕ) → a ≤ i → i < a + n → is_open s (s.image (inner i)) (outer i) ≡ false)
      → flat_map at_place (range_with_len a n) ≡ []
  none_along a zero closed = refl
  none_along a (suc n) closed =
      ap (λ b. map (hint_to s (s.image (inner a))) (cond b (outer a ∷ []) [])
      ++ flat_map at_place (range_with_len (a + 1) n)) (closed a (omega arith) (omega arith))
      ∙ none_along (a + 1) n (λ i from before. closed i (omega arith) (omega arith))

  -- those that lie in a tile go there, and none goes elsewhere
  pub along_here : (t n : ℕ) → ((i : ℕ) → i < n → tile_of s.tiles (outer i) ≡ t)
      → hints_at s.tiles t (hints_along s n inner outer) ≡ hints_along s n inner outer
  along_here t n here = all_here t 0 n (λ i from before. here i (omega arith))

  pub along_elsewhere : (t n : ℕ) → ((i : ℕ) → i < n → tile_of s.tiles (outer i) ≢ t)
      → hints_at s.tiles t (hints_along s n inner outer) ≡ []
  along_elsewhere t n other = all_elsewhere t 0 n (λ i from before. other i (omega arith))

  -- where no value along the side can raise the pixel beyond, there is no hint
  pub none_where_closed : (side : Side) (n : ℕ) → IsAlong n inner outer s.image s.mask side → NoneCanRise side n
      → hints_along s n inner outer ≡ []
  none_where_closed side n along closed =
      none_along 0 n (λ i from before.
      let place : i < n = omega arith in
      let level : level_at side i ≡ level_to s (s.image (inner i)) (outer i) =
      ap (λ v. min v (slice_index side.limits.now i)) (along.own i place)
      ∙ ap (λ m. min (s.image (inner i)) m) (along.limits i place) in
      let most = closed i place in
      let there = along.beyond i place in
      not_and (not (tile_of s.tiles (outer i) == s.tile)) _
      (not_below (s.image (outer i)) (level_to s (s.image (inner i)) (outer i)) (omega (arith, level, most, there))))

-- ---- what a row gets

-- the work with other hints
abbrev with_inbox : TileWork → List Hint → TileWork
with_inbox work hints = record work { inbox = hints }

pub no_hints_came : (tiles : Tiles) (works : List TileWork) → AreReceived tiles [] works works
no_hints_came tiles works = record {
  count = refl;
  each = λ t within.
      let work = work_of works t in
      ap (λ inbox. record work { inbox = inbox }) (sym (append-nil work.inbox));
}

-- hints come after others
pub more_came : {tiles : Tiles} {earlier later : List Hint} {old mid new : List TileWork}
    → AreReceived tiles earlier old mid → AreReceived tiles later mid new
    → AreReceived tiles (earlier ++ later) old new
more_came {tiles} {earlier} {later} {old} {mid} {new} first second = record {
  count = second.count ∙ first.count;
  each = λ t within.
      let count = first.count in
      second.each t (omega (arith, within, count))
      ∙ ap (λ work. received work (hints_at tiles t later)) (first.each t within)
      ∙ received_twice (work_of old t) (hints_at tiles t earlier) (hints_at tiles t later)
      ∙ ap (received (work_of old t)) (sym (filter-append (λ hint. tile_of tiles hint.to_pixel == t) earlier later));
}

pub no_other_inboxes : (works : List TileWork) → HaveOtherInboxes works works
no_other_inboxes works = record { count = refl; each = λ t within. refl }

pub more_other_inboxes : {old mid new : List TileWork} → HaveOtherInboxes old mid → HaveOtherInboxes mid new
    → HaveOtherInboxes old new
more_other_inboxes {old} {mid} {new} first second = record {
  count = second.count ∙ first.count;
  each = λ t within.
      let count = first.count in
      second.each t (omega (arith, within, count))
      ∙ ap (λ (work : TileWork). with_inbox work (work_of new t).inbox) (first.each t within);
}

-- a table whose rows have other inboxes stays in step, with a set that says where hints wait
pub inboxes_in_step : {old new : List TileWork} → HaveOtherInboxes old new → (dirty out waiting now : List Bool)
    → AreInStep old dirty out waiting → now ≡ waiting_bits new → AreInStep new dirty out now
inboxes_in_step {old} {new} others dirty out waiting now step in_step = record {
  dirty_in_step =
      step.dirty_in_step
      ∙ sym (same_bits (λ w. w.dirty) old new others.count
      (λ t within. ap (λ (w : TileWork). w.dirty) (others.each t within)));
  out_in_step =
      step.out_in_step
      ∙ sym (same_bits (λ w. is_some w.out) old new others.count
      (λ t within. ap (λ (w : TileWork). is_some w.out) (others.each t within)));
  waiting_in_step = in_step;
  bounded = λ t within.
      let count = others.count in
      let in_old : t < length old = omega (arith, within, count) in
      subst (λ (w : TileWork). w.generation ≤ max_generation) (sym (others.each t in_old)) (step.bounded t in_old);
}

-- ---- one side is told

-- nothing is told
pub told_nothing : (from generation : ℕ) (side : Side) (beyond : Beyond) (rows : List TileRow) (waits : List Bool)
    → beyond.count ≡ 0 → waits ≡ waiting_bits (works_of rows) → IsTold from generation side beyond rows rows waits
told_nothing from generation side beyond rows waits none in_step = record {
  others = no_other_inboxes (works_of rows);
  hint_rooms = λ t other. refl;
  run_rooms = λ t other. refl;
  waiting = in_step;
  came = λ s inner outer telling.
      subst (λ n. AreReceived s.tiles (hints_along s n inner outer) (works_of rows) (works_of rows)) (sym none)
      (no_hints_came s.tiles (works_of rows));
}

-- the row of the tile beyond gets the hints
module _ (rows : List TileRow) (t : ℕ) (row new : TileRow) (within : t < length rows)
    (is : row ≡ get_or rows t row) (inbox_only : new ≡ record row { inbox = new.inbox }) where
  work_there : as_work row ≡ work_of (works_of rows) t
  work_there = ap as_work is ∙ sym (get_or-map as_work rows t row idle within)

  works_now : works_of (set rows t new)
      ≡ set (works_of rows) t (with_inbox (work_of (works_of rows) t) new.inbox.hints)
  works_now =
      map-set as_work rows t new
      ∙ ap (set (works_of rows) t)
      (row_with_inbox row new _ inbox_only refl ∙ ap (λ (w : TileWork). with_inbox w new.inbox.hints) work_there)

  in_works : t < length (works_of rows)
  in_works = let mapped = length-map rows as_work in omega (arith, mapped, within)

  work_now : work_of (works_of (set rows t new)) t
      ≡ with_inbox (work_of (works_of rows) t) new.inbox.hints
  work_now =
      ap (λ works. work_of works t) works_now
      ∙ get_or-set_same (works_of rows) t (with_inbox (work_of (works_of rows) t) new.inbox.hints) idle in_works

  work_elsewhere : (u : ℕ) → u ≢ t → work_of (works_of (set rows t new)) u ≡ work_of (works_of rows) u
  work_elsewhere u other =
      ap (λ works. work_of works u) works_now
      ∙ get_or-set_other (works_of rows) t u (with_inbox (work_of (works_of rows) t) new.inbox.hints) idle other

  count_now : length (works_of (set rows t new)) ≡ length (works_of rows)
  count_now = ap length works_now ∙ length-set (works_of rows) t _

  others_now : HaveOtherInboxes (works_of rows) (works_of (set rows t new))
  others_now = record {
    count = count_now;
    each = λ u there. elim (cases_eq u t) [
      | inl here ↦
          subst (λ v. work_of (works_of (set rows t new)) v
          ≡ record (work_of (works_of rows) v) { inbox = (work_of (works_of (set rows t new)) v).inbox }) (sym here)
          (work_now
          ∙ ap (λ hs. with_inbox (work_of (works_of rows) t) hs)
          (sym (ap (λ (w : TileWork). w.inbox) work_now)))
      | inr other ↦
          let same = work_elsewhere u other in
          same
          ∙ ap (λ hs. with_inbox (work_of (works_of rows) u) hs)
          (sym (ap (λ (w : TileWork). w.inbox) same))
    ];
  }

  waiting_now : (waiting : List Bool) → waiting ≡ waiting_bits (works_of rows)
      → set waiting t (is_some_hint new.inbox.hints) ≡ waiting_bits (works_of (set rows t new))
  waiting_now waiting in_step =
      ap (λ bits. set bits t (is_some_hint new.inbox.hints)) in_step
      ∙ sym (map-set (λ (w : TileWork). is_some_hint w.inbox) (works_of rows) t
      (with_inbox (work_of (works_of rows) t) new.inbox.hints))
      ∙ ap waiting_bits (sym works_now)

  received_now : (tiles : Tiles) (hints : List Hint) → new.inbox.hints ≡ row.inbox.hints ++ hints
      → hints_at tiles t hints ≡ hints → ((u : ℕ) → u ≢ t → hints_at tiles u hints ≡ [])
      → AreReceived tiles hints (works_of rows) (works_of (set rows t new))
  received_now tiles hints behind here elsewhere = record {
    count = count_now;
    each = λ u there. elim (cases_eq u t) [
      | inl same ↦
          subst (λ v. work_of (works_of (set rows t new)) v
          ≡ received (work_of (works_of rows) v) (hints_at tiles v hints)) (sym same)
          (work_now
          ∙ ap (λ hs. with_inbox (work_of (works_of rows) t) hs)
          (behind ∙ ap (λ (w : TileWork). w.inbox ++ hints) work_there)
          ∙ ap (received (work_of (works_of rows) t)) (sym here))
      | inr other ↦
          work_elsewhere u other
          ∙ (let work = work_of (works_of rows) u in
          ap (λ inbox. record work { inbox = inbox }) (sym (append-nil work.inbox)))
          ∙ ap (received (work_of (works_of rows) u)) (sym (elsewhere u other))
    ];
  }

  pub told_now : (from generation : ℕ) (side : Side) (beyond : Beyond) (waiting waits : List Bool)
      → t ≡ beyond.tile → 0 < beyond.count
      → ((s : Sender) (inner outer : ℕ → Pixel) → IsTelling s from generation side beyond inner outer
      → new.inbox.hints ≡ row.inbox.hints ++ hints_along s beyond.count inner outer)
      → waiting ≡ waiting_bits (works_of rows) → waits ≡ set waiting t (is_some_hint new.inbox.hints)
      → IsTold from generation side beyond rows (set rows t new) waits
  told_now from generation side beyond waiting waits tile_is some behind in_step waits_are = record {
    others = others_now;
    hint_rooms = λ u other.
        count_elsewhere rows t row new within is (λ (r : TileRow). r.inbox.room) u
        (λ same. other some (same ∙ tile_is));
    run_rooms = λ u other.
        count_elsewhere rows t row new within is (λ (r : TileRow). r.inbox.runs) u
        (λ same. other some (same ∙ tile_is));
    waiting = waits_are ∙ waiting_now waiting in_step;
    came = λ s inner outer telling.
        let there : (i : ℕ) → i < beyond.count → tile_of s.tiles (outer i) ≡ t =
        λ i place. telling.there i place ∙ sym tile_is in
        received_now s.tiles (hints_along s beyond.count inner outer) (behind s inner outer telling)
        (along_here s inner outer t beyond.count there)
        (λ u other. along_elsewhere s inner outer u beyond.count
        (λ i place is_u. other (sym is_u ∙ there i place)));
  }

-- there is still room where no row lost any
pub room_grown : {beyond : Beyond} {old new : List TileRow} → HaveGrown old new → HasRoomBeyond old beyond
    → HasRoomBeyond new beyond
room_grown {beyond} grown room = record {
  hints = λ some.
      let had = room.hints some in
      let more = grown.hints beyond.tile in
      omega (arith, had, more);
  runs = λ some.
      let had = room.runs some in
      let more = grown.runs beyond.tile in
      omega (arith, had, more);
}

-- there is still room beyond a side that does not tell the same tile
pub room_stays : {from generation : ℕ} {side : Side} {one other : Beyond} {old new : List TileRow} {waits : List Bool}
    → IsTold from generation side one old new waits → TellApart one other → HasRoomBeyond old other
    → HasRoomBeyond new other
room_stays {one = one} {other = other} told apart room = record {
  hints = λ some.
      subst (λ n. other.count ≤ n)
      (sym (told.hint_rooms other.tile (λ tells same. apart tells some (sym same)))) (room.hints some);
  runs = λ some.
      subst (λ n. 0 < n)
      (sym (told.run_rooms other.tile (λ tells same. apart tells some (sym same)))) (room.runs some);
}

-- ---- a side, by what lies beyond it

module _ {tiles : Tiles} {goes_on is_column : Bool} {first : Pixel} {count : ℕ} {side : Side} {beyond : Beyond}
    (leads : LeadsTo tiles goes_on first is_column count side beyond) where
  at_most : beyond.count ≤ count
  at_most = elim (cases_lt 0 beyond.count) [
    | inl some ↦ let is = (leads.some some).1 in omega (arith, is)
    | inr none ↦ omega (arith, none)
  ]

  pub can_tell : (IsTrue goes_on → HasLength count side) → place_of first is_column + count ≤ 4294967296
      → CanTell side beyond
  can_tell lengths fits = record {
    lengths = elim (cases_lt 0 beyond.count) [
      | inl some ↦
          let tells = leads.some some in
          subst (λ n. HasLength n side) (sym tells.1) (lengths tells.0)
      | inr none ↦ record {
        own = omega (arith, none);
        risen = omega (arith, none);
        beyond = omega (arith, none);
        limits = omega (arith, none);
      }
    ];
    place =
        let same : place_of beyond.first beyond.is_column ≡ place_of first is_column =
        ap (λ (p : Pixel). place_of p beyond.is_column) leads.first_is ∙ ap (place_of first) leads.is_column_is in
        omega (arith, same, at_most, fits);
  }

  module _ (s : Sender) (inner outer : ℕ → Pixel)
      (along : IsTrue goes_on → IsAlong count inner outer s.image s.mask side)
      (there : IsTrue goes_on → (i : ℕ) → i < count → tile_of tiles (outer i) ≡ tile_of tiles first)
      (tiles_are : s.tiles ≡ tiles) where
    -- the image goes on where a hint is told
    goes : (i : ℕ) → i < beyond.count → IsTrue goes_on
    goes i place = (leads.some (omega (arith, place))).0

    in_all : (i : ℕ) → i < beyond.count → i < count
    in_all i place = omega (arith, place, at_most)

    lies_there : (i : ℕ) → i < beyond.count → tile_of s.tiles (outer i) ≡ tile_of tiles first
    lies_there i place =
        ap (λ (ts : Tiles). tile_of ts (outer i)) tiles_are ∙ there (goes i place) i (in_all i place)

    pub is_telling : (generation : ℕ) → s.generation ≡ generation
        → ((i : ℕ) → outer i ≡ pixel_behind first is_column i)
        → (IsTrue goes_on → tile_of tiles first ≢ s.tile)
        → IsTelling s s.tile generation side beyond inner outer
    is_telling generation generation_is outer_is other = record {
      told = record {
        tile = refl;
        generation = generation_is;
        along = record {
          own = λ i place. (along (goes i place)).own i (in_all i place);
          beyond = λ i place. (along (goes i place)).beyond i (in_all i place);
          limits = λ i place. (along (goes i place)).limits i (in_all i place);
        };
        pixels = λ i place.
            outer_is i
            ∙ sym (ap (λ (p : Pixel). pixel_behind p beyond.is_column i) leads.first_is
            ∙ ap (λ (b : Bool). pixel_behind first b i) leads.is_column_is);
        others = λ i place same. other (goes i place) (sym (lies_there i place) ∙ same);
      };
      there = λ i place. lies_there i place ∙ sym (leads.tile_is (goes i place));
    }

    -- what is told goes to the tile beyond
    pub told_elsewhere : (t : ℕ) → (IsTrue goes_on → t ≡ tile_of tiles first → ⊥)
        → hints_at s.tiles t (hints_along s beyond.count inner outer) ≡ []
    told_elsewhere t never =
        along_elsewhere s inner outer t beyond.count
        (λ i place is_t. never (goes i place) (sym is_t ∙ lies_there i place))

    -- and is all that is to tell there
    pub told_there : IsTrue goes_on
        → hints_at s.tiles (tile_of tiles first) (hints_along s beyond.count inner outer)
        ≡ hints_along s count inner outer
    told_there on =
        along_here s inner outer (tile_of tiles first) beyond.count lies_there
        ∙ elim (cases_lt 0 beyond.count) [
          | inl some ↦ ap (λ n. hints_along s n inner outer) (leads.some some).1
          | inr none ↦
              let zero_is : beyond.count ≡ 0 = omega (arith, none) in
              ap (λ n. hints_along s n inner outer) zero_is
              ∙ sym (none_where_closed s inner outer side count (along on) (leads.closed on zero_is))
        ]
