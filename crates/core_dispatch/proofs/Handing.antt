-- Hints that are handed over, one after another.
use Rattle.std.proofs.Common.{◌≡◌, ℕ, zero, suc, ◌+◌, ◌<◌, ◌≤◌, true, List, [], ◌∷◌, ◌++◌, length, set, get_or}
use Rattle.std.proofs.Common.{refl, sym, ap, ◌∙◌, subst, inl, inr, arith, ◌≢◌, None, remove, slice_get}
use Rattle.std.proofs.{lemmas.Bool.cases_lt, lemmas.List.length-append, lemmas.List.Edits.length-remove}
use Rattle.std.proofs.lemmas.List.{get_or-set_same}
use Rattle.std.proofs.{lemmas.List.Sums.sum_by-set}
use Rattle.grid_core.specs.Tiles.{tile_of}
use Rattle.border_queues.specs.{declared.hint.Hint.Hint, TileWork.TileWork, TileWork.idle}
use Rattle.core_rules.specs.{declared.answers.Handed.Handed, Hints.IsHanded, Hints.without_hint, Runs.Entry}
use Rattle.core_rules.specs.{Runs.HasHints}
use Rattle.core_rules.specs.declared.answers.Handed.TheVariants.{Raised, Same, Stale, Nothing}
use Rattle.core_rules.specs.Work.{Core, IsTile, tiling, work_at}
use Rattle.core_rules.specs.Events.{Hand, OfHand}
use Rattle.core_rules.proofs.Running.{run_append}
use Rattle.tiled_core.specs.Handing.{AreHandedOver}
use Rattle.core_dispatch.proofs.{Marking.kept_field, Steady.handed_is_steady}
use Rattle.core_dispatch.specs.Handing.{AreHands, Counts, HaveHanded, IsSum, IsNextHanded, WereHanded, waiting_count}

set_past : {X : Type 0} (xs : List X) (i : ℕ) (x : X) → length xs ≤ i → set xs i x ≡ xs
set_past [] i x past = refl
set_past (y ∷ ys) zero x past = absurd (omega arith)
set_past (y ∷ ys) (suc i) x past = ap (λ l. y ∷ l) (set_past ys i x (omega arith))

-- other work at a tile, with as many hints
same_count : (works : List TileWork) (t : ℕ) (work : TileWork)
    → length work.inbox ≡ length (get_or works t idle).inbox → waiting_count (set works t work) ≡ waiting_count works
same_count works t work same = elim (cases_lt t (length works)) [
  | inl within ↦
      let moved = sum_by-set (λ (w : TileWork). length w.inbox) works t work idle within in
      omega (arith, moved, same)
  | inr past ↦ ap waiting_count (set_past works t work past)
]

no_get : {X : Type 0} (xs : List X) (i : ℕ) → i < length xs → slice_get xs i ≡ None → ⊥
no_get [] i within none = absurd (omega arith)
no_get (x ∷ xs) zero within none = absurd cc
no_get (x ∷ xs) (suc i) within none = no_get xs i (omega arith) none

pub some_wait : (core : Core) (t : ℕ) → HasHints core t → 0 < length (work_at core t).inbox
some_wait core t (is_tile, some) = some_length (work_at core t).inbox some where
  some_length : (hints : List Hint) → hints ≢ [] → 0 < length hints
  some_length [] some = absurd (some refl)
  some_length (hint ∷ hints) some = omega arith

module _ (before : Core) (t i : ℕ) (is_tile : IsTile before t) (within : i < length (work_at before t).inbox) where
  fewer_without : waiting_count (without_hint before t i).tiles < waiting_count before.tiles
  fewer_without =
      let work : TileWork = record (work_at before t) { inbox = remove (work_at before t).inbox i } in
      let moved = sum_by-set (λ (w : TileWork). length w.inbox) before.tiles t work idle is_tile in
      let less = length-remove (work_at before t).inbox i within in
      omega (arith, moved, less)

  left_without : length (work_at before t).inbox ≤ length (work_at (without_hint before t i) t).inbox + 1
  left_without =
      let work : TileWork = record (work_at before t) { inbox = remove (work_at before t).inbox i } in
      let here = ap (λ (w : TileWork). length w.inbox) (get_or-set_same before.tiles t work idle is_tile) in
      let less = length-remove (work_at before t).inbox i within in
      omega (arith, here, less)

  pub fewer : (handed : Handed) (after : Core) → IsHanded before t i handed after
      → waiting_count after.tiles < waiting_count before.tiles
  fewer Nothing after (none, same) = absurd (no_get (work_at before t).inbox i within none)
  fewer Stale after (hint, there, absent, same) =
      subst (λ (c : Core). waiting_count c.tiles < waiting_count before.tiles) (sym same) fewer_without
  fewer Same after (hint, there, present, low, same) =
      subst (λ (c : Core). waiting_count c.tiles < waiting_count before.tiles) (sym same) fewer_without
  fewer Raised after (hint, there, present, above, same) =
      let lost = without_hint before t i in
      let home = tile_of (tiling lost) hint.to_pixel in
      let as_many = same_count lost.tiles home (record (work_at lost home) { dirty = true }) refl in
      let less = fewer_without in
      subst (λ (c : Core). waiting_count c.tiles < waiting_count before.tiles) (sym same)
      (omega (arith, as_many, less))

  -- at most one hint less waits at the tile
  inbox_left : (handed : Handed) (after : Core) → IsHanded before t i handed after
      → length (work_at before t).inbox ≤ length (work_at after t).inbox + 1
  inbox_left Nothing after (none, same) = absurd (no_get (work_at before t).inbox i within none)
  inbox_left Stale after (hint, there, absent, same) =
      subst (λ (c : Core). length (work_at before t).inbox ≤ length (work_at c t).inbox + 1) (sym same) left_without
  inbox_left Same after (hint, there, present, low, same) =
      subst (λ (c : Core). length (work_at before t).inbox ≤ length (work_at c t).inbox + 1) (sym same) left_without
  inbox_left Raised after (hint, there, present, above, same) =
      let lost = without_hint before t i in
      let home = tile_of (tiling lost) hint.to_pixel in
      let as_many =
      ap length (kept_field (λ (w : TileWork). w.inbox) lost.tiles home t (record (work_at lost home) { dirty = true })
      refl) in
      let left = left_without in
      subst (λ (c : Core). length (work_at before t).inbox ≤ length (work_at c t).inbox + 1) (sym same)
      (omega (arith, as_many, left))

-- where no hint waits from the first tile on, none waits
pub none_waits : (core : Core) → ((n : ℕ) → 0 ≤ n → HasHints core n → ⊥) → IsNextHanded core None core
none_waits core none = (refl, λ u hints. none u (omega arith) hints)

hands_append : (first second : List Entry) → AreHands first → AreHands second → AreHands (first ++ second)
hands_append [] second none more = more
hands_append ((Hand t place, OfHand handed) ∷ log) second rest more = (rest.0, hands_append log second rest.1 more)
hands_append (entry ∷ log) second rest more = absurd rest

count_sum : (n k m long : ℕ) → Counts n long → IsSum n k m → Counts m (long + k)
count_sum n k m long (inl same) (inl (fits, sum)) = inl (omega (arith, same, sum))
count_sum n k m long (inl same) (inr (past, full)) = inr (full, omega (arith, same, past))
count_sum n k m long (inr (full, many)) (inl (fits, sum)) = inr (omega (arith, full, fits, sum), omega (arith, many))
count_sum n k m long (inr (full, many)) (inr (past, still)) = inr (still, omega (arith, many))

pub none_handed : (core : Core) → HaveHanded core 0 core
none_handed core = record { log = []; run = refl; are_hands = tt; count = inl refl }

-- what is handed over is there where fewer hints wait afterwards
is_there : (before : Core) (t i : ℕ) (handed : Handed) (after : Core) → IsHanded before t i handed after
    → waiting_count after.tiles < waiting_count before.tiles → handed ≢ Nothing
is_there before t i handed after happens less nothing =
    let still : after ≡ before = (subst (λ (h : Handed). IsHanded before t i h after) nothing happens).1 in
    let as_many = ap (λ (c : Core). waiting_count c.tiles) still in
    omega (arith, as_many, less)

-- the hints at the first places of an inbox are handed over
pub were_handed : (n t : ℕ) (before after : Core) → IsTile before t → n ≤ length (work_at before t).inbox
    → AreHandedOver t n before after → WereHanded n before after
were_handed zero t before after is_tile within same = record {
  log = [];
  run = same;
  are_hands = tt;
  count = refl;
  fewer = omega (arith, ap (λ (c : Core). waiting_count c.tiles) same);
}
were_handed (suc n) t before after is_tile within (handed, between, happens, rest) =
    let less = fewer before t n is_tile (omega (arith, within)) handed between happens in
    let left = inbox_left before t n is_tile (omega (arith, within)) handed between happens in
    let count = (handed_is_steady before between t n handed happens).count in
    let there : IsTile between t = let lt : t < length before.tiles = is_tile in omega (arith, lt, count) in
    let more = were_handed n t between after there (omega (arith, within, left)) rest in
    record {
      log = (Hand t n, OfHand handed) ∷ more.log;
      run = (between, happens, more.run);
      are_hands = (is_there before t n handed between happens less, more.are_hands);
      count = omega (arith, more.count);
      fewer = omega (arith, more.fewer, less);
    }

-- so many hints more are handed over
pub more_handed : (before now next : Core) (hands k sum : ℕ) → HaveHanded before hands now → WereHanded k now next
    → IsSum hands k sum → HaveHanded before sum next
more_handed before now next hands k sum so_far more is_sum = record {
  log = so_far.log ++ more.log;
  run = run_append before now next so_far.log more.log so_far.run more.run;
  are_hands = hands_append so_far.log more.log so_far.are_hands more.are_hands;
  count =
      let long : length (so_far.log ++ more.log) ≡ length so_far.log + k =
      length-append so_far.log more.log ∙ ap (λ n. length so_far.log + n) more.count in
      subst (Counts sum) (sym long) (count_sum hands k sum (length so_far.log) so_far.count is_sum);
}
