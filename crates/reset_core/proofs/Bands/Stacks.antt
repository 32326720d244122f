-- Bands that stand one below another: what is swept in each of them is one run of the whole.
use Rattle.std.proofs.Common.{◌≡◌, ℕ, zero, suc, ◌+◌, ◌*◌, ◌%◌, ◌^◌, sym, ap, ◌∙◌, subst, arith, refl, List, []}
use Rattle.std.proofs.Common.{◌∷◌, ◌++◌, map, length, inl, inr, ◌⊎◌, ◌<◌, ◌/◌}
use Rattle.std.proofs.lemmas.Nat.{div-add-mod', mod_below, mod-mul-add}
use Rattle.std.proofs.lemmas.List.{append_assoc, length-append, length-map, length-set}
use Rattle.grid_core.specs.{declared.bounds.Bounds.Bounds, Bounds.no_bounds, Raster.Raster, Raster.IsFilled}
use Rattle.grid_core.specs.Tiles.{Tiles, IsTiled, columns_of, rows_of, count_of}
use Rattle.border_queues.specs.{Laws.EdgesAreOpen, TileWork.TileWork}
use Rattle.core_rules.specs.{Invariant.IsSound, Runs.tiles_taken}
use Rattle.core_rules.specs.Work.{Core, tiling}
use Rattle.core_rules.proofs.{Running.run_append, Leaving.taken_append}
use Rattle.reset_core.specs.{Settling.HasOnlySweeps, Bounding.AreBounded}
use Rattle.reset_core.specs.Telling.{clean}
use Rattle.reset_core.specs.Bands.{Around, IsBandIn, rows_above, tiles_above, lowered_bounds, later_serial}
use Rattle.reset_core.specs.Bands.{Strip, Top, cells_of, works_of, tables_of, StandsAt, AreStacked, IsTop, AreAllSwept}
use Rattle.reset_core.specs.Bands.{IsTopOf}
use Rattle.reset_core.specs.Bands.{all_taken, with_all, AreSweptInBand, IsSweptInBand, AreSwept, with_band}
use Rattle.core_rules.proofs.Counting.{merges_append}
use Rattle.reset_core.proofs.Bands.Tiles.{columns_same}
use Rattle.reset_core.proofs.Bands.Runs.{IsBandDone, band_runs, abandons_both}

-- ---- one run after another

pub sweeps_follow : (a b c : Core) (first second : List ℕ) → AreSwept a first b → AreSwept b second c
    → AreSwept a (first ++ second) c
sweeps_follow a b c first second one more = record {
  log = one.log ++ more.log;
  runs = run_append a b c one.log more.log one.runs more.runs;
  taken =
      taken_append one.log more.log ∙ ap (λ l. l ++ tiles_taken more.log) one.taken ∙ ap (λ l. first ++ l) more.taken;
  none_abandoned = omega (arith, abandons_both one.log more.log, one.none_abandoned, more.none_abandoned);
  none_merged = omega (arith, merges_append one.log more.log, one.none_merged, more.none_merged);
  count = more.count ∙ one.count;
  left = more.left;
  spent = omega (arith, length-append first second, one.spent, more.spent);
}

serials_follow : (serial n m : ℕ) → later_serial (later_serial serial n) m ≡ later_serial serial (n + m)
serials_follow serial zero m = let none : m ≡ 0 + m = omega arith in ap (later_serial serial) none
serials_follow serial (suc n) m =
    let one : suc (n + m) ≡ suc n + m = omega arith in
    serials_follow ((serial + 1) % 2 ^ 64) n m ∙ ap (later_serial serial) one

-- a remainder may be taken before adding too
remainder_first : (x n m : ℕ) → 0 < m → (x % m + n) % m ≡ (x + n) % m
remainder_first x n m positive =
    let whole = div-add-mod' x m in
    let rest = div-add-mod' (x % m + n) m in
    let same : x + n ≡ (x / m + (x % m + n) / m) * m + (x % m + n) % m = omega (arith, whole, rest) in
    sym (ap (λ k. k % m) same
    ∙ mod-mul-add (x / m + (x % m + n) / m) m ((x % m + n) % m) (mod_below (x % m + n) m positive))

-- the serial after so many takes is their sum, modulo 2^64
pub serials_add : (serial n : ℕ) → serial < 2 ^ 64 → later_serial serial n ≡ (serial + n) % 2 ^ 64
serials_add serial zero less =
    let sum : serial + 0 ≡ 0 * 2 ^ 64 + serial = omega arith in
    sym (ap (λ k. k % 2 ^ 64) sum ∙ mod-mul-add 0 (2 ^ 64) serial less)
serials_add serial (suc n) less =
    let sum : serial + 1 + n ≡ serial + suc n = omega arith in
    serials_add ((serial + 1) % 2 ^ 64) n (mod_below (serial + 1) (2 ^ 64) (omega arith))
    ∙ remainder_first (serial + 1) n (2 ^ 64) (omega arith) ∙ ap (λ k. k % 2 ^ 64) sum

-- ---- what sweeping keeps of a band

pub record IsBandKept (before : Core) (bounds : List Bounds) (after : Core) (new : List Bounds) : Type 0 where
  pub tiles : tiling after ≡ tiling before
  pub cells : length after.image.cells ≡ length before.image.cells
  pub works : length after.tiles ≡ length before.tiles
  pub table : length new ≡ length bounds
  pub filled : IsFilled after.image

step_keeps : (whole : Tiles) (above : ℕ) (before : Core) (table : List Bounds) (t : ℕ) (after : Core)
    (new : List Bounds) → IsFilled before.image → IsSweptInBand whole above before table t after new
    → IsBandKept before table after new
step_keeps whole above before table t after new filled step =
    let cells : length step.left.image.cells ≡ length before.image.cells =
    step.told.over.cells ∙ step.grown.size.filled ∙ (λ i. step.grown.size.width i * step.grown.size.height i)
    ∙ sym filled in
    let filled_then : IsFilled step.left.image =
    step.told.over.cells ∙ step.grown.size.filled
    ∙ (λ i. sym step.told.over.width i * sym step.told.over.height i) in
    subst (λ core. IsBandKept before table core new) (sym step.result) (record {
      tiles = refl;
      cells = cells;
      works = step.told.over.count ∙ length-set before.tiles t (clean before t);
      table = step.follow.widened.count ∙ length-set table t no_bounds;
      filled = filled_then;
    })

pub sweeps_keep : (whole : Tiles) (above : ℕ) (before : Core) (table : List Bounds) (ts : List ℕ) (after : Core)
    (new : List Bounds) → IsFilled before.image → AreSweptInBand whole above before table ts after new
    → IsBandKept before table after new
sweeps_keep whole above before table [] after new filled (same, kept) =
    subst (λ core. IsBandKept before table core new) (sym same) (record {
      tiles = refl;
      cells = refl;
      works = refl;
      table = ap length kept;
      filled = filled;
    })
sweeps_keep whole above before table (t ∷ ts) after new filled (next, middle, step, more) =
    let one = step_keeps whole above before table t next middle filled step in
    let rest = sweeps_keep whole above next middle ts after new one.filled more in
    record {
      tiles = rest.tiles ∙ one.tiles;
      cells = rest.cells ∙ one.cells;
      works = rest.works ∙ one.works;
      table = rest.table ∙ one.table;
      filled = rest.filled;
    }

-- ---- bands

-- where bands stand says nothing of image, work and serial
stacked_still : (whole : Core) (image : Raster) (works : List TileWork) (serial above : ℕ) (strips : List Strip)
    → AreStacked whole above strips
    → AreStacked (record whole { image = image; tiles = works; serial = serial }) above strips
stacked_still whole image works serial above [] stacked = tt
stacked_still whole image works serial above (strip ∷ rest) stacked =
    let stands = stacked.0 in (
      record {
        tiled = stands.tiled;
        tiles = stands.tiles;
        conn = stands.conn;
        mask = stands.mask;
        width = stands.width;
        height = stands.height;
        filled = stands.filled;
        works = stands.works;
        table = stands.table;
      },
      stacked.1,
      stacked_still whole image works serial (above + rows_of (tiling strip.core)) rest stacked.2,
    )

module _ (edges_open : EdgesAreOpen) where
  module _ (whole : Core) (above : ℕ) (top : Top) (strip : Strip) (rest : List Strip) (sound : IsSound whole)
      (is_top : IsTop (tiling whole) above top) (stands : StandsAt whole above strip)
      (cells : whole.image.cells ≡ top.cells ++ cells_of (strip ∷ rest))
      (works : whole.tiles ≡ top.works ++ works_of (strip ∷ rest)) where
    abbrev pub around : Around
    around = record {
      width = whole.image.width;
      height = whole.image.height;
      cells_above = top.cells;
      cells_below = cells_of rest;
      works_above = top.works;
      works_below = works_of rest;
    }

    pub band_in : IsBandIn whole above strip.core around
    band_in = record {
      tiles = stands.tiles;
      conn = stands.conn;
      mask = stands.mask;
      parts = λ i. record {
        image = record { width = whole.image.width; height = whole.image.height; cells = cells i };
        rows = works i;
      };
      fits = record {
        width = sound.shape.image.width;
        height = sound.shape.image.height;
        cells_above = is_top.cells;
        works_above = is_top.works;
        band_width = stands.width;
        band_height = stands.height;
        filled = stands.filled;
        works = stands.works;
      };
    }

  -- the top with one more band
  abbrev pub more_top : Core → ℕ → Top → Strip → Top
  more_top whole above top strip = record {
    cells = top.cells ++ strip.core.image.cells;
    works = top.works ++ strip.core.tiles;
    table = top.table ++ map (lowered_bounds (rows_above (tiling whole) above)) strip.table;
  }

  pub is_more_top : (whole : Core) (above : ℕ) (top : Top) (strip after : Strip) → IsTiled (tiling whole)
      → IsTop (tiling whole) above top → StandsAt whole above strip
      → strip.core.mask.height ≡ rows_of (tiling strip.core) * whole.side
      → IsBandKept strip.core strip.table after.core after.table
      → IsTop (tiling whole) (above + rows_of (tiling strip.core)) (more_top whole above top after)
  is_more_top whole above top strip after tiled is_top stands even kept =
      let n = rows_of (tiling strip.core) in
      let columns = columns_same (tiling whole) above (tiling strip.core) tiled stands.tiled stands.tiles in
      let size : length after.core.image.cells ≡ whole.mask.width * (n * whole.side) =
      kept.cells ∙ stands.filled ∙ (λ i. stands.width i * stands.height i)
      ∙ (λ i. stands.tiles.width i * even i) in
      let count : count_of (tiling strip.core) ≡ columns_of (tiling whole) * n = ap (λ c. c * n) columns in
      let low = lowered_bounds (rows_above (tiling whole) above) in
      let sum : above * whole.side * whole.mask.width + whole.mask.width * (n * whole.side)
      ≡ (above + n) * whole.side * whole.mask.width = omega arith in
      let tiles : above * columns_of (tiling whole) + columns_of (tiling whole) * n
      ≡ (above + n) * columns_of (tiling whole) = omega arith in
      record {
        cells = length-append top.cells after.core.image.cells ∙ (λ i. is_top.cells i + size i) ∙ sum;
        works =
            length-append top.works after.core.tiles
            ∙ (λ i. is_top.works i + (kept.works ∙ stands.works ∙ count) i) ∙ tiles;
        table =
            length-append top.table (map low after.table)
            ∙ (λ i. is_top.table i + (length-map after.table low ∙ kept.table ∙ stands.table ∙ count) i) ∙ tiles;
      }

  pub top_of_rest : (whole : Core) (above : ℕ) (top : Top) (strip after : Strip) (rest : List Strip)
      → IsTiled (tiling whole) → IsTop (tiling whole) above top → StandsAt whole above strip
      → (rest ≡ []) ⊎ (strip.core.mask.height ≡ rows_of (tiling strip.core) * whole.side)
      → IsBandKept strip.core strip.table after.core after.table
      → IsTopOf (tiling whole) (above + rows_of (tiling strip.core)) (more_top whole above top after) rest
  top_of_rest whole above top strip after [] tiled is_top stands ends kept = tt
  top_of_rest whole above top strip after (other ∷ rest) tiled is_top stands ends kept = elim ends [
    | inl none ↦ absurd cc
    | inr even ↦ is_more_top whole above top strip after tiled is_top stands even kept
  ]

  -- what is swept in each of the bands is one run of the whole
  pub stack_runs : (strips : List Strip) (tss : List (List ℕ)) (others : List Strip) (whole : Core) (above : ℕ)
      (top : Top) → IsSound whole → HasOnlySweeps whole → IsTopOf (tiling whole) above top strips
      → AreStacked whole above strips → whole.image.cells ≡ top.cells ++ cells_of strips
      → whole.tiles ≡ top.works ++ works_of strips
      → AreBounded whole (top.table ++ tables_of (tiling whole) above strips)
      → AreAllSwept (tiling whole) above strips tss others
      → IsBandDone whole (all_taken (tiling whole) above strips tss)
      (with_all whole top others (length (all_taken (tiling whole) above strips tss)))
      (top.table ++ tables_of (tiling whole) above others)
  stack_runs [] [] [] whole above top sound left is_top stacked cells works bounded swept =
      let same : whole ≡ with_all whole top [] 0 =
      λ i. record whole { image = record whole.image { cells = cells i }; tiles = works i } in
      subst (λ core. IsBandDone whole [] core (top.table ++ [])) same (record {
        swept = record {
          log = [];
          runs = refl;
          taken = refl;
          none_abandoned = refl;
          none_merged = refl;
          count = refl;
          left = left;
          spent = omega arith;
        };
        sound = sound;
        bounded = bounded;
      })
  stack_runs (strip ∷ rest) (ts ∷ tss) (after ∷ others) whole above top sound left is_top stacked cells works bounded
      swept =
      let stands = stacked.0 in
      let n = rows_of (tiling strip.core) in
      let low = lowered_bounds (rows_above (tiling whole) above) in
      let stand : Around = around whole above top strip rest sound is_top stands cells works in
      let down : List ℕ = map (λ t. tiles_above (tiling whole) above + t) ts in
      let below : List ℕ = all_taken (tiling whole) (above + n) rest tss in
      let middle = with_band whole stand after.core (length ts) in
      let tables = tables_of (tiling whole) (above + n) rest in
      let one : IsBandDone whole down middle (top.table ++ (map low after.table ++ tables)) =
      band_runs edges_open above stand top.table tables whole strip.core stands.tiled sound left
      (band_in whole above top strip rest sound is_top stands cells works) strip.table is_top.table stands.table
      bounded ts
      after.core after.table swept.0 in
      let kept =
      sweeps_keep (tiling whole) above strip.core strip.table ts after.core after.table stands.filled swept.0 in
      let more = more_top whole above top after in
      let others_done : IsBandDone middle below (with_all middle more others (length below))
      (more.table ++ tables_of (tiling whole) (above + n) others) =
      stack_runs rest tss others middle (above + n) more one.sound one.swept.left
      (top_of_rest whole above top strip after rest sound.shape.tiled is_top stands stacked.1 kept)
      (stacked_still whole middle.image middle.tiles middle.serial (above + n) rest stacked.2)
      (sym (append_assoc top.cells after.core.image.cells (cells_of rest)))
      (sym (append_assoc top.works after.core.tiles (works_of rest)))
      (subst (AreBounded middle) (sym (append_assoc top.table (map low after.table) tables)) one.bounded) swept.1 in
      let takes : length ts + length below ≡ length (down ++ below) =
      omega (arith, length-append down below, length-map ts (λ t. tiles_above (tiling whole) above + t)) in
      let serial = serials_follow whole.serial (length ts) (length below) ∙ ap (later_serial whole.serial) takes in
      let final : with_all middle more others (length below) ≡ with_all whole top (after ∷ others) (length (down ++
      below)) =
      λ i. record whole {
        image = record whole.image { cells = append_assoc top.cells after.core.image.cells (cells_of others) i };
        tiles = append_assoc top.works after.core.tiles (works_of others) i;
        serial = serial i;
      } in
      let table : more.table ++ tables_of (tiling whole) (above + n) others
      ≡ top.table ++ tables_of (tiling whole) above (after ∷ others) =
      append_assoc top.table (map low after.table) (tables_of (tiling whole) (above + n) others)
      ∙ ap (λ (tiles : Tiles). top.table ++ (map low after.table ++ tables_of (tiling whole) (above + rows_of tiles)
      others))
      (sym kept.tiles) in
      subst (λ core. IsBandDone whole (down ++ below) core (top.table ++ tables_of (tiling whole) above (after ∷
      others)))
      final (subst (IsBandDone whole (down ++ below) (with_all middle more others (length below))) table (record {
        swept =
            sweeps_follow whole middle (with_all middle more others (length below)) down below one.swept
            others_done.swept;
        sound = others_done.sound;
        bounded = others_done.bounded;
      }))
  stack_runs _ _ _ whole above top sound left is_top stacked cells works bounded swept = absurd swept
