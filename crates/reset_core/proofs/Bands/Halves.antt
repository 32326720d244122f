-- Bands that stand one below another, cut in two.
use Rattle.std.proofs.Common.{◌≡◌, ℕ, ◌+◌, sym, ◌∙◌, subst, arith, refl, List, [], ◌∷◌, ◌++◌, map}
use Rattle.std.proofs.lemmas.List.{append_assoc}
use Rattle.grid_core.specs.Tiles.{Tiles, rows_of}
use Rattle.border_queues.specs.Laws.{EdgesAreOpen}
use Rattle.core_rules.specs.{Invariant.IsSound}
use Rattle.core_rules.specs.Work.{Core, tiling}
use Rattle.reset_core.specs.{Settling.HasOnlySweeps, Bounding.AreBounded}
use Rattle.reset_core.specs.Bands.{Strip, Top, cells_of, works_of, tables_of, AreStacked, IsTopOf, AreAllSwept, rows_in}
use Rattle.reset_core.specs.Bands.{rows_above, lowered_bounds, AreSomewhere, IsSomewhere}
use Rattle.reset_core.proofs.Bands.Stacks.{IsBandKept, around, band_in, more_top, top_of_rest}

-- bands that stand somewhere may be cut in two
pub cut_somewhere : (tiles : Tiles) (above : ℕ) (first second : List Strip) → AreSomewhere tiles above (first ++ second)
    → AreSomewhere tiles above first × AreSomewhere tiles (above + rows_in first) second
cut_somewhere tiles above [] second all =
    let none : above ≡ above + 0 = omega arith in
    (tt, subst (λ n. AreSomewhere tiles n second) none all)
cut_somewhere tiles above (strip ∷ rest) second all =
    let n = rows_of (tiling strip.core) in
    let (others, below) = cut_somewhere tiles (above + n) rest second all.1 in
    let sum : above + n + rows_in rest ≡ above + (n + rows_in rest) = omega arith in
    ((all.0, others), subst (λ k. AreSomewhere tiles k second) sum below)

-- what was swept in both parts was swept in all of them
pub swept_in_both : (tiles : Tiles) (first : List Strip) (tss : List (List ℕ)) (after : List Strip) (above : ℕ)
    (second : List Strip) (more : List (List ℕ)) (others : List Strip) → AreAllSwept tiles above first tss after
    → AreAllSwept tiles (above + rows_in first) second more others
    → AreAllSwept tiles above (first ++ second) (tss ++ more) (after ++ others)
swept_in_both tiles [] [] [] above second more others swept below =
    let none : above + 0 ≡ above = omega arith in
    subst (λ n. AreAllSwept tiles n second more others) none below
swept_in_both tiles (strip ∷ rest) (ts ∷ tss) (one ∷ after) above second more others swept below =
    let n = rows_of (tiling strip.core) in
    let sum : above + (n + rows_in rest) ≡ above + n + rows_in rest = omega arith in (
      swept.0,
      swept_in_both tiles rest tss after (above + n) second more others swept.1
          (subst (λ k. AreAllSwept tiles k second more others) sum below),
    )
swept_in_both tiles _ _ _ above second more others swept below = absurd swept

-- each band of a core stands somewhere: in it
pub each_somewhere : (strips : List Strip) (whole : Core) (above : ℕ) (top : Top) → EdgesAreOpen → IsSound whole
    → HasOnlySweeps whole → IsTopOf (tiling whole) above top strips → AreStacked whole above strips
    → whole.image.cells ≡ top.cells ++ cells_of strips → whole.tiles ≡ top.works ++ works_of strips
    → AreBounded whole (top.table ++ tables_of (tiling whole) above strips) → AreSomewhere (tiling whole) above strips
each_somewhere [] whole above top edges_open sound left is_top stacked cells works bounded = tt
each_somewhere (strip ∷ rest) whole above top edges_open sound left is_top stacked cells works bounded =
    let stands = stacked.0 in
    let n = rows_of (tiling strip.core) in
    let low = lowered_bounds (rows_above (tiling whole) above) in
    let tables = tables_of (tiling whole) (above + n) rest in
    let kept : IsBandKept strip.core strip.table strip.core strip.table =
    record { tiles = refl; cells = refl; works = refl; table = refl; filled = stands.filled } in
    let here : IsSomewhere (tiling whole) above strip = record {
      whole = whole;
      around = around edges_open whole above top strip rest sound is_top stands cells works;
      table_above = top.table;
      table_below = tables;
      tiling_is = refl;
      sound = sound;
      left = left;
      tiled = stands.tiled;
      is = band_in edges_open whole above top strip rest sound is_top stands cells works;
      count_above = is_top.table;
      count = stands.table;
      bounded = bounded;
    } in (
      here,
      each_somewhere rest whole (above + n) (more_top edges_open whole above top strip) edges_open sound left
          (top_of_rest edges_open whole above top strip strip rest sound.shape.tiled is_top stands stacked.1 kept)
          stacked.2
          (cells ∙ sym (append_assoc top.cells strip.core.image.cells (cells_of rest)))
          (works ∙ sym (append_assoc top.works strip.core.tiles (works_of rest)))
          (subst (AreBounded whole) (sym (append_assoc top.table (map low strip.table) tables)) bounded),
    )
