-- One tile that is reset, and the tiles that touch it.
use Rattle.std.proofs.Common.{◌≡◌, ℕ, ◌<◌, List, length, get_or, sym, ap, subst, ◌∙◌, arith, ◌↔◌, slice_index}
use Rattle.std.proofs.Common.{slice_set, Contains}
use Rattle.std.proofs.{Math.ListN.length-set, lemmas.List.Elements.Contains-get_or}
use Rattle.std.proofs.lemmas.List.{get_or-set_same, get_or-set_other}
use Rattle.grid_core.specs.Tiles.{Tiles, AreTouching, count_of}
use Rattle.border_queues.specs.TileWork.{TileWork, idle, reset_work, work_of}
use Rattle.tile_work.specs.Renewing.{IsDirtyIf, AreDirtyWhere, IsOneReset}
use Rattle.tile_work.proofs.{RenewingResets.reset_stays, RenewingWork.dirty_alike}

-- touching is mutual
pub touching_back : (tiling : Tiles) (a b : ℕ) → AreTouching tiling a b → AreTouching tiling b a
touching_back tiling a b touching = record {
  other = λ e. touching.other (sym e);
  columns = omega (arith, touching.columns);
  rows = omega (arith, touching.rows);
}

-- those listed are tiles
pub touching_are_tiles : (tiling : Tiles) (tile : ℕ) (around listed : List ℕ) → listed ≡ around
    → ((other : ℕ) → Contains around other ↔ (AreTouching tiling tile other × (other < count_of tiling)))
    → (k : ℕ) → k < length listed → slice_index listed k < count_of tiling
touching_are_tiles tiling tile around listed is_listed members k within =
    let there : Contains around (get_or listed k 0) =
    subst (λ (l : List ℕ). Contains l (get_or listed k 0)) is_listed (Contains-get_or listed k 0 within) in
    ((members (get_or listed k 0)).0 there).1

-- the work of a tile is reset, and the tiles around it are made dirty
module _ (tiling : Tiles) (tile : ℕ) (before middle after : List TileWork) (around listed : List ℕ)
    (is_tile : tile < count_of tiling) (count : length before ≡ count_of tiling)
    (is_reset : middle ≡ slice_set before tile (reset_work (work_of before tile))) (is_listed : listed ≡ around)
    (members : (other : ℕ) → Contains around other ↔ (AreTouching tiling tile other × (other < count_of tiling)))
    (dirty : AreDirtyWhere (Contains listed) middle after) where
  same_count : length middle ≡ length before
  same_count = ap length is_reset ∙ length-set before tile (reset_work (work_of before tile))

  own_row : work_of middle tile ≡ reset_work (work_of before tile)
  own_row =
      ap (λ rows. work_of rows tile) is_reset
      ∙ get_or-set_same before tile (reset_work (work_of before tile)) idle (omega (arith, is_tile, count))

  other_row : (t : ℕ) → (t ≡ tile → ⊥) → work_of middle t ≡ work_of before t
  other_row t other =
      ap (λ rows. work_of rows t) is_reset
      ∙ get_or-set_other before tile t (reset_work (work_of before tile)) idle other

  touched : (t : ℕ) → t < length before → Contains listed t ↔ AreTouching tiling t tile
  touched t within =
      subst (λ (l : List ℕ). Contains l t ↔ AreTouching tiling t tile) (sym is_listed) (
        λ there. touching_back tiling tile t ((members t).0 there).0,
        λ touching. (members t).1 (touching_back tiling t tile touching, omega (arith, within, count)),
      )

  pub one_reset : IsOneReset tiling before after tile
  one_reset = record {
    count = dirty.count ∙ same_count;
    own =
        reset_stays (Contains listed tile) (work_of before tile) (work_of middle tile) (work_of after tile) own_row
        (dirty.each tile (omega (arith, is_tile, count, same_count)));
    others = λ t within other.
        dirty_alike (touched t within)
        (subst (λ (w : TileWork). IsDirtyIf (Contains listed t) w (work_of after t)) (other_row t other)
        (dirty.each t (omega (arith, within, same_count))));
  }
