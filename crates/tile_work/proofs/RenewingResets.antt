-- Tiles that are reset one after the other.
use Rattle.std.proofs.Common.{◌≡◌, ℕ, ◌+◌, ◌<◌, ◌≤◌, Bool, true, List, length, refl, sym, ap, subst, ◌∙◌, arith, inl}
use Rattle.std.proofs.Common.{inr, ◌⊎◌, ◌↔◌}
use Rattle.std.proofs.lemmas.Bool.{cases_eq, cases_lt}
use Rattle.grid_core.specs.{declared.pixel.Pixel.Pixel, Raster.Raster, Raster.value_at, Tiles.Tiles, Tiles.AreTouching}
use Rattle.border_queues.specs.TileWork.{TileWork, reset_work, work_of}
use Rattle.tile_work.specs.TileSet.{Has, HasNoneFrom, IsFirstFrom}
use Rattle.tile_work.specs.Renewing.{AreCopiedIn, AreReset, IsDirtyIf, IsOneReset, IsTileKept, TouchesMarked}
use Rattle.core_rules.specs.{Merge.IsReset, Hits.IsInTile}
use Rattle.tile_work.proofs.RenewingWork.{dirty_joins, dirty_stays, dirty_alike}

-- a marked tile before this one
abbrev pub IsMarkedBefore : List Bool → ℕ → ℕ → Type 0
IsMarkedBefore marks from t = Has marks t × (t < from)

-- ---- the work of a tile that is reset

-- a reset tile stays one where it is made dirty
pub reset_stays : (hit : Type 0) (before middle after : TileWork) → middle ≡ reset_work before
    → IsDirtyIf hit middle after → after ≡ reset_work before
reset_stays hit before middle after is then_ =
    let was : middle.dirty ≡ true = ap (λ (w : TileWork). w.dirty) is in
    let yes : after.dirty ≡ true = then_.dirty.1 (inl was) in
    then_.rest ∙ ap (λ (w : TileWork). record w { dirty = after.dirty }) is
    ∙ ap (λ d. record (reset_work before) { dirty = d }) yes

-- a tile that was made dirty is reset alike
reset_later : {hit : Type 0} {before middle after : TileWork} → IsDirtyIf hit before middle
    → after ≡ reset_work middle → after ≡ reset_work before
reset_later first is = is ∙ ap reset_work first.rest

-- ---- all tiles

-- no tile is marked yet
pub reset_none : (tiling : Tiles) (is_marked : ℕ → Type 0) (marker old : Raster) (work : List TileWork)
    → ((t : ℕ) → is_marked t → ⊥) → AreReset tiling is_marked marker old old work work
reset_none tiling is_marked marker old work never t within =
    inr (
      never t,
      record {
        work = dirty_stays (λ touches. never touches.u touches.marked);
        values = λ p in_tile. refl;
      },
    )

touches_alike : (tiling : Tiles) (a b : ℕ → Type 0) (t : ℕ) → ((u : ℕ) → a u ↔ b u)
    → TouchesMarked tiling a t ↔ TouchesMarked tiling b t
touches_alike tiling a b t same = (
  λ touches. record { u = touches.u; marked = (same touches.u).0 touches.marked; touching = touches.touching },
  λ touches. record { u = touches.u; marked = (same touches.u).1 touches.marked; touching = touches.touching },
)

-- the same tiles are marked
pub reset_alike : (tiling : Tiles) (a b : ℕ → Type 0) (marker old new : Raster) (before after : List TileWork)
    → ((t : ℕ) → a t ↔ b t) → AreReset tiling a marker old new before after
    → AreReset tiling b marker old new before after
reset_alike tiling a b marker old new before after same are t within = elim (are t within) [
  | inl (marked, reset) ↦ inl ((same t).0 marked, reset)
  | inr (not_marked, kept) ↦ inr (
    λ marked. not_marked ((same t).1 marked),
    record {
      work = dirty_alike (touches_alike tiling a b t same) kept.work;
      values = kept.values;
    },
  )
]

-- where none is marked from a place on, each marked tile comes before it
pub all_before : (marks : List Bool) (from t : ℕ) → HasNoneFrom marks from → Has marks t → t < from
all_before marks from t none has = elim (cases_lt t from) [
  | inl below ↦ below
  | inr above ↦ absurd (none t above has)
]

-- a marked tile up to the first one from a place on is that one or comes before the place
pub last_or_before : (marks : List Bool) (from tile t : ℕ) → IsFirstFrom marks from tile
    → IsMarkedBefore marks (tile + 1) t → IsMarkedBefore marks from t ⊎ (t ≡ tile)
last_or_before marks from tile t first (has, below) = elim (cases_lt t from) [
  | inl earlier ↦ inl (has, earlier)
  | inr later ↦ inr (let at_least : tile ≤ t = first.first t later has in omega arith)
]

-- one tile more is reset, the first marked one from a place on
module _ (tiling : Tiles) (marks : List Bool) (from tile : ℕ) (marker image : Raster)
    (before between after : List TileWork) (count : length between ≡ length before)
    (first : IsFirstFrom marks from tile)
    (so_far : AreReset tiling (IsMarkedBefore marks from) marker image image before between)
    (one : IsOneReset tiling between after tile)
    (shown : (p : Pixel) → IsInTile tiling tile p → value_at image p ≡ value_at marker p) where
  before_or_last : (t : ℕ) → IsMarkedBefore marks from t → IsMarkedBefore marks (tile + 1) t
  before_or_last t (has, below) = (has, omega (arith, first.from))

  -- so a tile touches a marked one if it touches an earlier one or this one
  touches_more : (t : ℕ) → TouchesMarked tiling (IsMarkedBefore marks (tile + 1)) t
      ↔ (TouchesMarked tiling (IsMarkedBefore marks from) t ⊎ AreTouching tiling t tile)
  touches_more t = (
    λ touches. elim (last_or_before marks from tile touches.u first touches.marked) [
      | inl earlier ↦ inl (record { u = touches.u; marked = earlier; touching = touches.touching })
      | inr this ↦ inr (subst (λ u. AreTouching tiling t u) this touches.touching)
    ],
    λ some. elim some [
      | inl earlier ↦ record {
        u = earlier.u;
        marked = before_or_last earlier.u earlier.marked;
        touching = earlier.touching;
      }
      | inr touching ↦ record { u = tile; marked = (first.has, omega arith); touching = touching }
    ],
  )

  pub own_tile : (t : ℕ) → t ≡ tile → t < length before
      → IsReset tiling (value_at marker) image (work_of before t) (work_of after t) t
  own_tile t same within = elim (so_far t within) [
    | inl (marked, reset) ↦ absurd (omega (arith, marked.1, first.from, same))
    | inr (not_marked, kept) ↦ record {
      work =
          reset_later kept.work
          (subst (λ u. work_of after u ≡ reset_work (work_of between u)) (sym same) one.own);
      image = λ p in_tile. shown p (subst (λ u. IsInTile tiling u p) same in_tile);
    }
  ]

  pub other_tile : (t : ℕ) → (t ≡ tile → ⊥) → t < length before
      → (IsMarkedBefore marks (tile + 1) t
      × IsReset tiling (value_at marker) image (work_of before t) (work_of after t) t)
      ⊎ ((IsMarkedBefore marks (tile + 1) t → ⊥)
      × IsTileKept tiling (IsMarkedBefore marks (tile + 1)) image image (work_of before t) (work_of after t) t)
  other_tile t other within =
      let now = one.others t (omega (arith, within, count)) other in
      elim (so_far t within) [
        | inl (marked, reset) ↦ inl (
          before_or_last t marked,
          record {
            work = reset_stays (AreTouching tiling t tile) (work_of before t) (work_of between t) (work_of after t)
                reset.work now;
            image = reset.image;
          },
        )
        | inr (not_marked, kept) ↦ inr (
          λ marked. elim (last_or_before marks from tile t first marked) [
            | inl earlier ↦ not_marked earlier
            | inr this ↦ other this
          ],
          record {
            work = dirty_joins kept.work now (touches_more t);
            values = kept.values;
          },
        )
      ]

  pub reset_more : AreReset tiling (IsMarkedBefore marks (tile + 1)) marker image image before after
  reset_more t within = elim (cases_eq t tile) [
    | inl same ↦ inl ((subst (λ u. Has marks u) (sym same) first.has, omega arith), own_tile t same within)
    | inr other ↦ other_tile t other within
  ]

-- a tile that is not reset yet has its generation
pub same_generation : (tiling : Tiles) (is_marked : ℕ → Type 0) (marker old new : Raster) (before after : List TileWork)
    (t : ℕ) → AreReset tiling is_marked marker old new before after → t < length before → (is_marked t → ⊥)
    → (work_of after t).generation ≡ (work_of before t).generation
same_generation tiling is_marked marker old new before after t are within never = elim (are t within) [
  | inl (marked, reset) ↦ absurd (never marked)
  | inr (not_marked, kept) ↦ ap (λ (w : TileWork). w.generation) kept.work.rest
]

-- where the marker was copied into the marked tiles before, the others have their old values
pub reset_behind_copies : (tiling : Tiles) (is_marked : ℕ → Type 0) (marker old image : Raster)
    (before after : List TileWork) → AreCopiedIn tiling is_marked marker old image
    → AreReset tiling is_marked marker image image before after → AreReset tiling is_marked marker old image before after
reset_behind_copies tiling is_marked marker old image before after copied are t within = elim (are t within) [
  | inl reset ↦ inl reset
  | inr (not_marked, kept) ↦ inr (
    not_marked,
    record {
      work = kept.work;
      values = λ p in_tile. copied.beyond p in_tile.inside
          (λ marked. not_marked (subst is_marked in_tile.tile marked));
    },
  )
]
