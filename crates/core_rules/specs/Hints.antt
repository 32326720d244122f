-- Hints that are handed to their pixels.
use Rattle.std.specs.Prelude.{◌≡◌, ℕ, ◌<◌, ◌≤◌, true, Option, Some, None, slice_get, remove}
use Rattle.grid_core.specs.{Raster.with_value, Tiles.tile_of}
use Rattle.border_queues.specs.declared.hint.Hint.{Hint}
use Rattle.core_rules.specs.declared.answers.Handed.{Handed}
use Rattle.core_rules.specs.declared.answers.Handed.TheVariants.{Raised, Same, Stale, Nothing}
use Rattle.core_rules.specs.Work.{Core, tiling, image_at, IsTile, work_at, with_work}

-- the hint that waits at this place of the tile's inbox, if there is one
abbrev pub hint_at : Core → ℕ → ℕ → Option Hint
hint_at core t i = slice_get (work_at core t).inbox i

-- the tile that told the hint was not reset since
pub record IsPresent (core : Core) (hint : Hint) : Type 0 where
  pub is_tile : IsTile core hint.from
  pub generation : (work_at core hint.from).generation ≡ hint.from_generation

-- the core without that hint
abbrev pub without_hint : Core → ℕ → ℕ → Core
without_hint core t i = with_work core t (record (work_at core t) { inbox = remove (work_at core t).inbox i })

-- the core with the hint's pixel raised, and the tile of that pixel dirty
abbrev pub raised : Core → Hint → Core
raised core hint =
    let t = tile_of (tiling core) hint.to_pixel in
    record (with_work core t (record (work_at core t) { dirty = true })) {
      image = with_value core.image hint.to_pixel hint.value;
    }

-- a hint is handed over: it leaves the inbox, and raises its pixel where it is present and above the pixel's value
abbrev pub IsHanded : Core → ℕ → ℕ → Handed → Core → Type 0
IsHanded before t i Nothing after = (hint_at before t i ≡ None) × (after ≡ before)
IsHanded before t i Stale after =
    (hint : Hint) × (hint_at before t i ≡ Some hint) × (IsPresent before hint → ⊥) × (after ≡ without_hint before t i)
IsHanded before t i Raised after =
    (hint : Hint) × (hint_at before t i ≡ Some hint) × IsPresent before hint
    × (image_at before hint.to_pixel < hint.value) × (after ≡ raised (without_hint before t i) hint)
IsHanded before t i Same after =
    (hint : Hint) × (hint_at before t i ≡ Some hint) × IsPresent before hint
    × (hint.value ≤ image_at before hint.to_pixel) × (after ≡ without_hint before t i)
