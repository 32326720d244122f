-- Which tiles show what they showed.
use Rattle.std.specs.Prelude.{◌≡◌, ℕ, List}
use Rattle.grid_core.specs.declared.pixel.Pixel.{Pixel}
use Rattle.core_rules.specs.{Work.Core, Work.tiling, Work.image_at, Hits.IsInTile, Runs.Entry, Runs.IsDirty}
use Rattle.core_rules.specs.{Runs.IsTakenIn}

-- each pixel of the tile has the value that it had
abbrev pub ShowsTheSame : Core → Core → ℕ → Type 0
ShowsTheSame before after t = (p : Pixel) → IsInTile (tiling before) t p → image_at after p ≡ image_at before p

-- the events take no job of the tile, and it is not dirty in the core that they lead to
pub record IsPassedOver (log : List Entry) (after : Core) (t : ℕ) : Type 0 where
  pub untaken : IsTakenIn log t → ⊥
  pub clean : IsDirty after t → ⊥
