-- How a hand floods a band of rows. Only private functions have these words in their contracts.
use Rattle.std.specs.Prelude.{◌*◌, ◌+◌, ◌<◌, ◌⊎◌, ℕ, ◌≡◌, ◌≤◌}
use Rattle.grid_core.specs.Raster.{IsBelow, Raster}
use Rattle.live_board.specs.Flooding.{AreFounded}
use Rattle.live_board.specs.{Words.mask_of, declared.rule.Ground.Ground, declared.rule.SeatView.SeatView}
use Rattle.live_board.specs.declared.strips.Rows.{Rows}

-- these are some of the band's rows
abbrev pub ArePartOf : Rows → Rows → Type 0
ArePartOf band rows = (band.first ≤ rows.first) × (rows.first < rows.end) × (rows.end ≤ band.end)

-- these are some of the board's rows
abbrev pub AreRowsOf : Ground → Rows → Type 0
AreRowsOf base rows = (rows.first < rows.end) × (rows.end ≤ (mask_of base).height)

-- one row lies right above the other
abbrev pub AreNext : ℕ → ℕ → Type 0
AreNext y z = (z ≡ y + 1) ⊎ (y ≡ z + 1)

-- the image is nowhere above the mask, and what the band's rows have in it is founded in what the seat knows
pub record IsDrawn (base : Ground) (band : Rows) (v : SeatView) (image : Raster) : Type 0 where
  pub below : IsBelow image (mask_of base)
  pub founded :
      AreFounded base v ((mask_of base).width * band.first) ((mask_of base).width * band.end) image.cells
