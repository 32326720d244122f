-- The laws of markers, as statements. Public functions have them as their contracts.
use Rattle.std.specs.Prelude.{◌≡◌, ℕ, ◌≤◌}
use Rattle.grid_core.specs.{declared.pixel.Pixel.Pixel, Path.Domain, Path.Inside}
use Rattle.stroke_lattice.specs.State.{State}
use Rattle.marker_tiles.specs.Marker.{IsMarker}

-- a mask and a state have at most one marker
abbrev pub AtMostOneMarker : Type 0
AtMostOneMarker =
    (d : Domain) (mask : Pixel → ℕ) (s : State) (a b : Pixel → ℕ) → IsMarker d mask s a → IsMarker d mask s b
    → (p : Pixel) → Inside d p → a p ≡ b p

-- a mask and a state have a marker
abbrev pub EveryStateHasAMarker : Type 0
EveryStateHasAMarker = (d : Domain) (mask : Pixel → ℕ) (s : State) → (marker : Pixel → ℕ) × IsMarker d mask s marker

-- a marker is at most its mask
abbrev pub MarkerIsWithinMask : Type 0
MarkerIsWithinMask =
    (d : Domain) (mask : Pixel → ℕ) (s : State) (marker : Pixel → ℕ) → IsMarker d mask s marker
    → (p : Pixel) → Inside d p → marker p ≤ mask p
