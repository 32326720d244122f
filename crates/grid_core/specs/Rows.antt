-- The neighbours of a pixel row by row, as a list. `NeighboursByRows` says what the list is.
use Rattle.std.specs.Prelude.{ℕ, ◌+◌, ◌-◌, Bool, true, false, ◌&&◌, nat_lt, if◌then◌else◌, List, [], ◌∷◌, ◌++◌}
use Rattle.grid_core.specs.{declared.conn.Conn.Conn, declared.pixel.Pixel.Pixel}
use Rattle.grid_core.specs.declared.conn.Conn.TheVariants.{Four, Eight}

-- whether pixels that share only a corner are neighbours
abbrev pub has_diagonals : Conn → Bool
has_diagonals Four = false
has_diagonals Eight = true

-- the pixel where the test holds, else no pixel
abbrev pub pixel_if : Bool → ℕ → ℕ → List Pixel
pixel_if b x y = if b then record { x = x; y = y } ∷ [] else []

-- of row y, within the width: the pixels at columns x - 1 and x + 1 if `sides`, and the one at x if `middle`
abbrev pub row_around : ℕ → ℕ → ℕ → Bool → Bool → List Pixel
row_around width x y sides middle =
    pixel_if (sides && nat_lt 0 x) (x - 1) y ++ pixel_if middle x y
    ++ pixel_if (sides && nat_lt (x + 1) width) (x + 1) y

-- the rows around a pixel: above, its own, and below
abbrev pub rows_around : Conn → ℕ → ℕ → Pixel → List Pixel
rows_around conn width height p =
    (if nat_lt 0 p.y then row_around width p.x (p.y - 1) (has_diagonals conn) true else [])
    ++ row_around width p.x p.y true false
    ++ (if nat_lt (p.y + 1) height then row_around width p.x (p.y + 1) (has_diagonals conn) true else [])
