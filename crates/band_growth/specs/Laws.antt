-- Laws of images that are grown in two halves, as statements. Public functions have them as their contracts.
use Rattle.std.specs.Prelude.{ℕ, ◌≤◌}
use Rattle.grid_core.specs.{declared.conn.Conn.Conn, declared.pixel.Pixel.Pixel, declared.rect.Rect.Rect, Path.Domain}
use Rattle.grid_core.specs.Reconstruction.{IsClosed, IsLawful, IsOpen, IsReconstruction}
use Rattle.grid_core.specs.Rects.{domain_in, part}
use Rattle.band_growth.specs.Bands.{IsAcross, rows_above, rows_from}

-- the pixels of an image of this width and height
abbrev pub pixels_of : Conn → ℕ → ℕ → Domain
pixels_of conn width height = record { width = width; height = height; conn = conn }

-- in the rectangle, as an image by itself, the image is lawful: each value is at least the marker, and a level that the
-- pixel reaches there
abbrev pub IsLawfulIn : Conn → Rect → (Pixel → ℕ) → (Pixel → ℕ) → (Pixel → ℕ) → Type 0
IsLawfulIn conn rect mask marker image =
    IsLawful (domain_in rect conn) (part rect mask) (part rect marker) (part rect image)

-- an image that is lawful in the rows above a cut and in those from it on has the reconstruction that the marker has
abbrev pub HalvesHaveTheReconstruction : Type 0
HalvesHaveTheReconstruction =
    (conn : Conn) (width height cut : ℕ) (mask marker image result : Pixel → ℕ) → cut ≤ height
    → IsLawfulIn conn (rows_above width cut) mask marker image
    → IsLawfulIn conn (rows_from width height cut) mask marker image
    → IsReconstruction (pixels_of conn width height) mask image result
    → IsReconstruction (pixels_of conn width height) mask marker result

-- where no pixel of either half can raise a neighbour in it, of each open pair one pixel lies in the last row above the
-- cut and the other in the first row below it
abbrev pub OpenPairsLieAcross : Type 0
OpenPairsLieAcross =
    (conn : Conn) (width height cut : ℕ) (mask image : Pixel → ℕ) → cut ≤ height
    → IsClosed (domain_in (rows_above width cut) conn) (part (rows_above width cut) mask)
    (part (rows_above width cut) image)
    → IsClosed (domain_in (rows_from width height cut) conn) (part (rows_from width height cut) mask)
    (part (rows_from width height cut) image)
    → (p q : Pixel) → IsOpen (pixels_of conn width height) mask image p q
    → IsAcross cut p q
