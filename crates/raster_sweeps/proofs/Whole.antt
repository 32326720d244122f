-- A whole image is the rectangle of all its pixels.
use Rattle.std.proofs.Common.{◌≡◌, ℕ, arith, subst}
use Rattle.grid_core.specs.{declared.conn.Conn.Conn, declared.pixel.Pixel.Pixel, declared.rect.Rect.Rect, Path.Domain}
use Rattle.grid_core.specs.{Reconstruction.IsReconstruction, Rects.domain_in, Rects.in_image, Rects.part}
use Rattle.grid_core.proofs.Pixels.{same_pixel}

-- a rectangle of this width and height from the upper left corner
abbrev pub whole : ℕ → ℕ → Rect
whole width height = record { x = 0; y = 0; w = width; h = height }

-- the part of an image in it is the image
pub whole_part : (width height : ℕ) (f : Pixel → ℕ) → part (whole width height) f ≡ f
whole_part width height f =
    let same : (p : Pixel) → in_image (whole width height) p ≡ p =
    λ p. same_pixel (in_image (whole width height) p) p (omega arith) (omega arith) in
    λ i p. f (same p i)

-- the reconstruction there is the reconstruction of the image
pub whole_reconstruction : (width height : ℕ) (conn : Conn) (mask marker image : Pixel → ℕ)
    → IsReconstruction (domain_in (whole width height) conn) (part (whole width height) mask)
    (part (whole width height) marker) (part (whole width height) image)
    → IsReconstruction (record { width = width; height = height; conn = conn }) mask marker image
whole_reconstruction width height conn mask marker image recon =
    let d : Domain = record { width = width; height = height; conn = conn } in
    subst (λ r. IsReconstruction d mask marker r) (whole_part width height image)
    (subst (λ m. IsReconstruction d mask m (part (whole width height) image)) (whole_part width height marker)
    (subst (λ m. IsReconstruction d m (part (whole width height) marker) (part (whole width height) image))
    (whole_part width height mask) recon))
