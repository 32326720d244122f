-- What the halves of an image have to do with the whole.
use Rattle.std.proofs.{Common.ℕ, Common.◌≤◌, Common.refl, Common.arith, Common.inl, Common.inr, lemmas.Bool.cases_lt}
use Rattle.grid_core.specs.{declared.pixel.Pixel.Pixel, Path.Domain, Path.Inside, Reconstruction.IsLawful}
use Rattle.grid_core.specs.{Reconstruction.IsReconstruction, Rects.part}
use Rattle.grid_core.proofs.Images.{closed_is_reconstruction, reconstruction_is_closed}
use Rattle.grid_core.proofs.Reach.{reaches_here, reaches_within_mask}
use Rattle.raster_sweeps.proofs.Grown.{lawful_twice}
use Rattle.band_growth.specs.Bands.{rows_above, rows_from}
use Rattle.band_growth.specs.Laws.{HalvesHaveTheReconstruction, OpenPairsLieAcross, pixels_of}
use Rattle.band_growth.proofs.Halves.{halves_closed, halves_lawful}

module _ (d : Domain) (mask marker image result : Pixel → ℕ) (lawful : IsLawful d mask marker image)
    (recon : IsReconstruction d mask image result) where
  -- a reconstruction is no less than the image
  at_most : (p : Pixel) → Inside d p → image p ≤ result p
  at_most p inside = elim (cases_lt (result p) (image p)) [
    | inl less ↦
        absurd ((recon p inside).1 (image p) less
        (reaches_here d mask image p (image p) inside
        (reaches_within_mask d mask marker p (image p) (lawful p inside).1) (omega arith)))
    | inr no_less ↦ no_less
  ]

  -- the reconstruction from a lawful image is the one from the marker
  pub lawful_has_the_reconstruction : IsReconstruction d mask marker result
  lawful_has_the_reconstruction =
      closed_is_reconstruction d mask marker result
      (lawful_twice d mask marker image result lawful (λ p inside. (at_most p inside, (recon p inside).0)))
      (reconstruction_is_closed d mask image result recon)

pub halves_have_the_reconstruction : HalvesHaveTheReconstruction
halves_have_the_reconstruction conn width height cut mask marker image result within up down recon =
    let above = rows_above width cut in
    let below = rows_from width height cut in
    lawful_has_the_reconstruction (pixels_of conn width height) mask marker image result
    (halves_lawful conn width height cut within mask image (part above mask) (part above image) (part below mask)
    (part below image) (λ p inside. refl) (λ p inside. refl) (λ p inside. refl) (λ p inside. refl) marker
    (part above marker) (part below marker) (λ p inside. refl) (λ p inside. refl) up down) recon

pub open_pairs_lie_across : OpenPairsLieAcross
open_pairs_lie_across conn width height cut mask image within up down =
    let above = rows_above width cut in
    let below = rows_from width height cut in
    halves_closed conn width height cut within mask image (part above mask) (part above image) (part below mask)
    (part below image) (λ p inside. refl) (λ p inside. refl) (λ p inside. refl) (λ p inside. refl) up down
