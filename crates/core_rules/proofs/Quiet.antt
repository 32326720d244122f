-- A sound core has a lawful image, and where it is quiet the reconstruction.
use Rattle.std.proofs.Common.{◌≡◌, ℕ, true, false, min, sym, ◌∙◌, subst, arith, inl, inr, Contains, []}
use Rattle.std.proofs.lemmas.Bool.{cases_lt}
use Rattle.grid_core.specs.{declared.pixel.Pixel.Pixel, Path.Inside, Reconstruction.IsClosed, Tiles.tile_of}
use Rattle.grid_core.proofs.{Reach.reaches_rises, Images.closed_is_reconstruction}
use Rattle.marker_tiles.specs.Marker.{IsMarker}
use Rattle.marker_tiles.proofs.Levels.{one_marker}
use Rattle.core_rules.specs.Image.{IsOpen, IsSupported}
use Rattle.core_rules.specs.Work.{Core, domain, tiling, mask_at, image_at, IsTile, IsQuiet}
use Rattle.core_rules.specs.Invariant.{HasWork, IsSound, HasLawfulImage, HasReconstruction}
use Rattle.core_rules.proofs.{Cores.tile_of_pixel, Supporting.supported_is_lawful}

-- the image of a sound core is supported by each marker of the strokes, since they are all one
pub supported_by_marker : (core : Core) → IsSound core → (marker : Pixel → ℕ)
    → IsMarker (domain core) (mask_at core) core.state marker
    → IsSupported (domain core) (mask_at core) marker (image_at core)
supported_by_marker core sound marker is_marker p inside =
    let same : (q : Pixel) → Inside (domain core) q → sound.marker q ≡ marker q =
    one_marker (domain core) (mask_at core) core.state sound.marker marker sound.is_marker is_marker in
    let was = sound.supported p inside in (
      omega (arith, was.0, same p inside),
      was.1,
      reaches_rises (domain core) (image_at core) sound.marker marker
          (λ q h. omega (arith, same q h)) p (image_at core p) was.2,
    )

pub sound_is_lawful : (core : Core) → IsSound core → HasLawfulImage core
sound_is_lawful core sound marker is_marker =
    supported_is_lawful (domain core) (mask_at core) marker (image_at core)
    (supported_by_marker core sound marker is_marker)

pub none_in_nothing : {X : Type 0} (x : X) → Contains [] x → ⊥
none_in_nothing x (k, within, there) = omega (arith, within)

-- where nothing is left to do, no pair has work
no_work : (core : Core) → IsQuiet core → (p q : Pixel) → IsTile core (tile_of (tiling core) p)
    → IsTile core (tile_of (tiling core) q) → HasWork core p q → ⊥
no_work core quiet p q tile_p tile_q (inl dirty) =
    let no : false ≡ true = sym (quiet (tile_of (tiling core) p) tile_p).clean ∙ dirty in
    absurd cc
no_work core quiet p q tile_p tile_q (inr (inl out)) = out (quiet (tile_of (tiling core) p) tile_p).none_out
no_work core quiet p q tile_p tile_q (inr (inr told)) =
    none_in_nothing told.hint
    (subst (λ hs. Contains hs told.hint) (quiet (tile_of (tiling core) q) tile_q).empty told.waits)

quiet_is_closed : (core : Core) → IsSound core → IsQuiet core → IsClosed (domain core) (mask_at core) (image_at core)
quiet_is_closed core sound quiet p q inside_p inside_q beside =
    elim (cases_lt (image_at core q) (min (image_at core p) (mask_at core q))) [
      | inl below ↦
          let pair : IsOpen (domain core) (mask_at core) (image_at core) p q = record {
            from_inside = inside_p;
            to_inside = inside_q;
            beside = beside;
            lower = below;
          } in
          absurd (no_work core quiet p q (tile_of_pixel core p sound.shape inside_p)
          (tile_of_pixel core q sound.shape inside_q) (sound.work p q pair))
      | inr at_least ↦ at_least
    ]

pub quiet_is_reconstruction : (core : Core) → IsSound core → IsQuiet core → HasReconstruction core
quiet_is_reconstruction core sound quiet marker is_marker =
    closed_is_reconstruction (domain core) (mask_at core) marker (image_at core)
    (sound_is_lawful core sound marker is_marker) (quiet_is_closed core sound quiet)
