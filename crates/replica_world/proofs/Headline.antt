-- Replicas that took the same in content agree.
use Rattle.std.proofs.Common.{◌≡◌, ◌∙◌, ◌↔◌, ℕ, sym, subst, ap}
use Rattle.grid_core.specs.{declared.conn.Conn.Conn, declared.pixel.Pixel.Pixel, Raster.Raster, Raster.IsInside}
use Rattle.grid_core.specs.{Raster.value_at, Laws.AtMostOneReconstruction, RasterLaws.EqualPixelsEqualImages}
use Rattle.grid_core.specs.{Path.Domain, Path.domain_of, Reconstruction.IsReconstruction}
use Rattle.stroke_core.specs.Seed.{Seed}
use Rattle.stroke_lattice.specs.State.{State, HasStroke, HasTombstone}
use Rattle.marker_tiles.specs.{Marker.IsMarker, Laws.EveryStateHasAMarker}
use Rattle.core_rules.specs.Work.{IsQuiet}
use Rattle.replica_world.specs.{World.Replica, World.World, Headline.IsFaithful, Headline.HaveSameContent}

-- states with the same contents are equal
abbrev pub ContentsDecide : Type 0
ContentsDecide =
    (a b : State) → ((tag : ℕ) (seed : Seed) → HasStroke a tag seed ↔ HasStroke b tag seed)
    → ((tag : ℕ) → HasTombstone a tag ↔ HasTombstone b tag) → a ≡ b

pub equal_states : ContentsDecide → (world : World) (a b : Replica) → IsFaithful world a → IsFaithful world b
    → HaveSameContent a.took b.took → a.core.state ≡ b.core.state
equal_states decide world a b of_a of_b same =
    decide a.core.state b.core.state
    (λ tag seed. (
      λ held. (of_b.joined.strokes tag seed).1
          ((same.strokes tag seed).0 ((of_a.joined.strokes tag seed).0 held)),
      λ held. (of_a.joined.strokes tag seed).1
          ((same.strokes tag seed).1 ((of_b.joined.strokes tag seed).0 held)),
    ))
    (λ tag. (
      λ held. (of_b.joined.tombstones tag).1 ((same.tombstones tag).0 ((of_a.joined.tombstones tag).0 held)),
      λ held. (of_a.joined.tombstones tag).1 ((same.tombstones tag).1 ((of_b.joined.tombstones tag).0 held)),
    ))

-- the reconstruction from a state, on a mask
abbrev IsShown : Raster → Conn → State → Raster → Type 0
IsShown mask conn state image =
    (marker : Pixel → ℕ) → IsMarker (domain_of mask conn) (value_at mask) state marker
    → IsReconstruction (domain_of mask conn) (value_at mask) marker (value_at image)

-- what the quiet replica shows, on the world's mask
shown : (world : World) (replica : Replica) → IsFaithful world replica → IsQuiet replica.core
    → IsShown world.mask world.conn replica.core.state replica.core.image
shown world replica faithful quiet =
    subst (λ mask. IsShown mask world.conn replica.core.state replica.core.image) faithful.mask
    (subst (λ conn. IsShown replica.core.mask conn replica.core.state replica.core.image) faithful.conn
    (faithful.quiet quiet))

pub equal_images : EveryStateHasAMarker → AtMostOneReconstruction → EqualPixelsEqualImages → (world : World)
    (a b : Replica) → IsFaithful world a → IsFaithful world b → a.core.state ≡ b.core.state → IsQuiet a.core
    → IsQuiet b.core → a.core.image ≡ b.core.image
equal_images has_marker one_reconstruction equal_pixels world a b of_a of_b same quiet_a quiet_b =
    let d : Domain = domain_of world.mask world.conn in
    let made = has_marker d (value_at world.mask) b.core.state in
    let from_a =
    subst (λ state. IsShown world.mask world.conn state a.core.image) same (shown world a of_a quiet_a) in
    let from_b = shown world b of_b quiet_b in
    let wide_a = of_a.below.width ∙ ap (λ (r : Raster). r.width) of_a.mask in
    let wide_b = of_b.below.width ∙ ap (λ (r : Raster). r.width) of_b.mask in
    let high_a = of_a.below.height ∙ ap (λ (r : Raster). r.height) of_a.mask in
    let high_b = of_b.below.height ∙ ap (λ (r : Raster). r.height) of_b.mask in
    equal_pixels a.core.image b.core.image of_a.sized.filled of_b.sized.filled (wide_a ∙ sym wide_b)
    (high_a ∙ sym high_b)
    (λ p inside. one_reconstruction d (value_at world.mask) made.0 (value_at a.core.image) (value_at b.core.image)
    (from_a made.0 made.1) (from_b made.0 made.1) p
    (subst (λ h. IsInside world.mask.width h p) high_a
    (subst (λ w. IsInside w a.core.image.height p) wide_a inside)))
