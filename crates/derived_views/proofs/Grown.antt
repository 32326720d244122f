-- An image that was grown on a mask from a marker of a state is shown.
use Rattle.std.proofs.Common.{◌≡◌, ℕ, sym, subst}
use Rattle.grid_core.specs.{declared.conn.Conn.Conn, Path.domain_of, Reconstruction.IsReconstruction}
use Rattle.grid_core.specs.Raster.{Raster, IsFilled, IsBelow, value_at}
use Rattle.pgm_codec.specs.Graymap.{Graymap}
use Rattle.stroke_lattice.specs.State.{State}
use Rattle.marker_tiles.specs.Marker.{IsMarker}
use Rattle.derived_views.specs.Shown.{IsShown}

-- the mask is read twice, for its marker and to grow
pub grown_is_shown : (conn : Conn) (mask shown : Graymap) (state : State) (first second marker image : Raster)
    (maxval : ℕ) → first ≡ mask.raster
    → second ≡ mask.raster → IsMarker (domain_of first conn) (value_at first) state (value_at marker)
    → IsBelow image second → IsFilled image
    → IsReconstruction (domain_of second conn) (value_at second) (value_at marker) (value_at image)
    → maxval ≡ mask.maxval
    → shown ≡ record { raster = image; maxval = maxval } → IsShown conn mask state shown
grown_is_shown conn mask shown state first second marker image maxval first-is second-is marks below filled recon
    maxval-is shown-is =
    let under : IsBelow image mask.raster = subst (IsBelow image) second-is below in
    let made : IsShown conn mask state (record { raster = image; maxval = maxval }) = record {
      width = under.width;
      height = under.height;
      filled = filled;
      maxval = maxval-is;
      marker = value_at marker;
      is_marker = subst (λ (r : Raster). IsMarker (domain_of r conn) (value_at r) state (value_at marker)) first-is
          marks;
      is_reconstruction =
          subst (λ (r : Raster). IsReconstruction (domain_of r conn) (value_at r) (value_at marker) (value_at image))
          second-is recon;
    } in
    subst (IsShown conn mask state) (sym shown-is) made
