-- The live strokes of a state painted one after the other.
use Rattle.std.proofs.Common.{◌≡◌, ℕ, Bool, true, false, min, max, List, ◌∷◌, ◌++◌, refl, sym, ap, subst, ◌∙◌, []}
use Rattle.std.proofs.Common.{append_assoc, append-nil, arith, ◌&&◌, ◌||◌, IsTrue, if◌then◌else◌}
use Rattle.grid_core.specs.{declared.pixel.Pixel.Pixel, declared.conn.Conn.Conn, Path.domain_of}
use Rattle.grid_core.specs.Raster.{Raster, IsInside, IsBelow, value_at, IsOfSize}
use Rattle.grid_core.proofs.Cells.{each_pixel_below}
use Rattle.stroke_core.specs.Seed.{covers}
use Rattle.stroke_lattice.specs.{State.State, Walks.AreLive}
use Rattle.marker_tiles.specs.{declared.brush.Brush.Brush, declared.brush.Brush.TheVariants.Raise}
use Rattle.marker_tiles.specs.{declared.window.Window.Window, Marker.IsMarker}
use Rattle.marker_tiles.specs.Painting.{IsPaintedBy, brushed_if, in_window, in_some}
use Rattle.marker_tiles.specs.UnderTags.{IsBlankOn, IsRaisedByLive}
use Rattle.marker_tiles.proofs.Levels.{Entry, top_level, top_level-push, top_of_live}
use Rattle.marker_tiles.proofs.Raising.{raised_to_level}

-- the image is the old one, raised within the windows by the live strokes but for those that are left
pub record IsUnderWay (s : State) (ws : List Window) (mask old image : Raster) (left : List Entry) : Type 0 where
  pub done : List Entry
  pub size : IsOfSize mask image
  pub values : (p : Pixel) → IsInside mask.width mask.height p
      → value_at image p
      ≡ max (value_at old p) (min (value_at mask p) (if in_some ws p then top_level done p else 0))
  pub live : AreLive s (done ++ left)

-- a level more within the windows
more_within : (a b : Bool) (limit old top level more : ℕ) → more ≡ max top (if b then level else 0)
    → brushed_if (a && b) (Raise level) limit (max old (min limit (if a then top else 0)))
    ≡ max old (min limit (if a then more else 0))
more_within true b limit old top level more is =
    raised_to_level b limit level (max old (min limit top)) ∙ (omega (arith, is))
more_within false b limit old top level more is = refl

module _ {s : State} {ws : List Window} {mask old image : Raster} {left rest : List Entry} {entry : Entry}
    (way : IsUnderWay s ws mask old image left) (next : left ≡ entry ∷ rest) where
  live_then : AreLive s (way.done ++ entry ∷ rest)
  live_then = subst (λ es. AreLive s (way.done ++ es)) next way.live

  -- it is painted, and one less is left
  pub under_way_next : {new : Raster} {brush : Brush} → brush ≡ Raise entry.1.level
      → IsPaintedBy (λ p. in_some ws p && covers entry.1 p) brush mask image new
      → IsUnderWay s ws mask old new rest
  under_way_next brush_is painted = record {
    done = way.done ++ entry ∷ [];
    size = painted.size;
    values = λ p inside.
        painted.values p inside
        ∙ ap (λ b. brushed_if (in_some ws p && covers entry.1 p) b (value_at mask p) (value_at image p)) brush_is
        ∙ ap (λ v. brushed_if (in_some ws p && covers entry.1 p) (Raise entry.1.level) (value_at mask p) v)
        (way.values p inside)
        ∙ more_within (in_some ws p) (covers entry.1 p) (value_at mask p) (value_at old p) (top_level way.done p)
        entry.1.level (top_level (way.done ++ entry ∷ []) p) (top_level-push way.done entry p);
    live = subst (AreLive s) (sym (append_assoc way.done (entry ∷ []) rest)) live_then;
  }

-- where none is left, all are painted
pub under_way_end : {s : State} {ws : List Window} {mask old image : Raster} {left : List Entry}
    → IsUnderWay s ws mask old image left → left ≡ [] → IsRaisedByLive s ws mask old image
under_way_end {s} way end =
    let live : AreLive s way.done =
    subst (AreLive s) (append-nil way.done) (subst (λ es. AreLive s (way.done ++ es)) end way.live) in
    record {
      size = way.size;
      values = λ p inside. (top_level way.done p, top_of_live s way.done p live.each, way.values p inside);
    }

-- ---- from an image of zeros

-- one window has what it has
pub in_one : (w : Window) (p : Pixel) → IsTrue (in_window w p) → IsTrue (in_some (w ∷ []) p)
in_one w p e = ap (λ t. t || false) e

module _ (s : State) (ws : List Window) (mask old image : Raster)
    (all : (p : Pixel) → IsInside mask.width mask.height p → IsTrue (in_some ws p))
    (blank : IsBlankOn mask old) (raised : IsRaisedByLive s ws mask old image) where
  -- it is the marker then
  pub marker_from_blank : (conn : Conn) → IsMarker (domain_of mask conn) (value_at mask) s (value_at image)
  marker_from_blank conn p inside =
      let at = raised.values p inside in
      let within : (if in_some ws p then at.0 else 0) ≡ at.0 = ap (λ t. if t then at.0 else 0) (all p inside) in
      (at.0, at.1, omega (arith, at.2, within, blank.values p inside))

  -- and below the mask
  pub below_from_blank : IsBelow image mask
  below_from_blank =
      each_pixel_below image mask raised.size.filled raised.size.width raised.size.height
      (λ p inside.
      let within : IsInside mask.width mask.height p = rw (← raised.size.width, ← raised.size.height) inside in
      omega (arith, (raised.values p within).2, blank.values p within))
