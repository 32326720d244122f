-- Rectangles whose open pairs begin within bounds.
use Rattle.std.proofs.Common.{◌≡◌, ℕ, ◌<◌, ◌⊎◌, List, [], ◌∷◌, true, min, sym, ◌∙◌, ap, subst, refl, arith, inl, inr}
use Rattle.std.proofs.Common.{Contains, ◌≢◌, slice_index}
use Rattle.std.proofs.{lemmas.Bool.cases_eq, lemmas.Bool.cases_lt, lemmas.List.Elements.Contains-append_cases}
use Rattle.grid_core.specs.{declared.bounds.Bounds.Bounds, declared.conn.Conn.Conn, declared.pixel.Pixel.Pixel}
use Rattle.grid_core.specs.{declared.rect.Rect.Rect, Reconstruction.IsReconstruction}
use Rattle.grid_core.specs.Bounds.{AreEmpty, IsInBounds, LieIn, bounds_at, joined}
use Rattle.grid_core.specs.Raster.{Raster, IsInside, index_of, value_at}
use Rattle.grid_core.specs.Rects.{IsInRect, RectFits, domain_in, in_image, part}
use Rattle.grid_core.proofs.Images.{reconstruction_is_closed}
use Rattle.raster_sweeps.specs.Growth.{AreInside, CanClose, CellHasSpread, IsClosedIn, IsOpenIn, IsPixelOf}
use Rattle.raster_sweeps.specs.OpenBounds.{OpenPairsBeginIn, RiseWithin}
use Rattle.row_scans.specs.Waiting.{AreOneMore}
use Rattle.row_scans.proofs.Bags.{behind_one}
use Rattle.raster_sweeps.proofs.{Grown.fits_below, RaisedBy.in_image-in_rect, RaisedBy.single}

-- ---- laws

module _ (conn : Conn) (rect : Rect) (mask image : Raster) where
  -- a rectangle of which no pair is open is closed
  pub none_open_closed : ((p q : Pixel) → IsOpenIn conn rect mask image p q → ⊥) → IsClosedIn conn rect mask image
  none_open_closed none p q inside_p inside_q beside =
      let raised = min (part rect (value_at image) p) (part rect (value_at mask) q) in
      elim (cases_lt (part rect (value_at image) q) raised) [
        | inl lower ↦
            absurd (none p q (record {
              from_inside = inside_p;
              to_inside = inside_q;
              beside = beside;
              lower = lower;
            }))
        | inr high ↦ high
      ]

  -- where the bounds have no pixel within them, it is closed
  pub empty_closed : (bounds : Bounds) → AreEmpty bounds → OpenPairsBeginIn conn rect mask image bounds
      → IsClosedIn conn rect mask image
  empty_closed bounds empty begin =
      none_open_closed (λ p q raises.
      let within = begin p q raises in
      elim empty [ inl columns ↦ omega (arith, columns, within) | inr rows ↦ omega (arith, rows, within) ])

pub reconstruction_begins_nowhere : (conn : Conn) (rect : Rect) (mask image : Raster) (marker : Pixel → ℕ)
    (bounds : Bounds)
    → IsReconstruction (domain_in rect conn) (part rect (value_at mask)) marker (part rect (value_at image))
    → OpenPairsBeginIn conn rect mask image bounds
reconstruction_begins_nowhere conn rect mask image marker bounds recon p q raises =
    let closed =
    reconstruction_is_closed (domain_in rect conn) (part rect (value_at mask)) marker (part rect (value_at image))
    recon in
    absurd (omega (arith, raises.lower, closed p q raises.from_inside raises.to_inside raises.beside))

pub same_part_keeps_bounds : (conn : Conn) (rect : Rect) (mask other_mask image other_image : Raster) (bounds : Bounds)
    → ((p : Pixel) → IsInside rect.w rect.h p → part rect (value_at other_mask) p ≡ part rect (value_at mask) p)
    → ((p : Pixel) → IsInside rect.w rect.h p → part rect (value_at other_image) p ≡ part rect (value_at image) p)
    → OpenPairsBeginIn conn rect mask image bounds
    → OpenPairsBeginIn conn rect other_mask other_image bounds
same_part_keeps_bounds conn rect mask other_mask image other_image bounds masks images begin p q raises =
    begin p q
    (record {
      from_inside = raises.from_inside;
      to_inside = raises.to_inside;
      beside = raises.beside;
      lower =
          omega (
            arith,
            raises.lower,
            masks q raises.to_inside,
            images p raises.from_inside,
            images q raises.to_inside,
          );
    })

-- ---- bounds of what rises

-- where nothing rises, the bounds stay
pub rise_within_same : (rect : Rect) (image : Raster) (bounds : Bounds) → RiseWithin rect image image bounds bounds
rise_within_same rect image bounds p inside why =
    elim why [ inl within ↦ within | inr other ↦ absurd (other refl) ]

-- the pixels of the rectangle that lay within the old bounds, and those that have risen, lie within the new ones, or
-- their cells wait
abbrev pub RiseOrWait : Rect → Raster → Raster → Bounds → List ℕ → Bounds → Type 0
RiseOrWait rect before after old waiting new =
    (p : Pixel) → IsInRect rect p → IsInBounds old p ⊎ (value_at after p ≢ value_at before p)
    → IsInBounds new p ⊎ Contains waiting (index_of after.width p)

-- so it is at first
pub none_rise : (rect : Rect) (image : Raster) (bounds : Bounds) (waiting : List ℕ)
    → RiseOrWait rect image image bounds waiting bounds
none_rise rect image bounds waiting p inside why =
    elim why [ inl within ↦ inl within | inr other ↦ absurd (other refl) ]

-- where the queue is empty, nothing waits
pub nothing_waits : (waiting : List ℕ) (k : ℕ) → waiting ≡ [] → Contains waiting k → ⊥
nothing_waits waiting k empty waits =
    let none : Contains [] k = subst (λ (xs : List ℕ). Contains xs k) empty waits in
    absurd (let least : none.0 < 0 = none.1 in omega arith)

-- where none waits, they lie within the new bounds
pub none_waits : (rect : Rect) (before after : Raster) (old new : Bounds) (waiting : List ℕ) → waiting ≡ []
    → RiseOrWait rect before after old waiting new → RiseWithin rect before after old new
none_waits rect before after old new waiting empty rise p inside why =
    elim (rise p inside why) [
      | inl within ↦ within
      | inr waits ↦ absurd (nothing_waits waiting (index_of after.width p) empty waits)
    ]

-- the pixel of a cell that is taken out lies in the rectangle
pub popped_lies : {rect : Rect} {mask image : Raster} {cell : ℕ} {pixel : Pixel} {waiting fewer : List ℕ}
    → CanClose rect mask image → AreInside rect image.width waiting → AreOneMore cell fewer waiting
    → IsPixelOf image.width cell pixel
    → IsInRect rect pixel
popped_lies {rect} {image = image} {cell} {pixel} close inside one own =
    let found = inside cell ((one.each cell).1 (inr refl)) in
    let fits : RectFits image.width image.height rect = fits_below close.below close.fits in
    let same : pixel ≡ in_image rect found.0 =
    own (in_image rect found.0) (omega (arith, found.1.0, fits.columns)) found.2 in
    subst (IsInRect rect) (sym same) (in_image-in_rect rect found.0 found.1)

-- bounds in the rectangle lie in it with one of its pixels
pub including_lies : (rect : Rect) (bounds : Bounds) (pixel : Pixel) → LieIn bounds rect → IsInRect rect pixel
    → LieIn (joined bounds (bounds_at pixel)) rect
including_lies rect bounds pixel lie inside = (omega arith, omega arith, omega arith, omega arith)

-- and so it stays when a cell has spread, whose pixel is included
pub spread_rises : {conn : Conn} {rect : Rect} {mask between after : Raster} {cell : ℕ} {pixel : Pixel}
    {waiting fewer new : List ℕ} (before : Raster) (bounds risen : Bounds)
    → CanClose rect mask between → AreOneMore cell fewer waiting → IsPixelOf between.width cell pixel
    → CellHasSpread conn rect mask between after cell fewer new true
    → RiseOrWait rect before between bounds waiting risen
    → RiseOrWait rect before after bounds new (joined risen (bounds_at pixel))
spread_rises {rect = rect} {between = between} {after} {cell} {pixel} {waiting} {fewer} {new} before bounds risen
    close one own spread rise p inside why =
    let fits : RectFits between.width between.height rect = fits_below close.below close.fits in
    let k : ℕ = index_of between.width p in
    let place : index_of after.width p ≡ k = ap (λ w. index_of w p) spread.grown.width in
    let waits : Contains new k → Contains new (index_of after.width p) = subst (Contains new) (sym place) in
    let value : value_at after p ≡ slice_index after.cells k = ap (slice_index after.cells) place in
    let of_earlier : IsInBounds risen p ⊎ Contains waiting k
    → IsInBounds (joined risen (bounds_at pixel)) p ⊎ Contains new (index_of after.width p) =
    λ earlier. elim earlier [
      | inl within ↦ inl (omega arith, omega arith, omega arith, omega arith)
      | inr waited ↦ elim (Contains-append_cases (cell ∷ []) fewer k (behind_one one k waited)) [
        | inr later ↦ inr (waits (spread.stays refl k (inl later)))
        | inl first ↦
            let here : pixel ≡ p = own p (omega (arith, inside.1, fits.columns)) (sym (single cell k first)) in
            subst (λ q. IsInBounds (joined risen (bounds_at q)) p ⊎ Contains new (index_of after.width p)) (sym here)
            (inl (omega arith, omega arith, omega arith, omega arith))
      ]
    ] in
    elim (cases_eq (slice_index after.cells k) (slice_index between.cells k)) [
      | inr changed ↦ inr (waits (spread.stays refl k (inr changed)))
      | inl same ↦ elim why [
        | inl within ↦ of_earlier (rise p inside (inl within))
        | inr other ↦ of_earlier (rise p inside (inr (λ e. other (value ∙ same ∙ e))))
      ]
    ]
