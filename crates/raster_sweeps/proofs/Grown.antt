-- Images that have grown inside a rectangle.
use Rattle.std.proofs.Common.{◌≡◌, ℕ, ◌+◌, ◌-◌, ◌*◌, ◌<◌, ◌≤◌, ◌⊎◌, List, [], ◌∷◌, length, sym, ◌∙◌, ap, subst, arith}
use Rattle.std.proofs.Common.{inl, inr, refl, slice_index}
use Rattle.std.proofs.lemmas.Bool.{cases_lt}
use Rattle.std.specs.List.{AllByRecursion}
use Rattle.grid_core.specs.{declared.conn.Conn.Conn, declared.pixel.Pixel.Pixel, declared.rect.Rect.Rect, Path.Domain}
use Rattle.grid_core.specs.{Path.IsPath, Path.end_of, Path.Reaches, Reconstruction.IsClosed, Reconstruction.IsLawful}
use Rattle.grid_core.specs.Raster.{Raster, IsInside, IsBelow, IsFilled, index_of, value_at, headroom}
use Rattle.grid_core.specs.Rects.{IsInRect, RectFits, domain_in, in_image, part}
use Rattle.grid_core.proofs.Cells.{pixel_of, pixel_of-inside, index_of-pixel_of, below_at_each_pixel}
use Rattle.grid_core.proofs.{Headroom.headroom_falls, Images.closed_is_reconstruction, Pixels.same_pixel}
use Rattle.grid_core.proofs.Reach.{reaches_here, reaches_by_step, reaches_lower}
use Rattle.raster_sweeps.specs.{Growth.IsGrown, Growth.IsGrownUp}
use Rattle.raster_sweeps.specs.Regrowth.{IsRegrownIn}

-- a pixel of the rectangle is one of the image
pub in_image-inside : {width height : ℕ} {rect : Rect} (p : Pixel) → RectFits width height rect
    → IsInside rect.w rect.h p → IsInside width height (in_image rect p)
in_image-inside p fits inside = (omega (arith, inside.0, fits.columns), omega (arith, inside.1, fits.rows))

-- a pixel of the image lies in the rectangle, and is then one of its pixels, or it does not
pub in_rect_or_not : (rect : Rect) (p : Pixel)
    → ((q : Pixel) × IsInside rect.w rect.h q × (in_image rect q ≡ p)) ⊎ (IsInRect rect p → ⊥)
in_rect_or_not rect p =
    elim (cases_lt p.x rect.x) [
      | inl left ↦ inr (λ h. absurd (omega (arith, left, h.0)))
      | inr from_left ↦ elim (cases_lt p.x (rect.x + rect.w)) [
        | inr right ↦ inr (λ h. absurd (omega (arith, right, h.1)))
        | inl to_right ↦ elim (cases_lt p.y rect.y) [
          | inl above ↦ inr (λ h. absurd (omega (arith, above, h.2)))
          | inr from_above ↦ elim (cases_lt p.y (rect.y + rect.h)) [
            | inr below ↦ inr (λ h. absurd (omega (arith, below, h.3)))
            | inl to_below ↦
                let q : Pixel = record { x = p.x - rect.x; y = p.y - rect.y } in
                inl (q, (omega arith, omega arith), same_pixel (in_image rect q) p (omega arith) (omega arith))
          ]
        ]
      ]
    ]

-- an image below the mask has grown from itself
pub grown_same : {conn : Conn} {rect : Rect} {mask image : Raster} → IsFilled image → IsBelow image mask
    → RectFits image.width image.height rect → IsGrown conn rect mask image image
grown_same {conn} {rect} {mask} {image} filled below fits = record {
  width = refl;
  height = refl;
  filled = refl;
  below = below;
  outside = λ p inside out. refl;
  lawful = λ p inside.
      let under : value_at image (in_image rect p) ≤ value_at mask (in_image rect p) =
      below_at_each_pixel image mask filled below (in_image rect p) (in_image-inside p fits inside) in (
        omega arith,
        reaches_here (domain_in rect conn) (part rect (value_at mask)) (part rect (value_at image)) p
            (value_at image (in_image rect p)) inside under (omega arith),
      );
}

-- a level flows along a path through a lawful image
reaches_through : (d : Domain) (mask before between : Pixel → ℕ) → IsLawful d mask before between
    → (k : ℕ) (p : Pixel) (rest : List Pixel) → IsPath d p rest → AllByRecursion (λ q. k ≤ mask q) (p ∷ rest)
    → k ≤ between (end_of p rest) → Reaches d mask before p k
reaches_through d mask before between lawful k p [] path all end =
    reaches_lower d mask before p (between p) k end (lawful p path).1
reaches_through d mask before between lawful k p (q ∷ rest) path all end =
    reaches_by_step d mask before p q k path.0 path.1 all.0
    (reaches_through d mask before between lawful k q rest path.2 all.1 end)

-- what is lawful from a lawful image is lawful
pub lawful_twice : (d : Domain) (mask before between after : Pixel → ℕ) → IsLawful d mask before between
    → IsLawful d mask between after → IsLawful d mask before after
lawful_twice d mask before between after first second p inside =
    let reach = (second p inside).1 in
    let rose : before p ≤ between p = (first p inside).0 in
    let rises : between p ≤ after p = (second p inside).0 in
    (omega arith, reaches_through d mask before between first (after p) p reach.0 reach.1 reach.2 reach.3)

-- an image that has grown twice has grown
pub grown_twice : {conn : Conn} {rect : Rect} {mask before between after : Raster}
    → IsGrown conn rect mask before between
    → IsGrown conn rect mask between after → IsGrown conn rect mask before after
grown_twice {conn} {rect} {mask} {before} {between} {after} first second = record {
  width = second.width ∙ first.width;
  height = second.height ∙ first.height;
  filled = second.filled ∙ first.filled;
  below = second.below;
  outside = λ p inside out.
      second.outside p (omega (arith, inside.0, first.width), omega (arith, inside.1, first.height)) out
      ∙ first.outside p inside out;
  lawful =
      lawful_twice (domain_in rect conn) (part rect (value_at mask)) (part rect (value_at before))
      (part rect (value_at between)) (part rect (value_at after)) first.lawful second.lawful;
}

-- an image that has grown, and then until no pixel can raise a neighbour
pub grown_up : {conn : Conn} {rect : Rect} {mask before between after : Raster}
    → IsGrown conn rect mask before between
    → IsGrownUp conn rect mask between after → IsGrownUp conn rect mask before after
grown_up first second = record { grown = grown_twice first second.grown; closed = second.closed }

module _ {conn : Conn} {rect : Rect} {mask before after : Raster} (filled : IsFilled before)
    (grown : IsGrown conn rect mask before after) where
  -- no pixel of the image falls
  pub grown_at : (p : Pixel) → IsInside before.width before.height p → value_at before p ≤ value_at after p
  grown_at p inside =
      elim (in_rect_or_not rect p) [
        | inl local ↦
            subst (λ q. value_at before q ≤ value_at after q) local.2 (grown.lawful local.0 local.1).0
        | inr out ↦
            let same : value_at after p ≡ value_at before p = grown.outside p inside out in
            omega arith
      ]

  -- no cell of the image falls
  pub grown_rises : (k : ℕ) → k < length before.cells → slice_index before.cells k ≤ slice_index after.cells k
  grown_rises k within =
      let p = pixel_of before.width k in
      let at_before : value_at before p ≡ slice_index before.cells k =
      ap (λ i. slice_index before.cells i) (index_of-pixel_of before.width k) in
      let at_after : value_at after p ≡ slice_index after.cells k =
      ap (λ w. slice_index after.cells (index_of w p)) grown.width
      ∙ ap (λ i. slice_index after.cells i) (index_of-pixel_of before.width k) in
      omega (arith, at_before, at_after, grown_at p (pixel_of-inside before k filled within))

  pub grown_headroom : headroom after.cells ≤ headroom before.cells
  grown_headroom = headroom_falls before.cells after.cells grown.filled grown_rises

-- a rectangle that lies in the mask lies in an image of its size
pub fits_below : {rect : Rect} {mask image : Raster} → IsBelow image mask → RectFits mask.width mask.height rect
    → RectFits image.width image.height rect
fits_below below fits = record {
  some_width = fits.some_width;
  some_height = fits.some_height;
  columns = omega (arith, fits.columns, below.width);
  rows = omega (arith, fits.rows, below.height);
}

-- an image that has grown has a value for each pixel
pub grown_filled : {conn : Conn} {rect : Rect} {mask before after : Raster} → IsFilled before
    → IsGrown conn rect mask before after → IsFilled after
grown_filled {before} {after} filled grown =
    grown.filled ∙ filled ∙ ap (λ w. w * before.height) (sym grown.width)
    ∙ ap (λ h. after.width * h) (sym grown.height)

-- an image that has grown until no pair is open is regrown
pub regrown : {conn : Conn} {rect : Rect} {mask before after : Raster} → IsFilled before
    → IsGrown conn rect mask before after
    → IsClosed (domain_in rect conn) (part rect (value_at mask)) (part rect (value_at after))
    → IsRegrownIn conn rect mask before after
regrown {conn} {rect} {mask} {before} {after} filled grown closed = record {
  patch = record {
    size = record {
      width = grown.width;
      height = grown.height;
      filled = grown_filled filled grown;
    };
    beyond = grown.outside;
  };
  below = grown.below;
  reconstruction =
      closed_is_reconstruction (domain_in rect conn) (part rect (value_at mask)) (part rect (value_at before))
      (part rect (value_at after)) grown.lawful closed;
}
