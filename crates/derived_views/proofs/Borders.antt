-- The border of an image, copied pixel by pixel.
use Rattle.std.proofs.Common.{◌≡◌, ◌*◌, ◌<◌, ◌⊎◌, get_or, length, replicate, subst, sym, ◌∙◌, ap, arith, inl, inr}
use Rattle.std.proofs.lemmas.Nat.{mul-add-lt}
use Rattle.std.proofs.lemmas.List.{get_or-replicate, length-replicate, length-set}
use Rattle.grid_core.specs.declared.pixel.Pixel.{Pixel}
use Rattle.grid_core.specs.Raster.{Raster, IsInside, IsBelow, index_of, value_at, with_value, IsOnBorder}
use Rattle.grid_core.proofs.Cells.{each_pixel_below, set_is_read, set_keeps_others}
use Rattle.grid_core.proofs.Pixels.{same_pixel_or_not}
use Rattle.derived_views.specs.Rasters.{AgreeAt, IsPartOfBorder, KeepsAgreed, Copies}

-- a pixel of an image is one of a border of it
border_inside : (image border : Raster) (p : Pixel) → IsPartOfBorder image border
    → IsInside image.width image.height p → IsInside border.width border.height p
border_inside image border p part inside = (omega (arith, inside.0, part.width), omega (arith, inside.1, part.height))

module _ (image border : Raster) (p : Pixel) (part : IsPartOfBorder image border)
    (inside : IsInside image.width image.height p)
  where
    -- a copied value is read back
    copied_value : AgreeAt image (with_value border p (value_at image p)) p
    copied_value =
        set_is_read border p (value_at image p) part.filled (border_inside image border p part inside)

    -- other pixels stay
    other_value : (q : Pixel) → IsInside image.width image.height q → (q ≡ p → ⊥)
        → value_at (with_value border p (value_at image p)) q ≡ value_at border q
    other_value q inside_q other =
        set_keeps_others border p q (value_at image p) (border_inside image border p part inside)
        (border_inside image border q part inside_q) other

    copied_keeps : KeepsAgreed image border (with_value border p (value_at image p))
    copied_keeps q inside_q agrees = elim (same_pixel_or_not q p) [
      | inl same ↦ subst (λ r. AgreeAt image (with_value border p (value_at image p)) r) (sym same) copied_value
      | inr other ↦ other_value q inside_q other ∙ agrees
    ]

    copied_part : IsOnBorder image.width image.height p
        → IsPartOfBorder image (with_value border p (value_at image p))
    copied_part on = record {
      width = part.width;
      height = part.height;
      filled = length-set border.cells (index_of border.width p) (value_at image p) ∙ part.filled;
      values = λ q inside_q. elim (same_pixel_or_not q p) [
        | inl same ↦
            inr (
              subst (λ r. IsOnBorder image.width image.height r) (sym same) on,
              subst (λ r. AgreeAt image (with_value border p (value_at image p)) r) (sym same) copied_value,
            )
        | inr other ↦
            let stays = other_value q inside_q other in
            elim (part.values q inside_q) [
              | inl none ↦ inl (stays ∙ none)
              | inr border_value ↦ inr (border_value.0, stays ∙ border_value.1)
            ]
      ];
    }

    pub copied_pixel : IsOnBorder image.width image.height p
        → Copies (λ q. q ≡ p) image border (with_value border p (value_at image p))
    copied_pixel on = record {
      part = copied_part on;
      kept = copied_keeps;
      copied = λ q _ same.
          subst (λ r. AgreeAt image (with_value border p (value_at image p)) r) (sym same) copied_value;
    }

-- an image of 0 is part of each border
pub zeros_part : (image border : Raster) → border.width ≡ image.width → border.height ≡ image.height
    → border.cells ≡ replicate (border.width * border.height) 0
    → IsPartOfBorder image border
zeros_part image border width height zeros = record {
  width = width;
  height = height;
  filled = ap length zeros ∙ length-replicate (border.width * border.height) 0;
  values = λ p inside.
      let column : p.x < border.width = omega (arith, inside.0, width) in
      let row : p.y < border.height = omega (arith, inside.1, height) in
      let within : index_of border.width p < border.width * border.height =
      mul-add-lt p.y border.width p.x border.height row column
      in
      inl (ap (λ cells. get_or cells (index_of border.width p) 0) zeros
      ∙ get_or-replicate (border.width * border.height) (index_of border.width p) 0 0 within);
}

-- ---- copies that follow one another

pub copies_both : {image old middle new : Raster} {a b : Pixel → Type 0} → Copies a image old middle
    → Copies b image middle new → Copies (λ p. a p ⊎ b p) image old new
copies_both first second = record {
  part = second.part;
  kept = λ p inside agrees. second.kept p inside (first.kept p inside agrees);
  copied = λ p inside either. elim either [
    | inl earlier ↦ second.kept p inside (first.copied p inside earlier)
    | inr later ↦ second.copied p inside later
  ];
}

-- some of the pixels that are copied
pub copies_some : {image old new : Raster} {a b : Pixel → Type 0} → Copies a image old new
    → ((p : Pixel) → IsInside image.width image.height p → b p → a p) → Copies b image old new
copies_some copies some = record {
  part = copies.part;
  kept = copies.kept;
  copied = λ p inside is. copies.copied p inside (some p inside is);
}

-- a border is nowhere above its image
pub border_below : (image border : Raster) → IsPartOfBorder image border → IsBelow border image
border_below image border part = each_pixel_below border image part.filled part.width part.height (λ p inside.
    let inside_image : IsInside image.width image.height p =
    (omega (arith, inside.0, part.width), omega (arith, inside.1, part.height))
    in
    elim (part.values p inside_image) [
      | inl none ↦ omega (arith, none)
      | inr same ↦ omega (arith, same.1)
    ])
