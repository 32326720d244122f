-- Rows of cells that are cut into two lists, and joined again.
use Rattle.std.proofs.Common.{◌≡◌, ℕ, ◌+◌, ◌-◌, ◌*◌, ◌<◌, ◌≤◌, List, ◌++◌, length, get_or, take, drop, refl, sym, ap}
use Rattle.std.proofs.Common.{ap₂, ◌∙◌, subst, arith, inl, inr}
use Rattle.std.proofs.{Math.Nat.mul-le-mul_right, lemmas.Bool.cases_lt}
use Rattle.std.proofs.lemmas.List.{get_or-append-add, get_or_append_left, length-append, take-append-drop}
use Rattle.grid_core.specs.{declared.conn.Conn.Conn, declared.pixel.Pixel.Pixel, Rects.part}
use Rattle.grid_core.specs.Raster.{IsBelow, value_at}
use Rattle.raster_sweeps.specs.{declared.size.Size.Size, Growth.rows_of}
use Rattle.band_growth.specs.Bands.{AreClosed, AreClosedApart, AreGrown, CanGrowRows, IsAcross, IsCut, IsOpenPair}
use Rattle.band_growth.specs.Bands.{above, all_of, below, rows_above, rows_from}
use Rattle.band_growth.proofs.Halves.{IsPartOf, halves_closed, halves_lawful}

-- the values of whole rows
abbrev pub values_of : Size → List ℕ → Pixel → ℕ
values_of size cells = part (all_of size) (value_at (rows_of size cells))

module _ (size : Size) (cut : ℕ) (front back : List ℕ) (long : length front ≡ cut * size.w) where
  pub front_values : IsPartOf (rows_above size.w cut) (values_of (above size cut) front)
      (values_of size (front ++ back))
  front_values p inside =
      let i = (0 + p.y) * size.w + (0 + p.x) in
      let j = (0 + (0 + p.y)) * size.w + (0 + (0 + p.x)) in
      let place : i ≡ j = omega arith in
      let over : (p.y + 1) * size.w ≤ cut * size.w = mul-le-mul_right size.w (omega (arith, inside.1)) in
      let less : i < length front = omega (arith, inside.0) in
      sym (get_or_append_left front back 0 i less) ∙ ap (λ k. get_or (front ++ back) k 0) place

  pub back_values : IsPartOf (rows_from size.w size.h cut) (values_of (below size cut) back)
      (values_of size (front ++ back))
  back_values p inside =
      let i = (0 + p.y) * size.w + (0 + p.x) in
      let j = (0 + (cut + p.y)) * size.w + (0 + (0 + p.x)) in
      let place : length front + i ≡ j = omega arith in
      sym (get_or-append-add front back i 0) ∙ ap (λ k. get_or (front ++ back) k 0) place

-- the two parts of a list
pub parts_joined : (cells front back : List ℕ) (n : ℕ) → front ≡ take n cells → back ≡ drop n cells
    → front ++ back ≡ cells
parts_joined cells front back n at_front at_back = ap₂ ◌++◌ at_front at_back ∙ take-append-drop n cells

-- ---- rows that may grow

-- the cells of so many rows and of the rest are all
both_cells : (width height cut rest : ℕ) → rest + cut ≡ height → width * rest + cut * width ≡ width * height
both_cells width height cut rest same = let all = ap (λ n. width * n) same in omega arith

module _ (size : Size) (cut : ℕ) (is_cut : IsCut size cut) (upper_mask lower_mask upper lower : List ℕ)
    (long_mask : length upper_mask ≡ cut * size.w) (long : length upper ≡ cut * size.w)
    (close : CanGrowRows size (upper_mask ++ lower_mask) (upper ++ lower)) where
  rows_below_within : (size.h - cut) * size.w ≤ size.h * size.w
  rows_below_within = mul-le-mul_right size.w (omega arith)

  pub below_can_grow : CanGrowRows (below size cut) lower_mask lower
  below_can_grow = record {
    size = record {
      some_width = close.size.some_width;
      some_height = omega (arith, is_cut.some_below);
      width_within = close.size.width_within;
      height_within = omega (arith, close.size.height_within);
      pixels_within = omega (arith, close.size.pixels_within, rows_below_within);
    };
    filled =
        omega (
          arith,
          close.filled,
          length-append upper lower,
          both_cells size.w size.h cut (size.h - cut) (omega (arith, is_cut.some_below)),
        );
    mask_filled =
        omega (
          arith,
          close.mask_filled,
          length-append upper_mask lower_mask,
          both_cells size.w size.h cut (size.h - cut) (omega (arith, is_cut.some_below)),
        );
    below = record {
      width = refl;
      height = refl;
      values = λ k less.
          let same : length upper ≡ length upper_mask = omega arith in
          omega (
            arith,
            close.below.values (length upper + k) (omega (arith, length-append upper lower)),
            get_or-append-add upper lower k 0,
            get_or-append-add upper_mask lower_mask k 0,
            ap (λ n. get_or (upper_mask ++ lower_mask) (n + k) 0) same,
          );
    };
    fits = record {
      some_width = close.size.some_width;
      some_height = omega (arith, is_cut.some_below);
      columns = omega arith;
      rows = omega arith;
    };
  }

-- ---- rows that have grown

module _ (conn : Conn) (size : Size) (cut : ℕ) (is_cut : IsCut size cut)
    (upper_mask lower_mask upper lower upper_new lower_new : List ℕ)
    (long_mask : length upper_mask ≡ cut * size.w) (long : length upper ≡ cut * size.w)
    (up : AreGrown conn (above size cut) upper_mask upper upper_new)
    (down : AreGrown conn (below size cut) lower_mask lower lower_new) where
  long_new : length upper_new ≡ cut * size.w
  long_new = up.filled ∙ long

  below_joined : IsBelow (rows_of size (upper_new ++ lower_new)) (rows_of size (upper_mask ++ lower_mask))
  below_joined = record {
    width = refl;
    height = refl;
    values = λ k less. elim (cases_lt k (length upper_new)) [
      | inl early ↦
          omega (
            arith,
            up.below.values k early,
            get_or_append_left upper_new lower_new 0 k early,
            get_or_append_left upper_mask lower_mask 0 k (omega (arith, long_new)),
          )
      | inr late ↦
          let i = k - length upper_new in
          let here : length upper_new + i ≡ k = omega arith in
          let there : length upper_mask + i ≡ k = omega (arith, long_new) in
          omega (
            arith,
            down.below.values i (omega (arith, length-append upper_new lower_new)),
            get_or-append-add upper_new lower_new i 0,
            get_or-append-add upper_mask lower_mask i 0,
            ap (λ n. get_or (upper_new ++ lower_new) n 0) here,
            ap (λ n. get_or (upper_mask ++ lower_mask) n 0) there,
          )
    ];
  }

  -- both halves have grown, and so the rows have
  rows_grown : AreGrown conn size (upper_mask ++ lower_mask) (upper ++ lower) (upper_new ++ lower_new)
  rows_grown = record {
    width = refl;
    height = refl;
    filled = omega (arith, length-append upper lower, length-append upper_new lower_new, up.filled, down.filled);
    below = below_joined;
    outside = λ p inside out.
        absurd (out (omega arith, omega (arith, inside.0), omega arith, omega (arith, inside.1)));
    lawful =
        halves_lawful conn size.w size.h cut (omega (arith, is_cut.some_below))
        (values_of size (upper_mask ++ lower_mask)) (values_of size (upper_new ++ lower_new))
        (values_of (above size cut) upper_mask) (values_of (above size cut) upper_new)
        (values_of (below size cut) lower_mask) (values_of (below size cut) lower_new)
        (front_values size cut upper_mask lower_mask long_mask) (front_values size cut upper_new lower_new long_new)
        (back_values size cut upper_mask lower_mask long_mask) (back_values size cut upper_new lower_new long_new)
        (values_of size (upper ++ lower)) (values_of (above size cut) upper) (values_of (below size cut) lower)
        (front_values size cut upper lower long) (back_values size cut upper lower long)
        up.lawful down.lawful;
  }

  open_across : AreClosed conn (above size cut) upper_mask upper_new
      → AreClosed conn (below size cut) lower_mask lower_new
      → (p q : Pixel) → IsOpenPair conn size (upper_mask ++ lower_mask) (upper_new ++ lower_new) p q
      → IsAcross cut p q
  open_across closed_above closed_below p q raises =
      halves_closed conn size.w size.h cut (omega (arith, is_cut.some_below))
      (values_of size (upper_mask ++ lower_mask)) (values_of size (upper_new ++ lower_new))
      (values_of (above size cut) upper_mask) (values_of (above size cut) upper_new)
      (values_of (below size cut) lower_mask) (values_of (below size cut) lower_new)
      (front_values size cut upper_mask lower_mask long_mask) (front_values size cut upper_new lower_new long_new)
      (back_values size cut upper_mask lower_mask long_mask) (back_values size cut upper_new lower_new long_new)
      closed_above closed_below p q raises

  -- where both halves are closed, they are closed apart
  rows_apart : AreClosed conn (above size cut) upper_mask upper_new
      → AreClosed conn (below size cut) lower_mask lower_new
      → AreClosedApart conn size (upper_mask ++ lower_mask) (upper_new ++ lower_new) cut cut
  rows_apart closed_above closed_below = record {
    before = λ p q raises p_above q_above. elim (open_across closed_above closed_below p q raises) [
      | inl from_above ↦ omega (arith, from_above.1, q_above)
      | inr from_below ↦ omega (arith, from_below.0, p_above)
    ];
    from = λ p q raises p_below q_below. elim (open_across closed_above closed_below p q raises) [
      | inl from_above ↦ omega (arith, from_above.0, p_below)
      | inr from_below ↦ omega (arith, from_below.1, q_below)
    ];
  }

-- ---- a mask and an image, and their parts

module _ (size : Size) (cut : ℕ) (is_cut : IsCut size cut) (mask image upper_mask lower_mask upper lower : List ℕ)
    (mask_joined : upper_mask ++ lower_mask ≡ mask) (image_joined : image ≡ upper ++ lower)
    (long_mask : length upper_mask ≡ cut * size.w) (long : length upper ≡ cut * size.w)
    (close : CanGrowRows size mask image) where
  parts_can_grow : CanGrowRows size (upper_mask ++ lower_mask) (upper ++ lower)
  parts_can_grow =
      subst (λ m. CanGrowRows size m (upper ++ lower)) (sym mask_joined)
      (subst (CanGrowRows size mask) image_joined close)

  pub lower_can_grow : CanGrowRows (below size cut) lower_mask lower
  lower_can_grow = below_can_grow size cut is_cut upper_mask lower_mask upper lower long_mask long parts_can_grow

  module _ (conn : Conn) (upper_new lower_new : List ℕ)
      (up : AreGrown conn (above size cut) upper_mask upper upper_new)
      (down : AreGrown conn (below size cut) lower_mask lower lower_new) where
    pub halves_grown : AreGrown conn size mask image (upper_new ++ lower_new)
    halves_grown =
        subst (λ m. AreGrown conn size m image (upper_new ++ lower_new)) mask_joined
        (subst (λ b. AreGrown conn size (upper_mask ++ lower_mask) b (upper_new ++ lower_new)) (sym image_joined)
        (rows_grown conn size cut is_cut upper_mask lower_mask upper lower upper_new lower_new long_mask long up down))

    pub halves_apart : AreClosed conn (above size cut) upper_mask upper_new
        → AreClosed conn (below size cut) lower_mask lower_new
        → AreClosedApart conn size mask (upper_new ++ lower_new) cut cut
    halves_apart closed_above closed_below =
        subst (λ m. AreClosedApart conn size m (upper_new ++ lower_new) cut cut) mask_joined
        (rows_apart conn size cut is_cut upper_mask lower_mask upper lower upper_new lower_new long_mask long up down
        closed_above closed_below)
