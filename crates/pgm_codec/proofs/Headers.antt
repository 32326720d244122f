-- The header of a written file stands first in it.
use Rattle.std.proofs.Common.{◌≡◌, ℕ, ◌^◌, ◌<◌, true, false, List, [], ◌∷◌, ◌++◌, None, decimal, refl, sym, arith}
use Rattle.std.proofs.Common.{append_assoc}
use Rattle.std.proofs.lemmas.Fmt.{decimal_is_IsNumeral}
use Rattle.std.specs.Char.{is_ascii_digit}
use Rattle.grid_core.specs.Raster.{IsImageSize}
use Rattle.pgm_codec.specs.{declared.grammar.Encoding.Encoding, Graymap.Graymap, Graymap.IsGraymap, Writing.file_header}
use Rattle.pgm_codec.specs.Spelling.{is_white, StartsField, StartsHeader, width_fault, height_fault, maxval_fault}

-- a number without leading zeros and a whitespace byte are a header number
number_stands : (n b : ℕ) (rest : List ℕ) → n < 2 ^ 64 → is_white b ≡ true → is_ascii_digit b ≡ false
    → StartsField (decimal n ++ b ∷ rest) n rest
number_stands n b rest lt white no_digit =
    let p = decimal_is_IsNumeral n lt in (
      decimal n,
      b,
      record { gap = []; is_gap = ([], tt, refl); numeral = p.0; whole = no_digit; parts = refl },
      white,
      sym p.1,
    )

good_width : (w h : ℕ) → IsImageSize w h → width_fault w ≡ None
good_width w h size = grind (arith, size.some_width, size.width_within)

good_height : (w h : ℕ) → IsImageSize w h → height_fault w h ≡ None
good_height w h size = grind (arith, size.some_height, size.height_within, size.pixels_within)

good_maxval : (g : Graymap) → IsGraymap g → maxval_fault g.maxval ≡ None
good_maxval g h = grind (arith, h.some_maxval, h.maxval_within)

-- the header that is written, with a raster behind it
pub header_stands : (k : Encoding) (g : Graymap) (raster : List ℕ) → IsGraymap g
    → StartsHeader (file_header k g ++ raster) k g.raster.width g.raster.height g.maxval raster
header_stands k g raster h =
    let size = h.sized.size in
    let m = g.maxval in
    let after_height = decimal m ++ 10 ∷ raster in
    let after_width = decimal g.raster.height ++ 10 ∷ after_height in
    let after_magic = decimal g.raster.width ++ 32 ∷ after_width in
    record {
      after_magic = after_magic;
      after_width = after_width;
      after_height = after_height;
      magic_bytes = (10, simp append_assoc refl, refl);
      width_field = (
        number_stands g.raster.width 32 after_width (omega (arith, size.width_within)) refl refl,
        good_width g.raster.width g.raster.height size,
      );
      height_field = (
        number_stands g.raster.height 10 after_height (omega (arith, size.height_within)) refl refl,
        good_height g.raster.width g.raster.height size,
      );
      maxval_field = (number_stands m 10 raster (omega (arith, h.maxval_within)) refl refl, good_maxval g h);
    }
