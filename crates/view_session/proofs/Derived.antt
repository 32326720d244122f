-- One image is derived from an image, and an input has one derivation.
use Rattle.std.proofs.Common.{◌≡◌, ℕ, List, sym, ap, ◌∙◌, subst, arith}
use Rattle.grid_core.specs.{declared.conn.Conn.Conn, declared.pixel.Pixel.Pixel, Raster.value_at}
use Rattle.grid_core.specs.{Laws.AtMostOneReconstruction, RasterLaws.EqualPixelsEqualImages}
use Rattle.grid_core.specs.Path.{Domain, domain_of, Inside}
use Rattle.pgm_codec.specs.{Graymap.Graymap, Spelling.PgmSpells, FirstFault.PgmFault, Writing.raw_text}
use Rattle.pgm_codec.specs.{declared.error.PgmError.PgmError}
use Rattle.derived_views.specs.{HMaxima.less, Laws.AtMostOneFill, Laws.AtMostOneRegionalMaxima}
use Rattle.view_session.specs.Derive.{AreDerived, IsDerived, IsDerivation, FileIsRefused}
use Rattle.view_session.specs.declared.derive.Derivation.{Derivation}
use Rattle.view_session.specs.declared.derive.Derivation.TheVariants.{Fill, HMax, RegMax}
use Rattle.run_faults.specs.{declared.run_error.RunError.RunError, declared.run_error.RunError.TheVariants.Pgm}

-- the laws of derived images below
pub record DerivedLaws : Type 0 where
  pub one_fill : AtMostOneFill
  pub one_regional_maxima : AtMostOneRegionalMaxima
  pub one_reconstruction : AtMostOneReconstruction
  pub equal_images : EqualPixelsEqualImages

module _ (laws : DerivedLaws) where
  -- an image has its derived values in one way
  one_values : (kind : Derivation) (h : ℕ) (d : Domain) (image a b : Pixel → ℕ) → AreDerived kind h d image a
      → AreDerived kind h d image b → (p : Pixel) → Inside d p → a p ≡ b p
  one_values Fill h d image a b first second = laws.one_fill d image a b first second
  one_values HMax h d image a b first second = laws.one_reconstruction d image (less h image) a b first second
  one_values RegMax h d image a b first second = laws.one_regional_maxima d image a b first second

  -- one image is derived from an image
  one_derived : (kind : Derivation) (h : ℕ) (conn : Conn) (image a b : Graymap) → IsDerived kind h conn image a
      → IsDerived kind h conn image b → a ≡ b
  one_derived kind h conn image a b first second =
      let values = one_values kind h (domain_of image.raster conn) (value_at image.raster) (value_at a.raster)
      (value_at b.raster) first.values second.values in
      let rasters : a.raster ≡ b.raster = laws.equal_images a.raster b.raster first.filled second.filled
      (first.width ∙ sym second.width) (first.height ∙ sym second.height)
      (λ p inside. values p (omega (arith, inside.0, first.width), omega (arith, inside.1, first.height))) in
      let maxvals : a.maxval ≡ b.maxval = first.maxval ∙ sym second.maxval in
      λ i. record { raster = rasters i; maxval = maxvals i }

  -- an input has one derivation of a kind
  pub one_derivation : ((text : List ℕ) (a b : Graymap) → PgmSpells text a → PgmSpells text b → a ≡ b)
      → (kind : Derivation) (h : ℕ) (conn : Conn) (input a b : List ℕ) → IsDerivation kind h conn input a
      → IsDerivation kind h conn input b → a ≡ b
  one_derivation one_image kind h conn input a b (first, (image, spelled, is_first), spells)
      (second, (other, again, is_second), also) =
      let same : image ≡ other = one_image input image other spelled again in
      let derived = subst (λ (g : Graymap). IsDerived kind h conn g first) same is_first in
      spells ∙ ap raw_text (one_derived kind h conn other first second derived is_second) ∙ sym also

-- a file is refused for one reason
pub one_refusal_of_a_file : ((text : List ℕ) (a b : PgmError) → PgmFault text a → PgmFault text b → a ≡ b)
    → (input : List ℕ) (d e : RunError) → FileIsRefused input d → FileIsRefused input e → d ≡ e
one_refusal_of_a_file law input d e (a, is, fault) (b, also, other) = is ∙ ap Pgm (law input a b fault other) ∙ sym also

-- nothing is derived from a file that is refused
pub none_of_a_refused_file : ((text : List ℕ) (image : Graymap) (e : PgmError) → PgmSpells text image → PgmFault text e
    → ⊥) → (kind : Derivation) (h : ℕ) (conn : Conn) (input text : List ℕ) (e : RunError)
    → IsDerivation kind h conn input text → FileIsRefused input e → ⊥
none_of_a_refused_file law kind h conn input text e (derived, (image, spelled, is), spells) (fault, is_fault, first) =
    law input image fault spelled first
