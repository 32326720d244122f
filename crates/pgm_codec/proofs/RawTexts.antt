-- The raw text of an image spells it.
use Rattle.std.proofs.Common.{◌≡◌, ℕ, suc, ◌/◌, ◌%◌, ◌<◌, ◌≤◌, List, [], ◌∷◌, ◌++◌, length, slice_index, refl, sym, ap}
use Rattle.std.proofs.Common.{subst, arith, inl, inr, flat_map}
use Rattle.std.proofs.lemmas.Bool.{cond-true, cond-false, cases_lt, lt-ltb, le-ltb}
use Rattle.pgm_codec.specs.{declared.grammar.Encoding.TheVariants.Raw, Graymap.Graymap, Graymap.IsGraymap}
use Rattle.pgm_codec.specs.{Writing.sample_bytes, Writing.raw_text}
use Rattle.pgm_codec.specs.Spelling.{StartsSamples, is_wide, StartsBytes, PgmSpells}
use Rattle.pgm_codec.proofs.{Headers.header_stands, Images.same_image}

-- the bytes of a sample
bytes_stand : (m s : ℕ) (rest : List ℕ) → StartsBytes (is_wide m) (sample_bytes m s ++ rest) s rest
bytes_stand m s rest =
    elim (cases_lt 255 m) [
      | inr le ↦ subst (λ wide. StartsBytes wide (sample_bytes m s ++ rest) s rest) (sym (le-ltb 255 m le))
          (ap (λ (t : List ℕ). t ++ rest) (cond-true _ (s ∷ []) _ (lt-ltb m 256 (omega arith))))
      | inl lt ↦ subst (λ wide. StartsBytes wide (sample_bytes m s ++ rest) s rest) (sym (lt-ltb 255 m lt)) (
        s / 256,
        s % 256,
        ap (λ (t : List ℕ). t ++ rest) (cond-false _ _ (s / 256 ∷ s % 256 ∷ []) (le-ltb m 256 (omega arith))),
        omega arith,
      )
    ]

samples_stand : (m : ℕ) (ss : List ℕ) → ((k : ℕ) → k < length ss → slice_index ss k ≤ m)
    → StartsSamples Raw m (flat_map (sample_bytes m) ss) ss []
samples_stand m [] h = refl
samples_stand m (s ∷ ss) h =
    let rest = flat_map (sample_bytes m) ss in
    (rest, (bytes_stand m s rest, h 0 (omega arith)), samples_stand m ss (λ k lt. h (suc k) (omega arith)))

-- what is written spells the image
pub raw_spells : (g : Graymap) → IsGraymap g → PgmSpells (raw_text g) g
unfolding raw_text
raw_spells g h =
    let raster = flat_map (sample_bytes g.maxval) g.raster.cells in
    record {
      encoding = Raw;
      raster = raster;
      rest = [];
      header = header_stands Raw g raster h;
      samples = samples_stand g.maxval g.raster.cells h.samples_within;
      count = h.sized.filled;
      ended = refl;
    }

-- and no other
pub raw_spells_only : (g other : Graymap) → IsGraymap g → PgmSpells (raw_text g) other → other ≡ g
raw_spells_only g other h s = same_image (raw_text g) other g s (raw_spells g h)
