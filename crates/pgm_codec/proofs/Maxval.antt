-- Samples and maxval.
use Rattle.std.proofs.Common.{◌≡◌, ℕ, ◌<◌, ◌≤◌, true, All, List, nat_lt, Any}
use Rattle.std.proofs.{lemmas.Bool.ltb-true, lemmas.List.Elements.All-from_get_or, lemmas.List.Folds.Any-from_list_any}
use Rattle.std.specs.List.{list_any}
use Rattle.pgm_codec.specs.Graymap.{Graymap, IsGraymap}

-- a sample above maxval, found by the test that computes it
pub some_above : (m : ℕ) (xs : List ℕ) → list_any (λ s. nat_lt m s) xs ≡ true → Any (λ s. m < s) xs
some_above m xs found =
    let some = Any-from_list_any (λ s. nat_lt m s) xs found in
    (some.0, some.1, some.2, some.3, ltb-true m some.1 some.4)

-- no sample of an image is above its maxval
pub samples_are_within : (image : Graymap) (samples : List ℕ) (maxval : ℕ) → IsGraymap image
    → samples ≡ image.raster.cells → maxval ≡ image.maxval → All (λ s. s ≤ maxval) samples
samples_are_within image samples maxval is cells same =
    rw (cells, same) (All-from_get_or (λ s. s ≤ image.maxval) image.raster.cells 0 is.samples_within)
