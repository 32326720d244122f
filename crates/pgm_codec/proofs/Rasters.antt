-- A raster: what reading finds is what stands there.
use Rattle.std.proofs.Common.{◌≡◌, ℕ, zero, suc, ◌*◌, ◌<◌, ◌≤◌, List, [], ◌∷◌, length, Result, Ok, Err, refl, sym, ap}
use Rattle.std.proofs.Common.{subst, ◌∙◌, arith, ◌⊎◌, inl, inr}
use Rattle.grid_core.specs.Raster.{max_level}
use Rattle.pgm_codec.specs.{declared.error.PgmError.PgmError, declared.error.PgmError.TheVariants.Trailing}
use Rattle.pgm_codec.specs.{declared.grammar.Encoding.Encoding, declared.grammar.Section.TheVariants.Raster}
use Rattle.pgm_codec.specs.{Graymap.Graymap}
use Rattle.pgm_codec.specs.declared.grammar.Encoding.TheVariants.{Plain, Raw}
use Rattle.pgm_codec.specs.Spelling.{IsGap, StartsSample, StartsSamples, IsEnd}
use Rattle.pgm_codec.specs.FirstFault.{EndsInGap, SampleFault, EndFault, RasterFault}
use Rattle.pgm_codec.specs.Reading.{◌>>=◌, sample_at, samples_at, nothing_at, end_at, raster_at}
use Rattle.pgm_codec.proofs.Decimals.{only_gap, other_reached, gap_cases}
use Rattle.pgm_codec.proofs.Fields.{Found, sample_read, sample_fault_read, IsSample, sample_found}

-- ---- the end

abbrev Ended : Type 0
Ended = Result (Unit {0}) PgmError

-- in a plain raster no comment stands, so what ends in a gap is one
only_white : (text : List ℕ) → EndsInGap Raster text → IsGap Raster text
only_white text (inl h) = h
only_white text (inr (gap, begun, is_gap, (b, words, opens, all, e), parts)) = absurd cc

end_read : (k : Encoding) (text : List ℕ) → IsEnd k text → end_at k text ≡ Ok tt
unfolding end_at nothing_at
end_read Plain text h = ap nothing_at (only_gap Raster text (inl h))
end_read Raw text e = ap nothing_at e

end_fault_read : (k : Encoding) (text : List ℕ) (e : PgmError) → EndFault k text e → end_at k text ≡ Err e
unfolding end_at nothing_at
end_fault_read Plain text Trailing (b, h) = ap nothing_at (other_reached Raster text b h)
end_fault_read Raw text Trailing (b, rest, e) = ap nothing_at e
end_fault_read _ text _ h = absurd h

-- behind the last sample stands what may follow it, or there is a fault
end_cases : (k : Encoding) (text : List ℕ) → IsEnd k text ⊎ EndFault k text Trailing
end_cases Plain text =
    elim (gap_cases Raster text) [
      | inl h ↦ inl (only_white text h)
      | inr h ↦ inr h
    ]
end_cases Raw [] = inl refl
end_cases Raw (b ∷ rest) = inr (b, rest, refl)

-- ---- samples

-- samples and the text behind them, or a fault
abbrev pub Many : Type 0
Many = Result (List ℕ × List ℕ) PgmError

abbrev many : List ℕ → List ℕ → Many
many ss rest = Ok (ss, rest)

-- a sample and those behind it
abbrev pub then_more : ℕ → Many → Many
then_more s r = r >>= λ x. Ok (s ∷ x.0, x.1)

module _ (k : Encoding) (m : ℕ) (small : m ≤ max_level) where
  pub step_read : (count : ℕ) (text : List ℕ) (s : ℕ) (after : List ℕ) → sample_at k m text ≡ Ok (s, after)
      → samples_at k m (suc count) text ≡ then_more s (samples_at k m count after)
  unfolding samples_at
  step_read count text s after e = ap (λ (r : Found). r >>= λ x. then_more x.0 (samples_at k m count x.1)) e

  pub step_fails : (count : ℕ) (text : List ℕ) (e : PgmError) → sample_at k m text ≡ Err e
      → samples_at k m (suc count) text ≡ Err e
  unfolding samples_at
  step_fails count text e f = ap (λ (r : Found). r >>= λ x. then_more x.0 (samples_at k m count x.1)) f

  none_read : (text : List ℕ) → samples_at k m zero text ≡ many [] text
  unfolding samples_at
  none_read text = refl

  pub samples_read : (text ss rest : List ℕ) → StartsSamples k m text ss rest
      → samples_at k m (length ss) text ≡ many ss rest
  samples_read text [] rest e = none_read text ∙ ap (many []) e
  samples_read text (s ∷ ss) rest (after, h, more) =
      step_read (length ss) text s after (sample_read m small k text s after h)
      ∙ ap (then_more s) (samples_read after ss rest more)

  pub samples_short : (count : ℕ) (text ss rest : List ℕ) (e : PgmError) → StartsSamples k m text ss rest
      → length ss < count
      → SampleFault k m rest e → samples_at k m count text ≡ Err e
  samples_short zero text ss rest e h lt f = absurd (omega arith)
  samples_short (suc count) text [] rest e h lt f = step_fails count text e (ap (sample_at k m) h
      ∙ sample_fault_read m small k rest e f)
  samples_short (suc count) text (s ∷ ss) rest e (after, h, more) lt f =
      step_read count text s after (sample_read m small k text s after h)
      ∙ ap (then_more s) (samples_short count after ss rest e more (omega arith) f)

  -- what reading so many samples finds is there
  abbrev pub AreSamples : ℕ → List ℕ → Many → Type 0
  AreSamples count text (Ok x) = StartsSamples k m text x.0 x.1 × (length x.0 ≡ count)
  AreSamples count text (Err e) = (ss rest : List ℕ) × StartsSamples k m text ss rest × (length ss < count)
      × SampleFault k m rest e

  samples_more : (count : ℕ) (text : List ℕ) (s : ℕ) (after : List ℕ) → StartsSample k m text s after → (r : Many)
      → AreSamples count after r
      → AreSamples (suc count) text (then_more s r)
  samples_more count text s after h (Ok x) (more, len) = ((after, h, more), ap suc len)
  samples_more count text s after h (Err e) (ss, rest, more, lt, f) = (s ∷ ss, rest, (after, h, more), omega arith, f)

  samples_step : (count : ℕ) (text : List ℕ)
      → ((after : List ℕ) → AreSamples count after (samples_at k m count after)) → (r : Found)
      → IsSample m small k text r → AreSamples (suc count) text (r >>= λ x. then_more x.0 (samples_at k m count x.1))
  samples_step count text all (Ok x) h = samples_more count text x.0 x.1 h (samples_at k m count x.1) (all x.1)
  samples_step count text all (Err e) h = ([], text, refl, omega arith, h)

  pub samples_found : (count : ℕ) (text : List ℕ) → AreSamples count text (samples_at k m count text)
  unfolding samples_at
  samples_found zero text = (refl, refl)
  samples_found (suc count) text =
      samples_step count text (λ after. samples_found count after) (sample_at k m text) (sample_found m small k text)

  -- ---- the raster

  abbrev pub made : ℕ → ℕ → List ℕ → Graymap
  made w h ss = record { raster = record { width = w; height = h; cells = ss }; maxval = m }

  abbrev finished : ℕ → ℕ → List ℕ → Ended → Result Graymap PgmError
  finished w h ss r = r >>= λ _. Ok (made w h ss)

  abbrev ended : ℕ → ℕ → Many → Result Graymap PgmError
  ended w h r = r >>= λ x. finished w h x.0 (end_at k x.1)

  all_read : (w h : ℕ) (text ss rest : List ℕ) → StartsSamples k m text ss rest → length ss ≡ w * h
      → raster_at k w h m text ≡ finished w h ss (end_at k rest)
  unfolding raster_at
  all_read w h text ss rest all len =
      ap (ended w h) (ap (λ (n : ℕ). samples_at k m n text) (sym len) ∙ samples_read text ss rest all)

  pub raster_read : (w h : ℕ) (text ss rest : List ℕ) → StartsSamples k m text ss rest → length ss ≡ w * h
      → IsEnd k rest
      → raster_at k w h m text ≡ Ok (made w h ss)
  raster_read w h text ss rest all len end = all_read w h text ss rest all len
      ∙ ap (finished w h ss) (end_read k rest end)

  pub raster_fault_read : (w h : ℕ) (text : List ℕ) (e : PgmError) → RasterFault k m (w * h) text e
      → raster_at k w h m text ≡ Err e
  unfolding raster_at
  raster_fault_read w h text e (ss, rest, all, inl (lt, f)) = ap (ended w h)
      (samples_short (w * h) text ss rest e all lt f)
  raster_fault_read w h text e (ss, rest, all, inr (len, f)) =
      all_read w h text ss rest all len ∙ ap (finished w h ss) (end_fault_read k rest e f)

  -- what reading the raster finds is there
  abbrev pub IsRaster : ℕ → ℕ → List ℕ → Result Graymap PgmError → Type 0
  IsRaster w h text (Ok g) =
      (ss rest : List ℕ) × (made w h ss ≡ g) × StartsSamples k m text ss rest × (length ss ≡ w * h) × IsEnd k rest
  IsRaster w h text (Err e) = RasterFault k m (w * h) text e

  raster_ended : (w h : ℕ) (text ss rest : List ℕ) → StartsSamples k m text ss rest → length ss ≡ w * h
      → IsEnd k rest ⊎ EndFault k rest Trailing → IsRaster w h text (finished w h ss (end_at k rest))
  raster_ended w h text ss rest all len (inl end) =
      subst (λ (r : Ended). IsRaster w h text (finished w h ss r)) (sym (end_read k rest end))
      (ss, rest, refl, all, len, end)
  raster_ended w h text ss rest all len (inr f) =
      subst (λ (r : Ended). IsRaster w h text (finished w h ss r)) (sym (end_fault_read k rest Trailing f))
      (ss, rest, all, inr (len, f))

  raster_from : (w h : ℕ) (text : List ℕ) (r : Many) → AreSamples (w * h) text r → IsRaster w h text (ended w h r)
  raster_from w h text (Ok x) (all, len) = raster_ended w h text x.0 x.1 all len (end_cases k x.1)
  raster_from w h text (Err e) (ss, rest, all, lt, f) = (ss, rest, all, inl (lt, f))

  pub raster_found : (w h : ℕ) (text : List ℕ) → IsRaster w h text (raster_at k w h m text)
  unfolding raster_at
  raster_found w h text = raster_from w h text (samples_at k m (w * h) text) (samples_found (w * h) text)
