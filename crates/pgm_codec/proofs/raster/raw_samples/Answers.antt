use Rattle.std.proofs.Common.{◌≡◌, ℕ, ◌*◌, ◌/◌, ◌<◌, ◌≤◌, min, List, length, drop, slice_index, Ok, inr, ap, sym, subst}
use Rattle.std.proofs.Common.{◌∙◌, arith, nat_lt}
use Rattle.std.proofs.lemmas.List.{take_rest}
use Rattle.std.specs.List.{list_any}
use Rattle.grid_core.specs.Raster.{max_level}
use Rattle.pgm_codec.specs.{Spelling.is_wide, Reading.sample_width, Reading.raw_value}
use Rattle.pgm_codec.proofs.RawSamples.{AreFirst, above_gives, short_gives, enough_gives, all_within}
use Rattle.pgm_codec.proofs.raster.raw_samples.Goals as goal

-- what the two calls before say together
first_values : (m count whole width : ℕ) (small : m ≤ max_level) (text ss : List ℕ) → width ≡ sample_width (is_wide m)
    → whole ≡ min count (length text / width) → length ss ≡ whole
    → ((k : ℕ) → k < whole → slice_index ss k ≡ raw_value (is_wide m) text k) → AreFirst m small text ss count
first_values m count whole width small text ss w e len values = record {
  len = len ∙ e ∙ ap (λ (n : ℕ). min count (length text / n)) w;
  values = λ k lt. values k (subst (λ (n : ℕ). k < n) len lt);
}

pub returns-then-is_value_above-clause-read : goal.returns-then-is_value_above-clause-read
returns-then-is_value_above-clause-read c =
    let m = c.args.maxval in
    let small : m ≤ max_level = omega (arith, c.ranges.maxval.fits) in
    let samples = c.in_ok-samples.samples.items in
    let made = c.in_ok-samples.ensures.values in
    inr (above_gives m small c.args.text.now samples c.args.count
    (first_values m c.args.count c.min-whole.result c.sample_width-width.result small c.args.text.now samples
    c.sample_width-width.ensures
    c.min-whole.ensures made.length made.values)
    (ap (list_any (λ s. nat_lt m s)) (sym c.deref.ensures.value) ∙ sym c.is_value_above.ensures
    ∙ c.if-is_value_above.true))

pub returns-then-whole-count-clause-read : goal.returns-then-whole-count-clause-read
returns-then-whole-count-clause-read c =
    let m = c.args.maxval in
    let small : m ≤ max_level = omega (arith, c.ranges.maxval.fits) in
    let samples = c.in_ok-samples.samples.items in
    let made = c.in_ok-samples.ensures.values in
    inr (short_gives m small c.args.text.now samples c.args.count
    (first_values m c.args.count c.min-whole.result c.sample_width-width.result small c.args.text.now samples
    c.sample_width-width.ensures
    c.min-whole.ensures made.length made.values)
    (ap (list_any (λ s. nat_lt m s)) (sym c.deref.ensures.value) ∙ sym c.is_value_above.ensures
    ∙ c.if-is_value_above.false)
    (subst (λ (n : ℕ). n < c.args.count) (sym made.length) c.if-whole-count.true))

pub returns-clause-read : goal.returns-clause-read
returns-clause-read c =
    let m = c.args.maxval in
    let small : m ≤ max_level = omega (arith, c.ranges.maxval.fits) in
    let samples = c.in_ok-samples.samples.items in
    let made = c.in_ok-samples.ensures.values in
    let behind = c.min-whole.result * c.sample_width-width.result in
    enough_gives m small c.args.text.now samples c.args.count
    (first_values m c.args.count c.min-whole.result c.sample_width-width.result small c.args.text.now samples
    c.sample_width-width.ensures
    c.min-whole.ensures made.length made.values)
    (ap (list_any (λ s. nat_lt m s)) (sym c.deref.ensures.value) ∙ sym c.is_value_above.ensures
    ∙ c.if-is_value_above.false)
    (subst (λ (n : ℕ). c.args.count ≤ n) (sym made.length) c.if-whole-count.false)
    ∙ ap (λ (n : ℕ). Ok (samples, drop (n * sample_width (is_wide m)) c.args.text.now)) made.length
    ∙ ap (λ (n : ℕ). Ok (samples, drop (c.min-whole.result * n) c.args.text.now)) (sym c.sample_width-width.ensures)
    ∙ ap (λ (t : List ℕ). Ok (samples, t)) (sym (take_rest c.args.text.now behind))

pub returns-clause-made : goal.returns-clause-made
returns-clause-made c =
    let m = c.args.maxval in
    let small : m ≤ max_level = omega (arith, c.ranges.maxval.fits) in
    let whole : c.args.count ≤ c.min-whole.result = c.if-whole-count.false in
    record {
      length = omega (arith, c.in_ok-samples.ensures.values.length, c.min-whole.ensures, whole);
      range = all_within m small c.in_ok-samples.samples.items
          (ap (list_any (λ s. nat_lt m s)) (sym c.deref.ensures.value) ∙ sym c.is_value_above.ensures
          ∙ c.if-is_value_above.false);
    }
