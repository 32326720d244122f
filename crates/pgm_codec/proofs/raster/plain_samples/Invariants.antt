use Rattle.std.proofs.Common.{◌≡◌, ◌≤◌, ◌-◌, length, All}
use Rattle.pgm_codec.specs.{declared.grammar.Encoding.TheVariants.Plain, Reading.samples_at}
use Rattle.pgm_codec.proofs.SampleLoop.{with_front}
use Rattle.pgm_codec.proofs.raster.plain_samples.Given as goal

abbrev pub invariant-loop : goal.invariant-loop
invariant-loop l = record {
  read : with_front l.samples.items (samples_at Plain l.maxval (l.count - l.counter) l.rest) ≡ samples_at Plain
      l.maxval l.count l.text;
  len : length l.samples.items ≡ l.counter;
  range : All (λ s. s ≤ l.maxval) l.samples.items;
}
