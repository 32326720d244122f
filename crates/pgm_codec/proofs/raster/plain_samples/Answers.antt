use Rattle.std.proofs.Common.{◌≡◌, ◌≤◌, ◌++◌, ◌∷◌, [], inr, arith, length-append}
use Rattle.std.proofs.{lemmas.Result.err_from_is_err_and, lemmas.List.Elements.All-push}
use Rattle.pgm_codec.specs.{declared.grammar.Encoding.TheVariants.Plain, Reading.samples_at}
use Rattle.pgm_codec.proofs.SampleLoop.{goes_on, fails, is_done}
use Rattle.pgm_codec.proofs.raster.plain_samples.Goals as goal

pub returns-in_err-s-clause-read : goal.returns-in_err-s-clause-read
returns-in_err-s-clause-read c =
    let p = err_from_is_err_and c.from_residual-in_err-s.result c.from_residual-in_err-s.ensures.1 in
    let all = samples_at Plain c.args.maxval c.args.count c.args.text.now in
    rw (p.1, p.2) (inr (fails Plain c.args.maxval c.in_err-s.field-0.0 c.loop.samples.items c.args.count c.loop.counter
    c.loop.rest.now all c.loop-test.true c.in_err-s.ensures.read c.loop.invariant.read))

pub loop-preserved : goal.loop-preserved
loop-preserved c =
    let e : c.push.new.self.items ≡ c.loop.samples.items ++ c.in_ok-s.s ∷ [] = c.in_ok-push.ensures.items in
    let all = samples_at Plain c.args.maxval c.args.count c.args.text.now in
    record {
      read = rw e (goes_on Plain c.args.maxval c.loop.samples.items c.args.count c.loop.counter c.loop.rest.now
          c.in_ok-s.s c.in_ok-s.after.now all c.loop-test.true c.in_ok-s.ensures.read c.loop.invariant.read);
      len = rw (e, length-append) (omega arith);
      range = rw e (All-push (λ s. s ≤ c.args.maxval) c.loop.samples.items c.in_ok-s.s c.loop.invariant.range
          c.in_ok-s.ensures.range);
    }

pub returns-clause-read : goal.returns-clause-read
returns-clause-read c =
    is_done Plain c.args.maxval c.loop.samples.items c.args.count c.loop.counter c.loop.rest.now
    (samples_at Plain c.args.maxval c.args.count c.args.text.now) c.loop-test.false c.loop.invariant.read
