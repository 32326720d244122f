use Rattle.std.proofs.{Common.None, Common.inr, lemmas.Result.err_from_is_err_and}
use Rattle.spd_codec.specs.Reading.{many_at, run_at}
use Rattle.spd_codec.proofs.Loops.{push, goes_on, ends, is_done, starts}
use Rattle.spd_codec.proofs.reader.Reader.runs.Goals as goal

pub loop-init : goal.loop-init
loop-init c = rw c.in_ok-runs.ensures.items (starts (λ run. run) run_at c.args.count None c.args.self.now.rest.now)

pub returns-in_err-run : goal.returns-in_err-run
returns-in_err-run c =
    let p = err_from_is_err_and c.from_residual-in_err-run.result c.from_residual-in_err-run.ensures.1 in
    let all = many_at (λ run. run) run_at c.args.count None c.args.self.now.rest.now in
    rw (p.1, p.2) (inr (ends push (λ run. run) run_at c.loop.runs.items c.args.count c.loop.counter c.loop.last
    c.loop.self.rest.now c.in_err-run.field-0.0 all c.loop-test.true c.in_err-run.ensures c.loop.invariant))

pub loop-preserved : goal.loop-preserved
loop-preserved c =
    let all = many_at (λ run. run) run_at c.args.count None c.args.self.now.rest.now in
    rw c.in_ok-push.ensures.items (goes_on push (λ run. run) run_at c.loop.runs.items c.args.count c.loop.counter
    c.loop.last
    c.loop.self.rest.now c.in_ok-run.run' c.run.new.self.rest.now all c.loop-test.true c.in_ok-run.ensures
    c.loop.invariant)

pub returns : goal.returns
returns c =
    is_done push (λ run. run) run_at c.loop.runs.items c.args.count c.loop.counter c.loop.last c.loop.self.rest.now
    (many_at (λ run. run) run_at c.args.count None c.args.self.now.rest.now) c.loop-test.false c.loop.invariant
