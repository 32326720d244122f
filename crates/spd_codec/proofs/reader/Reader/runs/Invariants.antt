use Rattle.std.proofs.Common.{◌≡◌, ◌-◌, None}
use Rattle.spd_codec.specs.Reading.{many_at, run_at, onto}
use Rattle.spd_codec.proofs.Loops.{push}
use Rattle.spd_codec.proofs.reader.Reader.runs.Given as goal

abbrev pub invariant-loop : goal.invariant-loop
invariant-loop l = onto push l.runs.items
    (many_at (λ run. run) run_at (l.count - l.counter) l.last l.self.rest.now) ≡ many_at (λ run. run) run_at l.count
    None l.fn.self.rest.now
