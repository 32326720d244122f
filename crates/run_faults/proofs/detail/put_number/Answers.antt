use Rattle.std.proofs.Common.{List, ℕ, ◌++◌, subst, codes}
use Rattle.byte_devices.specs.Transfer.{PutsAll}
use Rattle.run_faults.proofs.detail.put_number.Goals as goal

pub returns : goal.returns
returns g c =
    subst (λ (word : List ℕ). PutsAll c.put_word.result (g.K.Sink.seen c.args.sink.now)
    (g.K.Sink.seen c.put_word.new.sink) (codes " " ++ word)) c.format.ensures.text
    c.put_word.ensures
