use Rattle.std.proofs.{Common.List, Common.ℕ, Common.subst, Common.codes, lemmas.Result.err_from_is_err_and}
use Rattle.byte_devices.specs.Transfer.{PutsAll}
use Rattle.run_faults.proofs.Lines.{goes_on, stops}
use Rattle.run_faults.proofs.detail.put_word.Goals as goal

pub returns-in_err-put_all : goal.returns-in_err-put_all
returns-in_err-put_all g c =
    let p = err_from_is_err_and c.from_residual.result c.from_residual.ensures.1 in
    rw p.1 (stops c.in_err-put_all.field-0.0 _ _ _ (codes " ") c.args.word.now c.in_err-put_all.ensures)

pub returns : goal.returns
returns g c =
    let middle = g.K.Sink.seen c.put_all.new.sink in
    let new = g.K.Sink.seen c.put_all-2.new.sink in
    goes_on c.put_all-2.result _ middle new (codes " ") c.args.word.now c.in_ok-put_all.ensures
    (subst (λ (word : List ℕ). PutsAll c.put_all-2.result middle new word) c.as_bytes.ensures.value c.put_all-2.ensures)
