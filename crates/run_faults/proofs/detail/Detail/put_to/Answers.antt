use Rattle.std.proofs.Common.{List, ℕ, Err, ◌++◌, append_assoc, subst, sym, codes, decimal}
use Rattle.std.proofs.lemmas.Result.{err_from_is_err_and}
use Rattle.stroke_core.specs.Code.{code_of}
use Rattle.byte_devices.specs.Transfer.{PutsAll}
use Rattle.run_faults.proofs.Lines.{goes_on, stops}
use Rattle.run_faults.proofs.detail.Detail.put_to.Goals as goal

pub returns-in_err-put_number-in-LineAndStroke : goal.returns-in_err-put_number-in-LineAndStroke
returns-in_err-put_number-in-LineAndStroke g c =
    let p = err_from_is_err_and c.from_residual.result c.from_residual.ensures.1 in
    let number = codes " " ++ decimal c.in-LineAndStroke.n in
    let why = code_of c.in-LineAndStroke.why in
    rw (p.1, c.in-LineAndStroke.is) (subst (λ (text : List ℕ). PutsAll (Err p.0) (g.K.Sink.seen c.args.sink.now)
    (g.K.Sink.seen c.put_number-in-LineAndStroke.new.sink) text) (sym (append_assoc number (codes " ") why))
    (stops c.in_err-put_number-in-LineAndStroke.field-0.0 p.0 _ _ number (codes " " ++ why)
    c.in_err-put_number-in-LineAndStroke.ensures))

pub returns-in_ok-put_number-in-LineAndStroke : goal.returns-in_ok-put_number-in-LineAndStroke
returns-in_ok-put_number-in-LineAndStroke g c =
    let number = codes " " ++ decimal c.in-LineAndStroke.n in
    let why = code_of c.in-LineAndStroke.why in
    let old = g.K.Sink.seen c.args.sink.now in
    let middle = g.K.Sink.seen c.put_number-in-LineAndStroke.new.sink in
    let new = g.K.Sink.seen c.put_word.new.sink in
    let why_put = subst (λ (word : List ℕ). PutsAll c.put_word.result middle new (codes " " ++ word)) c.code.ensures
    c.put_word.ensures in
    rw c.in-LineAndStroke.is (subst (λ (text : List ℕ). PutsAll c.put_word.result old new text)
    (sym (append_assoc number (codes " ") why)) (goes_on c.put_word.result old middle new number (codes " " ++ why)
    c.in_ok-put_number-in-LineAndStroke.ensures why_put))
