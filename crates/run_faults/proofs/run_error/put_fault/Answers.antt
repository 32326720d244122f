use Rattle.std.proofs.Common.{List, ℕ, [], ◌∷◌, ◌++◌, Ok, Err, subst, ◌∙◌, codes}
use Rattle.std.proofs.lemmas.Result.{err_from_is_err_and}
use Rattle.byte_devices.specs.Transfer.{PutsAll}
use Rattle.run_faults.specs.RunError.{code_of, detail_of, detail_text}
use Rattle.run_faults.specs.declared.detail.Detail.{Detail}
use Rattle.run_faults.proofs.Lines.{goes_on, stops}
use Rattle.run_faults.proofs.run_error.put_fault.Goals as goal

pub returns-in_err-put_all : goal.returns-in_err-put_all
returns-in_err-put_all g c =
    let p = err_from_is_err_and c.from_residual.result c.from_residual.ensures.1 in
    let code = code_of c.args.error.now in
    let detail = detail_text (detail_of c.args.error.now) in
    rw p.1 (stops p.0 p.0 _ _ (codes "seedpaint: " ++ code ++ detail) (10 ∷ [])
    (stops p.0 p.0 _ _ (codes "seedpaint: " ++ code) detail
    (stops c.in_err-put_all.field-0.0 p.0 _ _ (codes "seedpaint: ") code c.in_err-put_all.ensures)))

pub returns-in_err-put_all-2 : goal.returns-in_err-put_all-2
returns-in_err-put_all-2 g c =
    let p = err_from_is_err_and c.from_residual-in_err-put_all-2.result c.from_residual-in_err-put_all-2.ensures.1 in
    let code = code_of c.args.error.now in
    let detail = detail_text (detail_of c.args.error.now) in
    let fault = c.in_err-put_all-2.field-0.0 in
    let old = g.K.Sink.seen c.args.sink.now in
    let one = g.K.Sink.seen c.put_all.new.sink in
    let two = g.K.Sink.seen c.put_all-2.new.sink in
    let code_put = subst (λ (word : List ℕ). PutsAll (Err fault) one two word)
    (c.as_bytes.ensures.value ∙ c.code.ensures) c.in_err-put_all-2.ensures in
    rw p.1 (stops p.0 p.0 _ _ (codes "seedpaint: " ++ code ++ detail) (10 ∷ [])
    (stops fault p.0 _ _ (codes "seedpaint: " ++ code) detail
    (goes_on (Err fault) old one two (codes "seedpaint: ") code c.in_ok-put_all.ensures code_put)))

pub returns-in_err-put_to : goal.returns-in_err-put_to
returns-in_err-put_to g c =
    let p = err_from_is_err_and c.from_residual-in_err-put_to.result c.from_residual-in_err-put_to.ensures.1 in
    let code = code_of c.args.error.now in
    let detail = detail_text (detail_of c.args.error.now) in
    let fault = c.in_err-put_to.field-0.0 in
    let old = g.K.Sink.seen c.args.sink.now in
    let one = g.K.Sink.seen c.put_all.new.sink in
    let two = g.K.Sink.seen c.put_all-2.new.sink in
    let three = g.K.Sink.seen c.put_to.new.sink in
    let code_put = subst (λ (word : List ℕ). PutsAll (Ok tt) one two word)
    (c.as_bytes.ensures.value ∙ c.code.ensures) c.in_ok-put_all-2.ensures in
    let detail_put = subst (λ (d : Detail). PutsAll (Err fault) two three (detail_text d)) c.detail.ensures
    c.in_err-put_to.ensures in
    rw p.1 (stops fault p.0 _ _ (codes "seedpaint: " ++ code ++ detail) (10 ∷ [])
    (goes_on (Err fault) old two three (codes "seedpaint: " ++ code) detail
    (goes_on (Ok tt) old one two (codes "seedpaint: ") code c.in_ok-put_all.ensures code_put) detail_put))

pub returns : goal.returns
returns g c =
    let code = code_of c.args.error.now in
    let detail = detail_text (detail_of c.args.error.now) in
    let old = g.K.Sink.seen c.args.sink.now in
    let one = g.K.Sink.seen c.put_all.new.sink in
    let two = g.K.Sink.seen c.put_all-2.new.sink in
    let three = g.K.Sink.seen c.put_to.new.sink in
    let new = g.K.Sink.seen c.put_all-3.new.sink in
    let code_put = subst (λ (word : List ℕ). PutsAll (Ok tt) one two word)
    (c.as_bytes.ensures.value ∙ c.code.ensures) c.in_ok-put_all-2.ensures in
    let detail_put = subst (λ (d : Detail). PutsAll (Ok tt) two three (detail_text d)) c.detail.ensures
    c.in_ok-put_to.ensures in
    goes_on c.put_all-3.result old three new (codes "seedpaint: " ++ code ++ detail) (10 ∷ [])
    (goes_on (Ok tt) old two three (codes "seedpaint: " ++ code) detail
    (goes_on (Ok tt) old one two (codes "seedpaint: ") code c.in_ok-put_all.ensures code_put) detail_put)
    c.put_all-3.ensures
