use Rattle.std.proofs.Common.{◌≡◌, ◌<◌, ◌∙◌, List, ◌∷◌, [], ◌++◌, ap, sym, arith, length, take}
use Rattle.std.proofs.{lemmas.List.take_more, Math.Seq.take-length}
use Rattle.stroke_lattice.specs.State.{State}
use Rattle.edit_lang.proofs.text.deltas_of.Goals as goal

pub loop-line-preserved : goal.loop-line-preserved
loop-line-preserved c =
    let lines = c.args.lines.now in
    let i = c.loop-line.line-index in
    let line = c.line-item.result in
    let within : i < length lines = omega (arith, c.loop-line-test.true) in
    c.in_ok-push.ensures.items
    ∙ ap (λ (states : List State). states ++ c.in-Ok.delta ∷ []) c.loop-line.invariant
    ∙ ap (λ (s : State). take i lines ++ s ∷ []) c.in-Ok.ensures
    ∙ sym (take_more lines i line within ∙ ap (λ (s : State). take i lines ++ s ∷ []) (sym c.line-item.is))

pub returns : goal.returns
returns c =
    let lines = c.args.lines.now in
    let end : c.loop-line.line-index ≡ length lines =
    omega (arith, c.loop-line-test.false, c.loop-line.auto.line-index-end) in
    c.loop-line.invariant ∙ ap (λ n. take n lines) end ∙ take-length lines
