use Rattle.std.proofs.Common.{◌≡◌, ◌∙◌, ℕ, List, Bool, true, not, ap, arith, if◌then◌else◌}
use Rattle.std.proofs.lemmas.Result.{err_from_is_err_and}
use Rattle.command_line.proofs.{Calls.reads_value, Ports.port_read, Ports.port_refused, Ports.ports_read}
use Rattle.command_line.proofs.words.node.ports_of.Goals as goal

chosen : (b : Bool) (items more same : List ℕ) → items ≡ (if b then more else same) → b ≡ true → items ≡ more
chosen b items more same is holds = cc

pub returns-in_err-port : goal.returns-in_err-port
returns-in_err-port c =
    let p = err_from_is_err_and c.from_residual.result c.from_residual.ensures.1 in
    rw (p.1, p.2) (port_refused c.args.texts.now c.loop-text.text-index _ c.in_err-port.field-0.0
    (omega (arith, c.loop-text-test.true)) c.in_err-port.ensures)

pub loop-text-preserved : goal.loop-text-preserved
loop-text-preserved c =
    port_read c.args.texts.now c.loop-text.text-index _ c.in_ok-port.port c.loop-text.ports.items
    c.push.new.self.items (omega (arith, c.loop-text-test.true)) c.in_ok-port.ensures.said c.loop-text.invariant
    (chosen _ _ _ _ c.push.ensures.items (c.is_err.ensures.negation ∙ ap not c.if-is_err.false))

pub returns : goal.returns
returns c =
    reads_value _ _ (ports_read c.args.texts.now c.loop-text.text-index c.loop-text.ports.items
    (omega (arith, c.loop-text-test.false, c.loop-text.auto.text-index-end)) c.loop-text.invariant)
