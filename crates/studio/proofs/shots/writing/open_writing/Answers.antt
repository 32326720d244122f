use Rattle.std.proofs.Common.{ap, sym, ◌∙◌, arith}
use Rattle.std.specs.Arc.{arc_value}
use Rattle.studio.specs.{History.whole, Publishing.published}
use Rattle.studio.proofs.Keeping.{starts, told_unless_err}
use Rattle.studio.proofs.shots.writing.open_writing.Goals as goal

pub new-requires-clause-rule : goal.new-requires-clause-rule
new-requires-clause-rule g c =
    starts (record { shot = arc_value c.in_ok-try_clone.field-0; prefix = c.again.result })
    (arc_value c.args.shot) c.in_ok-try_clone.ensures
    (ap (λ p. whole p.reached.log) c.again.ensures ∙ c.requires.prefix) c.requires.sound

pub new-requires-clause-alike : goal.new-requires-clause-alike
new-requires-clause-alike g c =
    let prefix = c.again.ensures ∙ sym c.again-2.ensures in
    λ i. record { shot = c.in_ok-try_clone.ensures i; prefix = prefix i }

pub new-requires-clause-readers : goal.new-requires-clause-readers
new-requires-clause-readers g c = (c.requires.eyes.0, omega (arith, c.requires.eyes.1))

pub returns-clause-value : goal.returns-clause-value
returns-clause-value g c =
    c.publish_again-writing.ensures.value ∙ ap published c.in_ok-writing.ensures.0
    ∙ (λ i. record { shot = c.in_ok-try_clone.ensures i; prefix = c.again.ensures i })

pub returns-clause-known : goal.returns-clause-known
returns-clause-known g c =
    told_unless_err c.publish_again-writing.result.1 _ c.publish_again-writing.ensures.known c.if-is_err.ensures.value
