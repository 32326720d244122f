use Rattle.std.proofs.Common.{◌≡◌, true, false, refl, rules}
use Rattle.link_nodes.proofs.Answering.{for_this}
use Rattle.link_nodes.proofs.hearing.submit.Goals as goal

pub returns-then-not-is_for-clause-answer : goal.returns-then-not-is_for-clause-answer
returns-then-not-is_for-clause-answer c = λ datagram spells.
    let other : c.is_for.result ≡ false = search rules in
    ((c.args.frame, spells, λ has. let same = c.is_for.ensures.1 has in absurd cc), refl)

pub returns-in-Ok-clause-answer : goal.returns-in-Ok-clause-answer
returns-in-Ok-clause-answer c = λ datagram spells.
    let same : c.is_for.result ≡ true = search rules in (
      c.args.frame.delta,
      for_this datagram c.args.frame c.args.conn c.args.print.now spells (c.is_for.ensures.0 same),
      c.in-Ok.ensures.ok,
    )

pub returns-in-Err-clause-answer : goal.returns-in-Err-clause-answer
returns-in-Err-clause-answer c = λ datagram spells.
    let same : c.is_for.result ≡ true = search rules in (
      c.args.frame.delta,
      for_this datagram c.args.frame c.args.conn c.args.print.now spells (c.is_for.ensures.0 same),
      c.in-Err.ensures.full,
      c.in-Err.ensures.err,
    )
