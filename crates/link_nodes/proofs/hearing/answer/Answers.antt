use Rattle.std.proofs.Common.{refl}
use Rattle.link_nodes.proofs.Answering.{refused_for}
use Rattle.link_nodes.proofs.hearing.answer.Goals as goal

pub returns-in-Err-clause-answer : goal.returns-in-Err-clause-answer
returns-in-Err-clause-answer c =
    let datagram = c.args.datagram.now in (
      c.refusal.ensures c.args.conn c.args.print.now datagram
          (refused_for datagram c.in-Err.fault c.in-Err.ensures.too_long.1 c.in-Err.ensures.fault),
      refl,
    )
