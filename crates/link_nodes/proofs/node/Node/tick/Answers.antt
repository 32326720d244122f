use Rattle.std.proofs.Common.{sym, subst}
use Rattle.core_dispatch.specs.{declared.pen.Pen.Pen, Pens.submitted}
use Rattle.link_nodes.specs.Hearing.{Hears}
use Rattle.link_nodes.proofs.Ticking.{past_pen}
use Rattle.link_nodes.proofs.node.Node.tick.Goals as goal

pub returns-clause-ticks : goal.returns-clause-ticks
returns-clause-ticks g c =
    let old = c.args.self.now in
    let new = c.send_next-sent.new.self in
    let seen = g.L.Link.seen in
    let between = seen c.hear-heard.new.link in
    record {
      between = between;
      heard = subst (λ (pen : Pen). Hears old.conn old.print (submitted old.pen) (submitted pen) (seen c.args.link.now)
          between c.hear-heard.result) (sym c.send_next-sent.ensures.pen) c.hear-heard.ensures.heard;
      sent = past_pen old new c.hear-heard.new.pen between (seen c.send_next-sent.new.link) c.send_next-sent.result
          c.send_next-sent.ensures.sent;
    }
