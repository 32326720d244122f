use Rattle.std.proofs.Common.{◌≡◌, ◌++◌, append-nil, ap, sym, ◌∙◌, arith}
use Rattle.grid_core.specs.declared.conn.Conn.TheVariants.{Eight, Four}
use Rattle.grid_core.specs.declared.pixel.Pixel.{Pixel}
use Rattle.border_queues.specs.{OpenEdges.hints_from, Borders.around, Borders.sender_of, Borders.told_to}
use Rattle.border_queues.proofs.Interior.{zero_tells_none}
use Rattle.border_queues.proofs.border.Border.push_from.Goals as goal

pub returns-then-value-eq0 : goal.returns-then-value-eq0
returns-then-value-eq0 c =
    let s = sender_of c.args.self.now in
    let p : Pixel = record { x = c.args.x; y = c.args.y } in
    let black : 0 ≡ s.image p = omega (arith, c.value-value.ensures) in
    record {
      behind = sym (ap (λ hs. c.args.out.now.hints ++ hs) (zero_tells_none s p black)
          ∙ append-nil c.args.out.now.hints);
      room = omega arith;
      kept = omega arith;
    }

pub returns-in-Four : goal.returns-in-Four
returns-in-Four c =
    let b = c.args.self.now in
    let conn : Four ≡ b.conn = sym c.in-Four.is in
    let same : told_to b c.value-value.result (around b Four c.args.x c.args.y)
    ≡ hints_from (sender_of b) (record { x = c.args.x; y = c.args.y }) = λ i.
    told_to b (c.value-value.ensures i) (around b (conn i) c.args.x c.args.y)
    in
    record {
      behind = c.push_four.ensures.behind ∙ ap (λ hs. c.args.out.now.hints ++ hs) same;
      room = c.push_four.ensures.room;
      kept = c.push_four.ensures.kept;
    }

pub returns-in-Eight : goal.returns-in-Eight
returns-in-Eight c =
    let b = c.args.self.now in
    let conn : Eight ≡ b.conn = sym c.in-Eight.is in
    let same : told_to b c.value-value.result (around b Eight c.args.x c.args.y)
    ≡ hints_from (sender_of b) (record { x = c.args.x; y = c.args.y }) = λ i.
    told_to b (c.value-value.ensures i) (around b (conn i) c.args.x c.args.y)
    in
    record {
      behind = c.push_eight.ensures.behind ∙ ap (λ hs. c.args.out.now.hints ++ hs) same;
      room = c.push_eight.ensures.room;
      kept = c.push_eight.ensures.kept;
    }
