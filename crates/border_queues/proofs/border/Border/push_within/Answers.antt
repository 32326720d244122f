use Rattle.std.proofs.Common.{◌++◌, append-nil, ap, sym, ◌∙◌, arith}
use Rattle.grid_core.specs.declared.pixel.Pixel.{Pixel}
use Rattle.border_queues.proofs.Bounded.{outside_tells_none}
use Rattle.border_queues.proofs.border.Border.push_within.Goals.{else-self-x-via-then-self-x+else-x-self}
use Rattle.border_queues.proofs.border.Border.push_within.Goals.{else-self-x-via-else-self-x}
use Rattle.border_queues.proofs.border.Border.push_within.Goals as goal

pub returns-else-self-x : goal.returns-else-self-x
returns-else-self-x c =
    let p : Pixel = record { x = c.args.x; y = c.args.y } in
    let none = outside_tells_none c.args.self.now p c.requires.ready.border c.neighbours_by_rows.ensures c.requires.own
    (λ within. elim c.else-self-x.branch [
      | else-self-x-via-then-self-x+else-x-self w ↦ omega (arith, within, w.if-x-self.false)
      | else-self-x-via-else-self-x w ↦ omega (arith, within, w.if-self-x.false)
    ])
    in
    record {
      behind = sym (ap (λ hs. c.args.out.now.hints ++ hs) none ∙ append-nil c.args.out.now.hints);
      room = omega arith;
      kept = omega arith;
    }
