use Rattle.std.proofs.Common.{◌≡◌, ◌++◌, [], append-nil, ap, sym, ◌∙◌, inl, inr, arith, rules}
use Rattle.grid_core.specs.{declared.pixel.Pixel.Pixel, Rows.pixel_if}
use Rattle.border_queues.specs.Borders.{told_to}
use Rattle.border_queues.proofs.Interior.{own_told_none}
use Rattle.border_queues.proofs.border.Border.push_if.Goals as goal

pub push_outer-requires-clause-seen : goal.push_outer-requires-clause-seen
push_outer-requires-clause-seen c =
    let q : Pixel = record { x = c.args.x; y = c.args.y } in
    c.requires.ready.border.image q (c.requires.at (search rules)) c.requires.near

pub push_outer-requires-clause-limited : goal.push_outer-requires-clause-limited
push_outer-requires-clause-limited c =
    let q : Pixel = record { x = c.args.x; y = c.args.y } in
    c.requires.ready.border.mask q (c.requires.at (search rules)) c.requires.near

pub returns-else-wanted : goal.returns-else-wanted
returns-else-wanted c =
    let b = c.args.self.now in
    let q : Pixel = record { x = c.args.x; y = c.args.y } in
    let none : told_to b c.args.value (pixel_if c.args.wanted q.x q.y) ≡ [] = elim c.else-wanted.either [
      | inl both ↦
          ap (λ t. told_to b c.args.value (pixel_if t q.x q.y)) both.0
          ∙ own_told_none b c.args.value q c.requires.ready.border (search rules)
          ((c.requires.own (search rules)).0 (search rules))
      | inr unwanted ↦ ap (λ t. told_to b c.args.value (pixel_if t q.x q.y)) unwanted
    ] in
    record {
      behind = sym (ap (λ hs. c.args.out.now.hints ++ hs) none ∙ append-nil c.args.out.now.hints);
      room = omega arith;
      kept = omega arith;
    }
