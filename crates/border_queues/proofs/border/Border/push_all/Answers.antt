use Rattle.std.proofs.Common.{◌≡◌, ◌-◌, ◌*◌, ◌++◌, ap, ◌∙◌, inl, inr, arith, flat_map}
use Rattle.std.specs.List.{range_with_len}
use Rattle.border_queues.specs.{Waiting.AddsWithin, Borders.hints_of_row}
use Rattle.border_queues.proofs.{Bounded.rows_told, Told.told_next}
use Rattle.border_queues.proofs.border.Border.push_all.Goals.{then-y-last, else-y-last}
use Rattle.border_queues.proofs.border.Border.push_all.Goals as goal

pub loop-y-preserved : goal.loop-y-preserved
loop-y-preserved c =
    let b = c.args.self.now in
    let y = c.loop-y.y in
    let invariant = c.loop-y.invariant in
    let lie = c.requires.border.lie in
    let now_told = λ (behind : c.if-y-last.out.hints ≡ c.loop-y.out.hints ++ hints_of_row b y).
    behind ∙ ap (λ hs. hs ++ hints_of_row b y) invariant.hints
    ∙ told_next (hints_of_row b) c.args.out.now.hints b.bounds.top y c.loop-y.auto.y in
    elim c.if-y-last.branch [
      | then-y-last w ↦
          let told : AddsWithin c.loop-y.out c.if-y-last.out (hints_of_row b y) (8 * b.rect.w) =
          rw w.out-is w.push_line.ensures in
          elim w.if-y-last.either [
            | inl first ↦ record {
              upto = omega arith;
              hints = now_told told.behind;
              at_first = λ above. absurd (omega (arith, lie));
              before_last = λ more. omega (arith, told.room, invariant.at_first (omega (arith, first)));
              room = omega (arith, told.room, invariant.at_first (omega (arith, first)));
              kept = omega (arith, told.kept, invariant.kept);
            }
            | inr last ↦ record {
              upto = omega arith;
              hints = now_told told.behind;
              at_first = λ above. absurd (omega (arith, lie));
              before_last = λ more. absurd (omega (arith, last.1));
              room = omega (arith, told.room, lie, invariant.before_last (omega (arith, lie)));
              kept = omega (arith, told.kept, invariant.kept);
            }
          ]
      | else-y-last w ↦
          let told : AddsWithin c.loop-y.out c.if-y-last.out (hints_of_row b y) 16 =
          rw w.out-is w.push_ends.ensures in
          record {
            upto = omega arith;
            hints = now_told told.behind;
            at_first = λ above. absurd (omega (arith, lie));
            before_last = λ more. omega (arith, told.room, lie, invariant.before_last (omega (arith, lie)));
            room = omega (arith, told.room, lie, invariant.room);
            kept = omega (arith, told.kept, invariant.kept);
          }
    ]

pub returns : goal.returns
returns c =
    let b = c.args.self.now in
    let here : c.loop-y.y - b.bounds.top ≡ b.bounds.bottom - b.bounds.top =
    omega (arith, c.loop-y.invariant.upto) in
    record {
      behind = c.loop-y.invariant.hints
          ∙ ap (λ n. c.args.out.now.hints ++ flat_map (hints_of_row b) (range_with_len b.bounds.top n)) here
          ∙ ap (λ hs. c.args.out.now.hints ++ hs) (rows_told b c.requires.border c.neighbours_by_rows.ensures);
      kept = c.loop-y.invariant.kept;
    }
