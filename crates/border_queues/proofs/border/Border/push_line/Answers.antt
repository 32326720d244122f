use Rattle.std.proofs.Common.{◌≡◌, ℕ, ◌-◌, List, ◌++◌, ap, ◌∙◌, arith, flat_map}
use Rattle.std.specs.List.{range_with_len}
use Rattle.border_queues.specs.{declared.hint.Hint.Hint, OpenEdges.hints_from, Borders.sender_of}
use Rattle.border_queues.proofs.{Bounded.columns_told, Told.told_next}
use Rattle.border_queues.proofs.border.Border.push_line.Goals as goal

pub push_from-requires : goal.push_from-requires
push_from-requires c =
    let border = c.requires.ready.border in
    record {
      ready = record {
        border = border;
        room = omega (arith, c.requires.ready.room, c.loop-x.invariant.room, border.lie);
      };
      own = (
        omega (arith, border.lie),
        omega (arith, border.lie),
        c.requires.row.0,
        c.requires.row.1,
      );
    }

pub loop-x-preserved : goal.loop-x-preserved
loop-x-preserved c =
    let b = c.args.self.now in
    let f : ℕ → List Hint = λ x. hints_from (sender_of b) (record { x = x; y = c.args.y }) in
    record {
      upto = omega arith;
      hints = c.push_from.ensures.behind ∙ ap (λ hs. hs ++ f c.loop-x.x) c.loop-x.invariant.hints
          ∙ told_next f c.args.out.now.hints b.bounds.left c.loop-x.x (omega arith);
      room = omega (arith, c.push_from.ensures.room, c.loop-x.invariant.room);
      kept = omega (arith, c.push_from.ensures.kept, c.loop-x.invariant.kept);
    }

pub returns : goal.returns
returns c =
    let b = c.args.self.now in
    let border = c.requires.ready.border in
    let f : ℕ → List Hint = λ x. hints_from (sender_of b) (record { x = x; y = c.args.y }) in
    let here : c.loop-x.x - b.bounds.left ≡ b.bounds.right - b.bounds.left =
    omega (arith, c.loop-x.invariant.upto) in
    record {
      behind = c.loop-x.invariant.hints
          ∙ ap (λ n. c.args.out.now.hints ++ flat_map f (range_with_len b.bounds.left n)) here
          ∙ ap (λ hs. c.args.out.now.hints ++ hs) (columns_told b c.args.y border c.neighbours_by_rows.ensures
          c.requires.row.0 c.requires.row.1);
      room = omega (arith, c.loop-x.invariant.room, border.lie, here);
      kept = c.loop-x.invariant.kept;
    }
