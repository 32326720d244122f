use Rattle.std.proofs.Common.{◌≡◌, ℕ, suc, ◌+◌, ◌-◌, ◌<◌, List, ◌++◌, ap, sym, ◌∙◌, append_assoc, arith, flat_map}
use Rattle.std.specs.List.{range_with_len}
use Rattle.grid_core.specs.RasterLaws.{NeighboursByRows}
use Rattle.border_queues.specs.{declared.hint.Hint.Hint, declared.border.Border.Border, OpenEdges.hints_from}
use Rattle.border_queues.specs.{OpenEdges.row_of, Borders.sender_of, Borders.IsBorder}
use Rattle.border_queues.proofs.{Interior.interior_tells_none, Interior.ends_told, Interior.end_told, Told.by_columns}
use Rattle.border_queues.proofs.border.Border.push_ends.Goals as goal

-- a row of more than one pixel tells what its ends tell
row_tells : (b : Border) (y : ℕ) → IsBorder b → NeighboursByRows → b.rect.y < y → y + 1 < b.rect.y + b.rect.h
    → 0 < b.rect.w - 1 → flat_map (hints_from (sender_of b)) (row_of b.rect y)
    ≡ hints_from (sender_of b) (record { x = b.rect.x; y = y })
    ++ hints_from (sender_of b) (record { x = b.rect.x + (b.rect.w - 1); y = y })
row_tells b y border by_rows above below wide =
    let f : ℕ → List Hint = λ x. hints_from (sender_of b) (record { x = x; y = y }) in
    let n : ℕ = b.rect.w - 2 in
    let wide_by_two : b.rect.w ≡ suc (suc n) = omega arith in
    let last : suc n ≡ b.rect.w - 1 = omega arith in
    by_columns (sender_of b) b.rect y ∙ ap (λ w. flat_map f (range_with_len b.rect.x w)) wide_by_two
    ∙ ends_told f b.rect.x n (λ k low high. interior_tells_none b (record { x = k; y = y }) border by_rows (record {
      left = low;
      right = omega arith;
      above = above;
      below = below;
    }))
    ∙ ap (λ k. f b.rect.x ++ f (b.rect.x + k)) last

pub returns-then-last-gt0 : goal.returns-then-last-gt0
returns-then-last-gt0 c =
    let b = c.args.self.now in
    let y = c.args.y in
    let first = hints_from (sender_of b) (record { x = b.rect.x; y = y }) in
    let last = hints_from (sender_of b) (record { x = b.rect.x + (b.rect.w - 1); y = y }) in
    record {
      behind = c.push_within-then-last-gt0.ensures.behind ∙ ap (λ hs. hs ++ last) c.push_within.ensures.behind
          ∙ append_assoc c.args.out.now.hints first last
          ∙ ap (λ hs. c.args.out.now.hints ++ hs) (sym (row_tells b y c.requires.ready.border
          c.neighbours_by_rows.ensures
          c.requires.between.0 c.requires.between.1 (omega arith)));
      room = omega (arith, c.push_within.ensures.room, c.push_within-then-last-gt0.ensures.room);
      kept = omega (arith, c.push_within.ensures.kept, c.push_within-then-last-gt0.ensures.kept);
    }

pub returns-else-last-gt0 : goal.returns-else-last-gt0
returns-else-last-gt0 c =
    let b = c.args.self.now in
    let y = c.args.y in
    let f : ℕ → List Hint = λ x. hints_from (sender_of b) (record { x = x; y = y }) in
    let one : b.rect.w ≡ 1 = omega arith in
    record {
      behind = c.push_within.ensures.behind
          ∙ ap (λ hs. c.args.out.now.hints ++ hs) (sym (by_columns (sender_of b) b.rect y
          ∙ ap (λ w. flat_map f (range_with_len b.rect.x w)) one ∙ end_told f b.rect.x));
      room = omega (arith, c.push_within.ensures.room);
      kept = c.push_within.ensures.kept;
    }
