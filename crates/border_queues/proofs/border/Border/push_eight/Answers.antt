use Rattle.std.proofs.Common.{◌≡◌, ◌+◌, List, [], ◌++◌, ap, ◌∙◌, true, arith, nat_lt, if◌then◌else◌}
use Rattle.grid_core.specs.{declared.conn.Conn.TheVariants.Eight, declared.pixel.Pixel.Pixel}
use Rattle.grid_core.specs.Rows.{pixel_if, row_around}
use Rattle.border_queues.specs.{declared.hint.Hint.Hint, Borders.around, Borders.sender_of, Borders.told_to}
use Rattle.border_queues.proofs.Told.{told_around}
use Rattle.border_queues.proofs.border.Border.push_eight.Goals as goal

pub returns : goal.returns
returns c =
    let b = c.args.self.now in
    let x = c.args.x in
    let y = c.args.y in
    let old = c.args.out.now.hints in
    let to : List Pixel → List Hint = told_to b c.args.value in
    let above : List Pixel =
    if nat_lt 0 y then row_around b.tiling.width x c.saturating_sub.result true true else [] in
    let left : List Pixel = pixel_if (nat_lt 0 x) c.saturating_sub-2.result y in
    let right : List Pixel = pixel_if (nat_lt (x + 1) c.width.result) (x + 1) y in
    let below : List Pixel =
    if nat_lt (y + 1) c.height.result then row_around b.tiling.width x (y + 1) true true else [] in
    let same : old ++ to (above ++ (left ++ [] ++ right) ++ below) ≡ old ++ to (around b Eight x y) = λ i.
    old ++ to ((if nat_lt 0 y then row_around b.tiling.width x (c.saturating_sub.ensures i) true true else [])
    ++ (pixel_if (nat_lt 0 x) (c.saturating_sub-2.ensures i) y ++ []
    ++ pixel_if (nat_lt (x + 1) (c.width.ensures.value i)) (x + 1) y)
    ++ (if nat_lt (y + 1) (c.height.ensures.value i) then row_around b.tiling.width x (y + 1) true true else []))
    in
    record {
      behind =
          c.push_row-2.ensures.behind
          ∙ ap (λ hs. hs ++ to below) (c.push_if-2.ensures.behind
          ∙ ap (λ hs. hs ++ to right) (c.push_if.ensures.behind ∙ ap (λ hs. hs ++ to left) c.push_row.ensures.behind))
          ∙ told_around (sender_of b) c.args.value old above left right below
          ∙ same;
      room =
          omega (
            arith,
            c.push_row.ensures.room,
            c.push_if.ensures.room,
            c.push_if-2.ensures.room,
            c.push_row-2.ensures.room,
          );
      kept =
          omega (
            arith,
            c.push_row.ensures.kept,
            c.push_if.ensures.kept,
            c.push_if-2.ensures.kept,
            c.push_row-2.ensures.kept,
          );
    }
