-- What the tactics leave open of `is_seen_below`.
use Rattle.std.proofs.Common.{◌≤◌, arith, sym}
use Rattle.reset_core.proofs.AtOnce.{alike_at_once, as_many}
use Rattle.reset_core.proofs.parts.is_seen_below.Goals as goal

pub is_at_most_throughout-requires : goal.is_at_most_throughout-requires
is_at_most_throughout-requires c =
    sym (as_many c.args.rect c.args.whole.now c.args.piece.now c.cells.result.now c.full_rows.result.now
    c.cells.ensures.values c.cells.ensures.sized.filled c.requires.width c.requires.height c.full_rows.ensures)

pub returns : goal.returns
returns c =
    let rect = c.args.rect in
    let piece = c.args.piece.now in
    let values = c.cells.ensures.values in
    let filled = c.cells.ensures.sized.filled in
    let count =
    as_many rect c.args.whole.now piece c.cells.result.now c.full_rows.result.now values filled c.requires.width
    c.requires.height c.full_rows.ensures in
    λ below.
    alike_at_once rect c.args.whole.now piece c.cells.result.now c.full_rows.result.now values filled
    c.requires.width c.requires.height c.full_rows.ensures (λ a b. b ≤ a)
    (λ k within. c.is_at_most_throughout.ensures.0 below k (omega (arith, within, count)))
