use Rattle.std.proofs.Common.{◌<◌, ◌≤◌, ◌++◌, List, arith, sym, ap, ◌∙◌}
use Rattle.std.proofs.lemmas.List.{append-nil}
use Rattle.stroke_lattice.specs.{declared.split.TheConstants.HEAD_BYTES, State.State, Pieces.frame_length}
use Rattle.stroke_lattice.proofs.Adding.{piece_with_items, piece_without_items}
use Rattle.stroke_lattice.proofs.split.Pieces.finish.Goals as goal

pub returns-then-length-le-HEAD_BYTES : goal.returns-then-length-le-HEAD_BYTES
returns-then-length-le-HEAD_BYTES c =
    let short : frame_length c.args.self.last ≤ HEAD_BYTES = omega (arith, c.requires) in
    sym (ap (λ (pieces : List State). c.args.self.full.items ++ pieces) (piece_without_items c.args.self.last short)
    ∙ append-nil c.args.self.full.items)

pub returns : goal.returns
returns c =
    let longer : HEAD_BYTES < frame_length c.args.self.last = omega (arith, c.requires) in
    c.in_ok-push.ensures.items
    ∙ ap (λ (pieces : List State). c.args.self.full.items ++ pieces) (sym (piece_with_items c.args.self.last longer))
