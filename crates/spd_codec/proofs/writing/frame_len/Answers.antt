use Rattle.std.proofs.Common.{◌≡◌, length, ap, ◌∙◌, arith}
use Rattle.stroke_lattice.specs.Pieces.{tombstones_of}
use Rattle.spd_codec.proofs.Lengths.{frame_length_is}
use Rattle.spd_codec.proofs.writing.frame_len.Goals as goal

pub returns : goal.returns
returns c =
    let all = c.walks_give_one_list.ensures.tombstones c.args.delta.now c.tombstones.result
    c.tombstones.ensures.tombstones in
    let count : c.len.result ≡ length (tombstones_of c.args.delta.now) = c.len.ensures.value ∙ ap length all in
    let whole = frame_length_is c.args.delta.now in
    omega (
      arith,
      c.saturating_mul-tombstones.ensures,
      c.strokes_len.ensures,
      c.saturating_add-length.ensures,
      c.min.ensures,
    )
