use Rattle.std.proofs.Common.{◌≡◌, length, ap, ◌∙◌, arith}
use Rattle.stroke_lattice.specs.Pieces.{strokes_of, tombstones_of}
use Rattle.spd_codec.proofs.Lengths.{frame_length_is, as_many_bytes, frame_put, frame_spells}
use Rattle.spd_codec.proofs.writing.put_frame.Goals as goal

pub overflow_cast-len : goal.overflow_cast-len
overflow_cast-len c =
    let s = c.args.delta.now in
    let all = c.walks_give_one_list.ensures.strokes s c.strokes.result c.strokes.ensures.strokes in
    let count : c.len.result ≡ length (strokes_of s) = c.len.ensures.value ∙ ap length all in
    let whole = frame_length_is s in
    let few = as_many_bytes (strokes_of s) in
    omega (arith, c.requires.short)

pub overflow_cast-len-2 : goal.overflow_cast-len-2
overflow_cast-len-2 c =
    let s = c.args.delta.now in
    let all = c.walks_give_one_list.ensures.tombstones s c.tombstones.result c.tombstones.ensures.tombstones in
    let count : c.len-2.result ≡ length (tombstones_of s) = c.len-2.ensures.value ∙ ap length all in
    let whole = frame_length_is s in
    omega (arith, c.requires.short)

pub returns : goal.returns
returns c =
    let s = c.args.delta.now in
    let strokes = c.walks_give_one_list.ensures.strokes s c.strokes.result c.strokes.ensures.strokes in
    let tombstones = c.walks_give_one_list.ensures.tombstones s c.tombstones.result c.tombstones.ensures.tombstones in
    record {
      text = frame_put c.args.conn c.args.print.now s c.len.result c.len-2.result c.args.out.now.items
          c.put_head.new.out.items c.put_number.new.out.items c.put_number-2.new.out.items c.put_strokes.new.out.items
          c.put_tombstones.new.out.items (c.len.ensures.value ∙ ap length strokes)
          (c.len-2.ensures.value ∙ ap length tombstones) c.in_ok-put_head.ensures.text
          c.in_ok-put_number.ensures c.in_ok-put_number-2.ensures c.in_ok-put_strokes.ensures.text
          c.in_ok-put_tombstones.ensures.text;
      spells = frame_spells c.args.conn c.args.print.now s c.in_ok-put_head.ensures.print c.requires.short
          c.in_ok-put_strokes.ensures.fits c.in_ok-put_tombstones.ensures.fits;
    }
