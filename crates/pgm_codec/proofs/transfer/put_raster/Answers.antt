use Rattle.std.proofs.Common.{◌≤◌, ◌∙◌, arith, rules, flat_map}
use Rattle.std.proofs.lemmas.List.Elements.{All-drop}
use Rattle.byte_devices.specs.Transfer.{AppendsFront}
use Rattle.byte_devices.proofs.Shared.{OnErr-always}
use Rattle.pgm_codec.specs.Writing.{sample_bytes}
use Rattle.pgm_codec.proofs.Blocks.{block_more, three_pieces, front_behind}
use Rattle.pgm_codec.proofs.transfer.put_raster.Goals as goal

pub returns-in_err-put_block : goal.returns-in_err-put_block
returns-in_err-put_block g c =
    let f = sample_bytes c.args.maxval in
    let old = g.K.Sink.seen c.args.sink.now in
    let mid = g.K.Sink.seen c.loop-rest.sink in
    let new = g.K.Sink.seen c.put_block.new.sink in
    let next = c.split_at.result.0.now in
    let behind = c.split_at.result.1.now in
    let (done, split, taken) = c.loop-rest.invariant.taken in
    let pieces = three_pieces f c.args.samples.now done c.loop-rest.rest.now next behind c.min.result split
    c.split_at.ensures.front c.split_at.ensures.back in
    let kept : AppendsFront old.written new.written (flat_map f c.args.samples.now) =
    front_behind (flat_map f c.args.samples.now) (flat_map f done) (flat_map f next) (flat_map f behind) old.written
    mid.written new.written pieces taken c.in_err-put_block.ensures.put.front in
    record {
      text = search rules;
      steady = search rules;
      fault = search rules;
      front = OnErr-always _ c.from_residual.result kept;
    }

pub loop-rest-preserved : goal.loop-rest-preserved
loop-rest-preserved g c =
    let before = c.loop-rest.invariant in
    let old = g.K.Sink.seen c.args.sink.now in
    let mid = g.K.Sink.seen c.loop-rest.sink in
    let new = g.K.Sink.seen c.put_block.new.sink in
    let rest = c.loop-rest.rest.now in
    let (done, split, taken) = before.taken in
    record {
      taken = block_more (sample_bytes c.args.maxval) c.args.samples.now done rest c.split_at.result.0.now
          c.split_at.result.1.now c.min.result old.written mid.written new.written split c.split_at.ensures.front
          c.split_at.ensures.back taken c.in_ok-put_block.ensures.put.text;
      within = rw c.split_at.ensures.back (All-drop (λ s. s ≤ c.args.maxval) c.min.result rest before.within);
      failures = c.in_ok-put_block.ensures.put.steady ∙ before.failures;
      room = omega (arith, before.room, c.put_block.ensures.len);
    }
