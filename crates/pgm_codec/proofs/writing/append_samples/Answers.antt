use Rattle.std.proofs.{Common.◌≤◌, Common.◌∙◌, Common.Some, lemmas.List.Elements.All-drop}
use Rattle.pgm_codec.specs.Writing.{sample_bytes}
use Rattle.pgm_codec.proofs.Blocks.{block_more}
use Rattle.pgm_codec.proofs.writing.append_samples.Goals as goal

pub loop-rest-preserved : goal.loop-rest-preserved
loop-rest-preserved c =
    let before = c.loop-rest.invariant in
    let rest = c.loop-rest.rest.now in
    let (done, split, taken) = before.taken in
    record {
      taken = block_more (sample_bytes c.args.maxval) c.args.samples.now done rest c.split_at.result.0.now
          c.split_at.result.1.now c.min.result (Some c.args.out.now.items) (Some c.loop-rest.out.items)
          (Some c.append_block.new.out.items) split c.split_at.ensures.front c.split_at.ensures.back taken
          c.in_ok-append_block.ensures.items;
      within = rw c.split_at.ensures.back (All-drop (λ s. s ≤ c.args.maxval) c.min.result rest before.within);
      room = c.append_block.ensures.len ∙ before.room;
    }
