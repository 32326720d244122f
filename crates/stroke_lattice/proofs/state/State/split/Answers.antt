use Rattle.std.proofs.Common.{arith}
use Rattle.stroke_lattice.specs.Filling.{filling}
use Rattle.stroke_lattice.proofs.Adding.{filling_begins}
use Rattle.stroke_lattice.proofs.state.State.split.Goals as goal

pub split_items-requires : goal.split_items-requires
split_items-requires c = record {
  least = c.requires;
  measured = c.new-pieces.ensures.measured;
  so_far = filling_begins c.args.max_bytes c.args.self.now (filling c.new-pieces.result) c.new-pieces.ensures.filling
      (omega arith);
}
