use Rattle.std.proofs.Common.{◌≡◌, ◌≤◌, ◌+◌, sum_by}
use Rattle.stroke_core.specs.Seed.{byte_len_of}
use Rattle.stroke_lattice.specs.Pieces.{strokes_of}
use Rattle.spd_codec.specs.Spelling.{max_bytes}
use Rattle.spd_codec.proofs.writing.strokes_len.Given as goal

abbrev pub invariant-loop-stroke : goal.invariant-loop-stroke
invariant-loop-stroke l = record {
  sum : l.length + sum_by (λ e. byte_len_of e.1.shape) l.stroke-iterator
      ≡ 41 + sum_by (λ e. byte_len_of e.1.shape) (strokes_of l.delta);
  within : l.length ≤ max_bytes;
}
