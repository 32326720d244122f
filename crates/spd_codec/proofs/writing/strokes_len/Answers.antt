use Rattle.std.proofs.Common.{◌≡◌, ℕ, ◌+◌, List, ap, ◌∙◌, arith, sum_by}
use Rattle.stroke_core.specs.Seed.{Seed, byte_len_of}
use Rattle.stroke_lattice.specs.Pieces.{strokes_of}
use Rattle.std.proofs.lemmas.Grind.{common_steps}
use Rattle.spd_codec.proofs.writing.strokes_len.Goals as goal

pub loop-stroke-init : goal.loop-stroke-init
loop-stroke-init c =
    let all : c.into_iter-stroke-iterator.result ≡ strokes_of c.args.delta.now =
    c.into_iter-stroke-iterator.ensures.into_iter_gives
    ∙ c.walks_give_one_list.ensures.strokes c.args.delta.now c.strokes-stroke-items.result
    c.strokes-stroke-items.ensures.strokes in
    record {
      sum = ap (λ (es : List (ℕ × Seed)). 41 + sum_by (λ e. byte_len_of e.1.shape) es) all;
      within = omega arith;
    }

pub returns-then-length-gt-MAX_BYTES : goal.returns-then-length-gt-MAX_BYTES
returns-then-length-gt-MAX_BYTES c = grind (arith, common_steps)

pub loop-stroke-preserved : goal.loop-stroke-preserved
loop-stroke-preserved c = grind (arith, common_steps)
