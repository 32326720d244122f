use Rattle.std.proofs.Common.{arith}
use Rattle.std.proofs.{Common.◌≤◌, Common.sym, Common.subst, Common.All, lemmas.List.Elements.All-drop}
use Rattle.spd_codec.proofs.Prints.{holds_more}
use Rattle.std.proofs.lemmas.Grind.{common_steps}
use Rattle.spd_codec.proofs.print.add_samples.Goals as goal

pub loop-rest-preserved : goal.loop-rest-preserved
loop-rest-preserved c =
    let rest = c.loop-rest.rest.now in
    record {
      holds = λ m h. holds_more c.loop-rest.hasher c.add_part.new.hasher c.args.maxval c.min.result
          c.args.samples.now rest c.split_at.result.0.now c.split_at.result.1.now m c.split_at.ensures.front
          c.split_at.ensures.back c.add_part.ensures (c.loop-rest.invariant.holds m h);
      within = subst (All (λ s. s ≤ c.args.maxval)) (sym c.split_at.ensures.back)
          (All-drop (λ s. s ≤ c.args.maxval) c.min.result rest c.loop-rest.invariant.within);
    }

pub overflow_mul-block : goal.overflow_mul-block
overflow_mul-block c = grind (arith, common_steps)
