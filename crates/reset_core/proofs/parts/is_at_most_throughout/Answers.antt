-- What the tactics leave open of `is_at_most_throughout`.
use Rattle.std.proofs.{Common.◌+◌, Common.◌≤◌, Common.refl, Common.arith, lemmas.Bool.false≢true}
use Rattle.reset_core.proofs.AtOnce.{as_long, related_stretch, stretch_more}
use Rattle.reset_core.proofs.parts.is_at_most_throughout.Goals as goal

pub is_at_most-requires : goal.is_at_most-requires
is_at_most-requires c =
    let start = c.loop-start.start in
    as_long c.args.a.now c.args.b.now c.requires start (start + c.min.result) (omega arith) (omega arith)

pub returns-then-not-is_at_most : goal.returns-then-not-is_at_most
returns-then-not-is_at_most c =
    let start = c.loop-start.start in (
      λ h. absurd (false≢true h),
      λ related.
          c.if-not-is_at_most.ensures.1
          (related_stretch c.args.a.now c.args.b.now c.requires start (start + c.min.result) (omega arith)
          (omega arith) (λ a b. a ≤ b) related),
    )

pub loop-start-preserved : goal.loop-start-preserved
loop-start-preserved c =
    let start = c.loop-start.start in
    record {
      within = omega arith;
      alike =
          stretch_more c.args.a.now c.args.b.now c.requires start (start + c.min.result) (omega arith) (omega arith)
          (λ a b. a ≤ b) c.loop-start.invariant.alike (c.if-not-is_at_most.ensures.0 refl);
    }
