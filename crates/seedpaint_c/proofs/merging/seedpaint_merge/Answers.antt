use Rattle.std.proofs.Common.{◌≡◌, ◌⊎◌, ℕ, List, rules, subst}
use Rattle.run_faults.specs.RunError.{IsMemory}
use Rattle.seedpaint_c.specs.Merged.{MergingIsRefused}
use Rattle.seedpaint_c.proofs.Viewed.{is_ended_by, memory_is_not_refused}
use Rattle.seedpaint_c.proofs.merging.seedpaint_merge.Goals as goal

pub returns-in-Err-clause-ended : goal.returns-in-Err-clause-ended
returns-in-Err-clause-ended c =
    let conn = c.in-Some.connectivity in
    let e = c.in-Err.error in
    let refuses = λ (print : List ℕ). MergingIsRefused conn print c.args.w c.args.h c.args.old.now c.args.edits.now in
    let print_is : c.from_bytes-print.result ≡ c.args.print.now = search rules in
    λ _. record {
      conn = conn;
      named = c.in-Some.ensures;
      holds = is_ended_by (refuses c.args.print.now) IsMemory _ _ _ _ e (memory_is_not_refused e)
          (subst (λ (print : List ℕ). refuses print e ⊎ IsMemory e) print_is c.in-Err.ensures.ended)
          c.tell.ensures.refused c.tell.ensures.memory c.tell.ensures.line;
    }
