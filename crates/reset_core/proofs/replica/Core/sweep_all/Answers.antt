use Rattle.std.proofs.Common.{[], refl, subst, arith}
use Rattle.core_rules.specs.{Work.Core, Runs.IsDirty}
use Rattle.reset_core.proofs.Settling.{quiet_from, all_worked_off}
use Rattle.std.proofs.lemmas.Grind.{common_steps}
use Rattle.reset_core.proofs.replica.Core.sweep_all.Goals as goal

pub returns-in_default-clause-works : goal.returns-in_default-clause-works
returns-in_default-clause-works c =
    let none = subst (λ (core : Core). (t : _) → IsDirty core t → ⊥) c.self.view_is c.in_default.ensures in
    record {
      works = ([], refl, refl);
      quiet = quiet_from c.args.self.now c.requires.none_out c.requires.no_hints none;
    }

pub returns-clause-works : goal.returns-clause-works
returns-clause-works c =
    all_worked_off _ _ _ _ _ c.sweep_within.result c.sweep_within.ensures.works c.sweep_within.ensures.few (omega arith)

pub sweep_within-requires-clause-count : goal.sweep_within-requires-clause-count
sweep_within-requires-clause-count c = grind (arith, common_steps)
