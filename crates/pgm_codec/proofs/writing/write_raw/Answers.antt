use Rattle.std.proofs.Common.{arith, Err, IsErrAnd, IsOkUnless, Ok, Result, ◌≡◌}
use Rattle.std.proofs.lemmas.{Grind.common_steps, Result.IfOk-from_err}
use Rattle.pgm_codec.specs.{Writing.raw_text, declared.error.PgmError.PgmError}
use Rattle.pgm_codec.specs.declared.error.PgmError.TheVariants.{Memory}
use Rattle.pgm_codec.proofs.Maxval.{samples_are_within}
use Rattle.pgm_codec.proofs.writing.write_raw.Goals as goal

-- memory ran out, and nothing else went wrong
only_memory : {T : Type 0} (r : Result T PgmError) → IsErrAnd r (λ e. e ≡ Memory) → IsOkUnless r Memory
only_memory (Ok x) found = absurd found
only_memory (Err e) found = found

pub returns-clause-text : goal.returns-clause-text
unfolding raw_text
returns-clause-text c = grind (arith, common_steps)

pub returns-in_err-header-clause-text : goal.returns-in_err-header-clause-text
returns-in_err-header-clause-text c = IfOk-from_err _ _ c.from_residual.ensures.0

pub returns-in_err-header-clause-only_memory : goal.returns-in_err-header-clause-only_memory
returns-in_err-header-clause-only_memory c = only_memory _ c.from_residual.ensures.1

pub returns-in_err-out-clause-text : goal.returns-in_err-out-clause-text
returns-in_err-out-clause-text c = IfOk-from_err _ _ c.from_residual-in_err-out.ensures.0

pub returns-in_err-out-clause-only_memory : goal.returns-in_err-out-clause-only_memory
returns-in_err-out-clause-only_memory c = only_memory _ c.from_residual-in_err-out.ensures.1

pub returns-in_err-extend_from_slice-clause-text : goal.returns-in_err-extend_from_slice-clause-text
returns-in_err-extend_from_slice-clause-text c = IfOk-from_err _ _ c.from_residual-in_err-extend_from_slice.ensures.0

pub returns-in_err-extend_from_slice-clause-only_memory : goal.returns-in_err-extend_from_slice-clause-only_memory
returns-in_err-extend_from_slice-clause-only_memory c = only_memory _ c.from_residual-in_err-extend_from_slice.ensures.1

pub returns-in_err-append_samples-clause-text : goal.returns-in_err-append_samples-clause-text
returns-in_err-append_samples-clause-text c = IfOk-from_err _ _ c.from_residual-in_err-append_samples.ensures.0

pub returns-in_err-append_samples-clause-only_memory : goal.returns-in_err-append_samples-clause-only_memory
returns-in_err-append_samples-clause-only_memory c = only_memory _ c.from_residual-in_err-append_samples.ensures.1

pub append_samples-requires : goal.append_samples-requires
append_samples-requires c = record {
  within = samples_are_within c.args.image.now c.samples-samples.result.now c.maxval-maxval.result
      c.samples-samples.ensures.is_graymap c.samples-samples.ensures.value c.maxval-maxval.ensures.value;
}
