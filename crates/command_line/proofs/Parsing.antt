-- What an answer of clap says of the words that it was given.
use Rattle.std.proofs.Common.{◌≡◌, ◌≢◌, true, List, [], inl, inr, length, refl, sym, ap, ◌∙◌, subst, ◌⊎◌, Result, Err}
use Rattle.std.proofs.lemmas.Result.{IfOk-weaker}
use Rattle.clap.specs.Words.{App, Text, HasMatchesOf, HasKind, fault_of, is_simple, is_simple_and_free, kind_of}
use Rattle.clap.specs.Words.{subcommand_of, subcommand_rows_of}
use Rattle.clap.specs.{declared.error.Error.Error, declared.parser.matches.ArgMatches.ArgMatches}
use Rattle.run_faults.specs.declared.run_error.RunError.{RunError}
use Rattle.command_line.specs.{Words.program, Words.IsCall, Words.Reads, Words.Says, declared.words.Call.Call}
use Rattle.command_line.proofs.Calls.{reads_none}
use Rattle.clap.specs.declared.error.kind.ErrorKind.TheVariants as parse
use Rattle.run_faults.specs.declared.run_error.RunError.TheVariants as errors

module _ (app : App) (is : app ≡ program) (words : List Text) (some : length words ≡ 0 → ⊥) where
  -- a call of some words is one that clap finds
  found : (call : Call) → Says words call
      → (fault_of program words ≡ []) × IsCall (subcommand_of program words) call
  found call (inl (none, view)) = absurd (some (ap length none))
  found call (inr parsed) = parsed

  free : is_simple_and_free app ≡ true
  free = subst (λ (a : App). is_simple_and_free a ≡ true) (sym is) refl

  simple : is_simple app ≡ true
  simple = subst (λ (a : App). is_simple a ≡ true) (sym is) refl

  -- what is read of the subcommand that clap found is read of the words
  pub read_by_clap : (matches : ArgMatches) → (is_simple_and_free app ≡ true → fault_of app words ≡ [])
      → HasMatchesOf app words matches → (result : Result Call RunError)
      → Reads (IsCall (subcommand_rows_of matches)) result → Reads (Says words) result
  read_by_clap matches kinds has result read =
      let none : fault_of program words ≡ [] = subst (λ (a : App). fault_of a words ≡ []) is (kinds free) in
      let rows : subcommand_rows_of matches ≡ subcommand_of program words =
      (has simple).1 ∙ ap (λ (a : App). subcommand_of a words) is in
      record {
        said = IfOk-weaker result _ (Says words) (λ call said. inr (none, subst (λ r. IsCall r call) rows said))
            read.said;
        refused = read.refused;
        usage = λ same call says. read.usage same call (subst (λ r. IsCall r call) (sym rows) (found call says).1);
      }

  -- and what clap refuses is want of memory, or words that say no call
  pub refused_by_clap : (error : Error) → (is_simple_and_free app ≡ true → HasKind (fault_of app words) error)
      → (e : RunError) → ((kind_of error ≡ parse.OutOfMemory) × (e ≡ errors.Memory))
      ⊎ ((kind_of error ≢ parse.OutOfMemory) × (e ≡ errors.Usage)) → Reads (Says words) (Err e)
  refused_by_clap error kinds e (inl (memory, is_memory)) =
      reads_none (Says words) e (inr is_memory) (λ usage. cc)
  refused_by_clap error kinds e (inr (no_memory, is_usage)) =
      reads_none (Says words) e (inl is_usage) (λ usage call says.
      let kind = subst (λ (a : App). HasKind (fault_of a words) error) is (kinds free) in
      let none = subst (λ ks. HasKind ks error) (found call says).0 kind in
      elim none [
        | inl memory ↦ no_memory memory
        | inr among ↦ among
      ])
