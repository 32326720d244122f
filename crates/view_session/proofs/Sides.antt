-- What a view for a side of tiles answers, where tiles have no such side, and where they have.
use Rattle.std.proofs.Common.{ℕ, List, Result, Err, refl}
use Rattle.byte_devices.specs.Device.{SourceSeen, SinkSeen}
use Rattle.grid_core.specs.Tiles.{IsTileSide}
use Rattle.view_session.specs.Answering.{Answers, AnswersForSide}
use Rattle.run_faults.specs.{declared.run_error.RunError.RunError, declared.run_error.RunError.TheVariants.Core}
use Rattle.core_rules.specs.declared.error.CoreError.TheVariants as core

module _ {V S K : Type 0} (side : ℕ) (answers : List ℕ → V → List ℕ → Type 0) (stops : List ℕ → RunError → Type 0)
    (reading : S → SourceSeen) (source source' : S) (writing : K → SinkSeen) (sink sink' : K) where
  -- they have none: C5, and nothing is read or written
  pub refused_for_side : (IsTileSide side → ⊥)
      → AnswersForSide side answers stops (Err (Core core.BadSide)) reading source source writing sink sink
  refused_for_side none = record {
    no_side = λ _. refl;
    unread = λ _. (refl, refl);
    answered = λ is. absurd (none is);
  }

  -- they have: the view is answered
  pub answered_for_side : (result : Result V RunError) → IsTileSide side
      → Answers answers stops result reading source source' writing sink sink'
      → AnswersForSide side answers stops result reading source source' writing sink sink'
  answered_for_side result is answered = record {
    no_side = λ none. absurd (none is);
    unread = λ none. absurd (none is);
    answered = λ _. answered;
  }
