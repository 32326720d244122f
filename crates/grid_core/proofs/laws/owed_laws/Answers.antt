use Rattle.grid_core.proofs.Owed.{one_owed, lawful_is_owed, owed_nothing_is_reconstruction}
use Rattle.grid_core.proofs.Owed.{reconstruction_is_owed_nothing}
use Rattle.grid_core.proofs.laws.owed_laws.Goals as goal

pub returns : goal.returns
returns c = record {
  at_most_one_owed = one_owed;
  lawful_is_owed = lawful_is_owed;
  owed_nothing = λ d mask marker j lawful. (
    owed_nothing_is_reconstruction d mask marker j lawful,
    reconstruction_is_owed_nothing d mask marker j,
  );
}
