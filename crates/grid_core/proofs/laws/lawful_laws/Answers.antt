use Rattle.grid_core.proofs.Images.{raise_is_lawful, lies_between, closed_is_reconstruction}
use Rattle.grid_core.proofs.laws.lawful_laws.Goals as goal

pub returns : goal.returns
returns c = record {
  raise_keeps_lawful = raise_is_lawful;
  lawful_lies_between = lies_between;
  closed_lawful_is_reconstruction = closed_is_reconstruction;
}
