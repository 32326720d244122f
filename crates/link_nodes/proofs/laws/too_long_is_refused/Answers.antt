use Rattle.std.proofs.Common.{refl, arith}
use Rattle.std.proofs.lemmas.List.{take_all}
use Rattle.link_nodes.specs.declared.link.TheConstants.{BUFFER_BYTES}
use Rattle.link_nodes.proofs.Answering.{long_front_is_refused}
use Rattle.link_nodes.proofs.laws.too_long_is_refused.Goals as goal

pub returns : goal.returns
returns c = record {
  room = refl;
  whole = λ datagram short. take_all BUFFER_BYTES datagram (omega (arith, short));
  too_long = long_front_is_refused;
}
