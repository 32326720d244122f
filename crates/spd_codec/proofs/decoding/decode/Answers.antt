use Rattle.std.proofs.Common.{arith}
use Rattle.spd_codec.proofs.Answered.{is_found, is_only, is_refused, is_too_long}
use Rattle.spd_codec.proofs.decoding.decode.Goals as goal

pub returns-clause-found : goal.returns-clause-found
returns-clause-found c = is_found c.args.bytes.now c.frame.result (λ i. omega (arith, c.type_inv.bytes i))
    c.frame.ensures.read

pub returns-clause-only : goal.returns-clause-only
returns-clause-only c = λ frame spells. is_only c.args.bytes.now c.frame.result c.frame.ensures.read frame spells

pub returns-clause-too_long : goal.returns-clause-too_long
returns-clause-too_long c = (
  λ is. is_too_long c.args.bytes.now c.frame.result (λ i. omega (arith, c.type_inv.bytes i)) c.frame.ensures.read is,
  λ long. c.frame.ensures.too_long long,
)

pub returns-clause-fault : goal.returns-clause-fault
returns-clause-fault c = is_refused c.args.bytes.now c.frame.result (λ i. omega (arith, c.type_inv.bytes i))
    c.frame.ensures.read
