use Rattle.std.proofs.Common.{inl, refl, arith, ◌≡◌, Some, option_map}
use Rattle.command_line.proofs.{Calls.reads_none, Numbers.names_no_other}
use Rattle.command_line.proofs.words.node.number_within.Goals as goal

pub returns : goal.returns
returns c =
    let is : option_map (λ text. text.now) c.args.value ≡ Some c.in-Some.text.now = rw c.in-Some.is refl in
    reads_none _ _ (inl refl) (λ usage n named. names_no_other c.args.default c.args.least c.args.most
    (omega (arith, c.ranges.most.fits)) _ c.in-Some.text.now c.in_ok-n.n is c.in_ok-n.ensures.said
    (λ low high. absurd (omega (arith, c.else-least-n.either, low, high))) n named)
