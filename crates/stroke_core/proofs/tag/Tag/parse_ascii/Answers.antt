use Rattle.std.proofs.Common.{refl, sym, true≢false}
use Rattle.std.specs.Int.{w128, from_be_bytes}
use Rattle.uuid.specs.Text.{parsed}
use Rattle.stroke_core.proofs.TagLemmas.{none_of_absent}
use Rattle.stroke_core.proofs.tag.Tag.parse_ascii.Goals as goal

pub returns-in-Err-clause-bad : goal.returns-in-Err-clause-bad
returns-in-Err-clause-bad c = (
  refl,
  none_of_absent (from_be_bytes w128) (parsed c.args.text.now)
      (λ found. absurd (true≢false (sym (c.in-Err.ensures.ok.1 found)))),
)
