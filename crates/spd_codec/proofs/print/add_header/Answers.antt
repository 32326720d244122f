use Rattle.std.proofs.Common.{ap, ◌∙◌, subst, decimal}
use Rattle.sha2.specs.Hashers.{Holds256}
use Rattle.spd_codec.proofs.Prints.{header_parts}
use Rattle.spd_codec.proofs.print.add_header.Goals as goal

pub returns : goal.returns
returns c = λ m h.
    let one = c.update.ensures m h in
    let two = c.update-2.ensures _ one in
    let three = c.update-3.ensures _ two in
    let four = c.update-4.ensures _ three in
    let five = c.update-5.ensures _ four in
    let six = c.update-6.ensures _ five in
    subst (Holds256 c.update-7.new.self)
    (header_parts m c.as_slice.result.now c.format.result.now c.as_slice-2.result.now c.format-2.result.now
    c.as_slice-3.result.now c.format-3.result.now c.as_slice-4.result.now c.args.image.now c.as_slice.ensures
    (c.format.ensures.text ∙ ap decimal c.width.ensures.value) c.as_slice-2.ensures
    (c.format-2.ensures.text ∙ ap decimal c.height.ensures.value) c.as_slice-3.ensures
    (c.format-3.ensures.text ∙ ap decimal c.maxval.ensures.value) c.as_slice-4.ensures)
    (c.update-7.ensures _ six)
