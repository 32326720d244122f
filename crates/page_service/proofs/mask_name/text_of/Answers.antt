use Rattle.std.proofs.{Common.arith, Common.refl, lemmas.List.Elements.All-from_get_or}
use Rattle.percent_encoding.proofs.PercentLemmas.{IsByte}
use Rattle.page_service.proofs.MaskNames.{written}
use Rattle.page_service.proofs.mask_name.text_of.Goals as goal

pub returns : goal.returns
returns c =
    let small = All-from_get_or IsByte c.args.name.now 0 (λ i within. omega (arith, c.type_inv.name i)) in
    rw (
      c.in_ok-append_to.ensures.ok,
      c.in_ok-text.ensures.ok,
      c.utf8_percent_encode.ensures.text,
      written c.args.name.now small,
    ) refl
