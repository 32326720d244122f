use Rattle.std.proofs.{Common.◌∙◌, Common.arith, Common.subst, Common.sym, lemmas.List.Elements.All-from_get_or}
use Rattle.http_header.specs.FieldValue.{IsFieldValue}
use Rattle.percent_encoding.proofs.PercentLemmas.{IsByte}
use Rattle.page_service.proofs.MaskNames.{may_stand}
use Rattle.page_service.proofs.mask_name.value_of.Goals as goal

pub from_known_valid-requires : goal.from_known_valid-requires
from_known_valid-requires c =
    let small = All-from_get_or IsByte c.args.name.now 0 (λ i within. omega (arith, c.type_inv.name i)) in
    subst IsFieldValue (sym (c.in_ok-text.ensures ∙ c.in_ok-text_of.ensures)) (may_stand c.args.name.now small)
