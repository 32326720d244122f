use Rattle.std.proofs.Common.{ap, ◌∙◌, ◌≡◌, drop, map, string_bytes}
use Rattle.std.proofs.lemmas.Result.{IfOk-weaker}
use Rattle.command_line.proofs.words.read_process_words.Goals as goal

pub returns-in_ok-all-in-Ok-clause-says : goal.returns-in_ok-all-in-Ok-clause-says
returns-in_ok-all-in-Ok-clause-says c =
    let behind : c.behind_name.result.now ≡ drop 1 c.in_ok-all-in-Ok.all.items =
    c.behind_name.ensures ∙ ap (drop 1) c.deref.ensures.value in
    rw c.in-Ok.is (IfOk-weaker c.read_words.result _ _ (λ call says. (
      map string_bytes c.behind_name.result.now,
      (c.in_ok-all-in-Ok.all.items, c.in_ok-all-in-Ok.ensures, ap (map string_bytes) behind),
      says,
    )) c.read_words.ensures.reads.said)

pub returns-in_ok-all-in-Ok-clause-usage : goal.returns-in_ok-all-in-Ok-clause-usage
returns-in_ok-all-in-Ok-clause-usage c usage =
    let behind : c.behind_name.result.now ≡ drop 1 c.in_ok-all-in-Ok.all.items =
    c.behind_name.ensures ∙ ap (drop 1) c.deref.ensures.value in
    rw c.in-Ok.is (
      map string_bytes c.behind_name.result.now,
      (c.in_ok-all-in-Ok.all.items, c.in_ok-all-in-Ok.ensures, ap (map string_bytes) behind),
      c.read_words.ensures.reads.usage usage,
    )
