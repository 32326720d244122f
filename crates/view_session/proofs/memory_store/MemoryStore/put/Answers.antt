use Rattle.std.proofs.Common.{◌≡◌, ◌∙◌, rules, string_bytes}
use Rattle.std.proofs.{lemmas.Result.IfOk-at_ok, lemmas.Map.Text.btree_map_updates_text}
use Rattle.view_session.proofs.Files.{file_replaced}
use Rattle.view_session.proofs.memory_store.MemoryStore.put.Goals as goal

pub returns-in-Ok-clause-put : goal.returns-in-Ok-clause-put
returns-in-Ok-clause-put c =
    let is_name = IfOk-at_ok (λ s. string_bytes s ≡ c.name.result.now) c.in_ok-name.was c.from_str.ensures.ok
    ∙ c.name.ensures in
    let files = c.args.self.now.files in
    let bytes = string_bytes c.in_ok-name.name in
    let sets = btree_map_updates_text bytes files c.insert.new.self _ c.in-Ok.ensures.updates in (
      file_replaced files c.insert.new.self (string_bytes c.in_ok-name.name) c.args.path.now c.in_ok-copy.copy
          c.args.bytes.now is_name (search rules) sets,
      search rules,
    )
