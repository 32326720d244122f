-- What the tactics leave open of `is_quiet`.
use Rattle.std.proofs.Common.{ap, ◌∙◌, sym, not}
use Rattle.tile_work.proofs.WorkTables.{quiet_without_hints}
use Rattle.tile_work.proofs.work_table.WorkTable.is_quiet.Goals.{then-is_none, else-is_none}
use Rattle.tile_work.proofs.work_table.WorkTable.is_quiet.Goals as goal

pub returns-then-is_none-2 : goal.returns-then-is_none-2
returns-then-is_none-2 c = elim c.if-is_none.branch [
  | then-is_none w ↦
      quiet_without_hints c.args.self.now c.first_dirty.result w.first_out.result c.first_waiting.result
      c.first_dirty.ensures w.first_out.ensures c.first_waiting.ensures
      (c.is_none.ensures ∙ ap not w.if-is_none.true)
      (w.is_none-then-is_none.ensures ∙ ap not (sym w.value-is ∙ c.if-is_none-2.true)) c.is_none-then-is_none-2.result
      c.is_none-then-is_none-2.ensures
  | else-is_none w ↦
      absurd (let no = w.if-is_none.false in let same = w.value-is in let yes = c.if-is_none-2.true in cc)
]
