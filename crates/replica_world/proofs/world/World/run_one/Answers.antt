use Rattle.std.proofs.Common.{◌≡◌, ◌∙◌, true, false, sym}
use Rattle.replica_world.proofs.Events.{was_listed, cut_off}
use Rattle.replica_world.proofs.world.World.run_one.Goals as goal

pub returns-clause-next : goal.returns-clause-next
returns-clause-next c =
    was_listed c.args.self.now c.step.new.self c.args.event.now c.args.number c.in-Err.why c.args.refusals.now.items
    c.push_reserved.new.self.items c.in-Err.ensures.refused
    (λ memory. absurd (let no : false ≡ true = sym c.if-is_memory.false ∙ c.is_memory.ensures.1 memory in cc))
    c.push_reserved.ensures.items

pub returns-then-is_memory-clause-err : goal.returns-then-is_memory-clause-err
returns-then-is_memory-clause-err c =
    let memory = c.is_memory.ensures.0 c.if-is_memory.true in (
      memory,
      cut_off c.args.self.now c.step.new.self c.args.event.now c.in-Err.why c.in-Err.ensures.refused memory,
    )
