use Rattle.std.proofs.Common.{arith}
use Rattle.edit_lang.proofs.Room.{runs_length}
use Rattle.edit_lang.proofs.lengths.runs_len.Goals as goal

pub overflow_sub-result : goal.overflow_sub-result
overflow_sub-result c = omega (arith, c.runs_room.ensures.sum, runs_length c.args.runs.now c.requires.some)
