use Rattle.std.proofs.Common.{ltb, rules}
use Rattle.std.proofs.lemmas.List.Sorted.{IsPartitionPoint-from_clause, IsPartitionedBy-ltb}
use Rattle.stroke_core.specs.declared.run.Run.{Run}
use Rattle.stroke_core.proofs.RowLemmas.{runs_rise, run_spans_part}
use Rattle.stroke_core.proofs.stroke.first_run_from.Goals as goal

pub returns-clause-point : goal.returns-clause-point
returns-clause-point c =
    let runs = c.args.runs.now in
    let row = c.args.row in
    let parted = IsPartitionedBy-ltb (λ (run : Run). run.y) runs row (runs_rise runs c.requires) in
    run_spans_part runs row c.partition_point.result c.partition_point.ensures.bound
    (IsPartitionPoint-from_clause (λ (run : Run). ltb run.y row) runs c.partition_point.result
    c.partition_point.ensures.partitioned parted (λ a r q k. search rules))
