use Rattle.std.proofs.Common.{◌≡◌, ◌<◌, ◌≤◌, ◌⊎◌, ℕ, get_or}
use Rattle.row_scans.proofs.rows.greatest.Given as goal

abbrev pub invariant-loop-value : goal.invariant-loop-value
invariant-loop-value l = record {
  each : (k : ℕ) → k < l.value-index → get_or l.row k 0 ≤ l.most;
  some : (l.most ≡ 0) ⊎ ((k : ℕ) × (k < l.value-index) × (get_or l.row k 0 ≡ l.most));
}
