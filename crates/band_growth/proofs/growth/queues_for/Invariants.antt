use Rattle.std.proofs.Common.{◌≤◌, ◌≡◌, vec_capacity, vec_len}
use Rattle.band_growth.proofs.growth.queues_for.Given as goal

abbrev pub invariant-loop-band : goal.invariant-loop-band
invariant-loop-band l = record {
  capacity : l.count ≤ vec_capacity l.queues;
  long : vec_len l.queues ≡ l.band;
}
