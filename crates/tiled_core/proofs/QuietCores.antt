-- Settling a core at which no work is left.
use Rattle.std.proofs.Common.{ℕ, Bool, true, false, List, [], Ok, ap, arith, length, refl, replicate, sym, ◌∙◌}
use Rattle.border_queues.specs.Laws.{EdgesAreOpen}
use Rattle.core_rules.specs.{Invariant.IsSound, Runs.NoneOut, Work.Core, Work.IsQuiet}
use Rattle.core_rules.proofs.{Counting.one_job_out_a_tile, Leaving.no_tickets}
use Rattle.tile_work.proofs.TileSetUnions.{HasGained-none}
use Rattle.reset_core.specs.Answers.{IsRunWith, IsSliceInBands}
use Rattle.reset_core.specs.declared.replica.settling.Slice.{Slice}
use Rattle.reset_core.proofs.Bands.Settling.{run_is_bounded}
use Rattle.tiled_image.specs.Settling.{IsSettledFor}

-- nothing is done
abbrev pub nothing_done : Slice
nothing_done = record { count = record { jobs = 0; abandons = 0 }; is_quiet = true }

no_run : (core : Core) (set : List Bool) → IsRunWith core set 0 0 core set
no_run core set = record {
  log = [];
  run = refl;
  none_merged = refl;
  jobs_are = refl;
  abandons_are = refl;
  swept = HasGained-none set;
}

none_out : (core : Core) → IsQuiet core → NoneOut core
none_out core quiet t is_tile = (quiet t is_tile).none_out

pub quiet_is_settled : EdgesAreOpen → (core : Core) → IsSound core → IsQuiet core → (limit : ℕ)
    → IsSettledFor core limit (Ok nothing_done) core
quiet_is_settled edges_open core sound quiet limit =
    let set = replicate (length core.tiles) false in
    let slice : IsSliceInBands core set limit nothing_done core set = record {
      run = no_run core set;
      at_most = omega arith;
      to_the_end = λ fewer. quiet;
      quiet = (λ yes. quiet, λ is. refl);
      bound = run_is_bounded edges_open core core set set 0 0 sound (no_run core set);
      each_out = ap length (sym (no_tickets 0 core.tiles (none_out core quiet))) ∙ one_job_out_a_tile core;
    } in
    record {
      settled = record {
        slice = (set, slice);
        none_out = none_out core quiet;
        cut_short = tt;
        worked_on = ([], refl, refl);
      };
      some_work = tt;
      quiet = λ is. refl;
    }
