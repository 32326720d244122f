-- A tile whose job is taken and abandoned at once is as it was, and a serial is spent.
use Rattle.std.proofs.Common.{◌≡◌, ℕ, ◌+◌, ◌%◌, ◌^◌, ◌<◌, Bool, true, false, List, Option, Some, None, set, refl, sym}
use Rattle.std.proofs.Common.{ap, ◌∙◌, subst}
use Rattle.std.proofs.lemmas.List.{length-set, set-get_or, set-set}
use Rattle.grid_core.specs.declared.pixel.Pixel.{Pixel}
use Rattle.tile_generations.specs.Jobs.{Job}
use Rattle.border_queues.specs.TileWork.{TileWork, idle}
use Rattle.core_rules.specs.{Invariant.HasHint, Invariant.IsSound, Work.Core, Work.with_work, Work.work_at}
use Rattle.core_rules.specs.Sweeps.{IsOut, IsSkipped, IsReady, taken, tile_rect}
use Rattle.core_rules.proofs.{Cores.work_there, Pieces.piece, Pieces.piece_is_part}
use Rattle.core_rules.proofs.Taking.{abandon_keeps_sound, abandon_keeps_told, take_keeps_sound, take_keeps_told}

-- what is at a tile once it is taken, and once its job is abandoned
abbrev pub work_out : Core → ℕ → TileWork
work_out before t = record (work_at before t) { dirty = false; out = Some before.serial }

abbrev pub work_back : TileWork → TileWork
work_back work = record work { dirty = true; out = None }

-- the work at the tile is as before
pub same_work : (before : Core) (t : ℕ) (work : TileWork) → work ≡ work_at before t
    → with_work (taken before t) t work ≡ record before { serial = (taken before t).serial }
same_work before t work same =
    let tiles : set (taken before t).tiles t work ≡ before.tiles =
    set-set before.tiles t (work_out before t) work ∙ ap (set before.tiles t) same ∙ set-get_or before.tiles t idle in
    let with_tiles : List TileWork → Core = λ works. record (taken before t) { tiles = works } in
    ap with_tiles tiles

taken_there : (before : Core) (t : ℕ) → IsReady before t → work_at (taken before t) t ≡ work_out before t
taken_there before t ready = work_there before t (work_out before t) ready.is_tile

pub work_is_back : (before : Core) (t : ℕ) → IsReady before t
    → work_back (work_at (taken before t) t) ≡ work_at before t
work_is_back before t ready =
    let put : Bool → Option ℕ → TileWork = λ dirty out. record (work_at before t) { dirty = dirty; out = out } in
    ap work_back (taken_there before t ready) ∙ ap (λ dirty. put dirty None) (sym ready.dirty)
    ∙ ap (put (work_at before t).dirty) (sym ready.none_out)

pub taken_is_out : (before : Core) (t : ℕ) → IsReady before t
    → IsOut (taken before t) (record { tile = t; generation = (work_at before t).generation; serial = before.serial })
taken_is_out before t ready = record {
  is_tile = subst (λ n. t < n) (sym (length-set before.tiles t (work_out before t))) ready.is_tile;
  generation = ap (λ (work : TileWork). work.generation) (taken_there before t ready);
  out = ap (λ (work : TileWork). work.out) (taken_there before t ready);
}

-- ---- a tile that is passed over

-- the core once one more serial is spent
abbrev pub with_next_serial : Core → Core
with_next_serial core = record core { serial = (core.serial + 1) % 2 ^ 64 }

-- the job of the tile
abbrev its_job : Core → ℕ → Job
its_job core t = record {
  ticket = record { tile = t; generation = (work_at core t).generation; serial = core.serial };
  conn = core.conn;
  base = piece (tile_rect core t) core.image;
  mask = piece (tile_rect core t) core.mask;
}

pub is_passed_over : (core : Core) (t : ℕ) → IsReady core t → IsSkipped core t (with_next_serial core)
is_passed_over core t ready = record {
  job = its_job core t;
  between = taken core t;
  is_taken = (
    ready,
    record {
      ticket = refl;
      conn = refl;
      base = piece_is_part (tile_rect core t) core.image;
      mask = piece_is_part (tile_rect core t) core.mask;
    },
    refl,
  );
  is_abandoned = (
    taken_is_out core t ready,
    sym (same_work core t (work_back (work_at (taken core t) t)) (work_is_back core t ready)),
  );
}

-- and the core stays sound
pub pass_keeps_sound : (before after : Core) (t : ℕ) → IsSound before → IsSkipped before t after → IsSound after
pass_keeps_sound before after t sound passed =
    abandon_keeps_sound passed.between after passed.job.ticket true
    (take_keeps_sound before passed.between t (Some passed.job) sound passed.is_taken) passed.is_abandoned

-- a hint that waits is as good as it was
pub pass_keeps_told : (before after : Core) (t : ℕ) (p q : Pixel) → IsSound before → IsSkipped before t after
    → HasHint before p q → HasHint after p q
pass_keeps_told before after t p q sound passed told =
    abandon_keeps_told passed.between after passed.job.ticket true p q
    (take_keeps_sound before passed.between t (Some passed.job) sound passed.is_taken) passed.is_abandoned
    (take_keeps_told before passed.between t (Some passed.job) p q sound passed.is_taken told)
