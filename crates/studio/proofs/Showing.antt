-- A shot of a core is sound.
use Rattle.std.proofs.Common.{◌≡◌, sym, subst}
use Rattle.grid_core.specs.Raster.{Raster}
use Rattle.core_rules.specs.Work.{Core}
use Rattle.reset_core.specs.Answers.{IsImageOf}
use Rattle.studio.specs.{Shots.Shot, Shots.IsSound, Shots.HasOneSize, Keeping.IsShotOf}

-- the image has the size of the mask
pub one_size : (core : Core) (mask image : Raster) → mask ≡ core.mask → image ≡ core.image
    → IsImageOf core core.image → HasOneSize mask image
one_size core mask image m i is = rw (m, i) (record { width = is.below.width; height = is.below.height })

-- so it is lawful for the strokes of the core, and where no work is left it is the reconstruction
pub sound_shot : (core : Core) (shot : Shot) → IsShotOf core shot → IsImageOf core core.image → IsSound shot
sound_shot core shot s is =
    let as_shown : record shot { mask = core.mask; conn = core.conn; state = core.state; image = core.image } ≡ shot =
    λ i. record shot { mask = sym s.mask i; conn = sym s.conn i; state = sym s.state i; image = sym s.image i } in
    subst IsSound as_shown (record {
      size = record { width = is.below.width; height = is.below.height };
      lawful = is.lawful;
      quiet = λ quiet. is.quiet (s.quiet.0 quiet);
    })
