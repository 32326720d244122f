use Rattle.std.proofs.Common.{ap, subst, sym, Bool, IsTrue, ◌↔◌, ◌∙◌, ◌≡◌}
use Rattle.std.specs.Arc.{arc_value}
use Rattle.grid_core.specs.{declared.conn.Conn.Conn, Raster.Raster}
use Rattle.stroke_lattice.specs.State.{State}
use Rattle.core_rules.specs.Work.{Core, IsQuiet}
use Rattle.studio.specs.{Keeping.IsShotOf, Shots.Shot}
use Rattle.studio.proofs.Showing.{one_size, sound_shot}
use Rattle.studio.proofs.keeper.showing.shot_of.Goals as goal

-- what a shot is made of is the core's
shot_is : (core : Core) (shot : Shot) (mask image : Raster) (conn : Conn) (state : State) (quiet : Bool)
    → shot ≡ record { mask = mask; conn = conn; state = state; image = image; quiet = quiet }
    → mask ≡ core.mask → conn ≡ core.conn → state ≡ core.state → image ≡ core.image → (IsTrue quiet ↔ IsQuiet core)
    → IsShotOf core shot
shot_is core shot mask image conn state quiet is m n s i q = record {
  mask = ap (λ (x : Shot). x.mask) is ∙ m;
  conn = ap (λ (x : Shot). x.conn) is ∙ n;
  state = ap (λ (x : Shot). x.state) is ∙ s;
  image = ap (λ (x : Shot). x.image) is ∙ i;
  quiet = subst (λ (x : Shot). IsTrue x.quiet ↔ IsQuiet core) (sym is) q;
}

pub new-requires : goal.new-requires
new-requires c =
    one_size c.args.core.now (arc_value c.args.mask) (arc_value c.args.image) c.requires.mask c.requires.image
    c.image_is_lawful.ensures

pub returns-clause-shot : goal.returns-clause-shot
returns-clause-shot c =
    shot_is c.args.core.now c.new.result _ _ _ _ _ c.new.ensures c.requires.mask c.conn.ensures c.requires.state
    c.requires.image c.is_quiet-quiet.ensures

pub returns-clause-sound : goal.returns-clause-sound
returns-clause-sound c =
    let core = c.args.core.now in
    let shows = shot_is core c.new.result _ _ _ _ _ c.new.ensures c.requires.mask c.conn.ensures c.requires.state
    c.requires.image c.is_quiet-quiet.ensures in
    sound_shot core c.new.result shows c.image_is_lawful.ensures
