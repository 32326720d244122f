-- A core that goes on from the shot that was shown last.
use Rattle.std.proofs.Common.{◌≡◌, ◌&&◌, Bool, true, false, IsTrue, ap, refl, sym, ◌∙◌, subst}
use Rattle.stroke_lattice.specs.State.{State, IsBelow}
use Rattle.stroke_lattice.proofs.Joins.{below_itself, below_through}
use Rattle.core_rules.specs.Work.{Core}
use Rattle.core_rules.proofs.KeptRuns.{run_keeps}
use Rattle.tiled_image.specs.Settling.{HasWorkedOn}
use Rattle.core_dispatch.specs.Growing.{GrowsOn}
use Rattle.studio.specs.{Shots.Shot, Shots.IsSound, Chains.MayFollow, Following.Follows, Keeping.IsShotOf}

-- a core goes on from a shot of itself
pub shot_follows : (core : Core) (shot : Shot) (has_state has_image : Bool) → IsShotOf core shot
    → Follows shot core has_state has_image
shot_follows core shot has_state has_image s = record {
  mask = s.mask;
  conn = s.conn;
  state = subst (λ (x : State). IsBelow x core.state) (sym s.state) (below_itself core.state);
  same_state = λ h. s.state;
  same_image = λ h. s.image;
}

-- a shot of the core may follow the one that it goes on from
pub may_follow : (last shot : Shot) (core : Core) (has_state has_image : Bool) → Follows last core has_state has_image
    → IsShotOf core shot → IsSound shot → MayFollow last shot
may_follow last shot core has_state has_image f s sound = record {
  sound = sound;
  leads = record {
    mask = s.mask ∙ sym f.mask;
    conn = s.conn ∙ sym f.conn;
    state = subst (λ (x : State). IsBelow last.state x) (sym s.state) f.state;
  };
}

-- the core grew on, and nothing is said to be the same
pub grows_on : (last : Shot) (before after : Core) (a b : Bool) → Follows last before a b → GrowsOn before after
    → Follows last after false false
grows_on last before after a b f g = record {
  mask = f.mask ∙ sym g.mask;
  conn = f.conn ∙ sym g.conn;
  state = below_through last.state before.state after.state f.state g.state;
  same_state = λ h. absurd cc;
  same_image = λ h. absurd cc;
}

-- work without a merge leaves the strokes, and where there was none the image
pub works_on : (last : Shot) (before after : Core) (has_state has_image is_quiet : Bool)
    → Follows last before has_state has_image → HasWorkedOn before after → (is_quiet ≡ true → after ≡ before)
    → Follows last after has_state (has_image && is_quiet)
works_on last before after has_state has_image is_quiet f (log, run, none) same =
    let kept = run_keeps before after log none run in
    record {
      mask = f.mask ∙ sym kept.mask;
      conn = f.conn ∙ sym kept.conn;
      state = subst (λ (x : State). IsBelow last.state x) (sym kept.state) f.state;
      same_state = λ yes. f.same_state yes ∙ sym kept.state;
      same_image = still has_image is_quiet f.same_image same;
    } where
      still : (has quiet : Bool) → (IsTrue has → last.image ≡ before.image) → (quiet ≡ true → after ≡ before)
          → IsTrue (has && quiet) → last.image ≡ after.image
      still true true was is both_hold = was refl ∙ sym (ap (λ (c : Core). c.image) (is refl))
      still true false was is both_hold = let no : false ≡ true = both_hold in absurd cc
      still false quiet was is both_hold = let no : false ≡ true = both_hold in absurd cc
