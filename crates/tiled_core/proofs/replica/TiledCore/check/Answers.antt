-- What the tactics leave open of `check`.
use Rattle.std.proofs.Common.{◌≡◌, ◌∙◌, ap, subst}
use Rattle.grid_core.specs.Tiles.{Tiles}
use Rattle.stroke_lattice.specs.State.{AreCompatible, IsLeastClash}
use Rattle.core_rules.specs.Work.{Core}
use Rattle.tiled_core.proofs.replica.TiledCore.check.Goals as goal

pub returns-in-Some-clause-refused : goal.returns-in-Some-clause-refused
returns-in-Some-clause-refused c =
    let core = c.args.self.now in
    let delta = c.args.delta.now in
    let tiling = c.tiling-tiling.ensures in
    let width : c.width.result ≡ core.mask.width =
    c.width.ensures.value ∙ ap (λ (t : Tiles). t.width) tiling.value ∙ tiling.width
    ∙ ap (λ (k : Core). k.mask.width) c.self.view_is in
    let height : c.height.result ≡ core.mask.height =
    c.height.ensures.value ∙ ap (λ (t : Tiles). t.height) tiling.value ∙ tiling.height
    ∙ ap (λ (k : Core). k.mask.height) c.self.view_is in
    rw (width, height) at c.in-Some.ensures

pub returns-in-Some-clash-clause-refused : goal.returns-in-Some-clash-clause-refused
returns-in-Some-clash-clause-refused c =
    let core = c.args.self.now in
    let delta = c.args.delta.now in
    let tiling = c.tiling-tiling.ensures in
    let width : c.width.result ≡ core.mask.width =
    c.width.ensures.value ∙ ap (λ (t : Tiles). t.width) tiling.value ∙ tiling.width
    ∙ ap (λ (k : Core). k.mask.width) c.self.view_is in
    let height : c.height.result ≡ core.mask.height =
    c.height.ensures.value ∙ ap (λ (t : Tiles). t.height) tiling.value ∙ tiling.height
    ∙ ap (λ (k : Core). k.mask.height) c.self.view_is in (
      rw (width, height) at c.in_default.ensures,
      subst (λ (k : Core). IsLeastClash k.state delta c.in-Some-clash.tag) c.self.view_is c.in-Some-clash.ensures,
    )

pub returns-in-None-clause-compatible : goal.returns-in-None-clause-compatible
returns-in-None-clause-compatible c =
    subst (λ (k : Core). AreCompatible k.state c.args.delta.now) c.self.view_is c.in-None.ensures
