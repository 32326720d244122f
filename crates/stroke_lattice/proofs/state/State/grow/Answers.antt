use Rattle.std.proofs.Common.{ap, ◌∙◌, nat_cmp}
use Rattle.stroke_core.specs.Seed.{Seed}
use Rattle.stroke_lattice.specs.Growth.{HasTagsOf}
use Rattle.stroke_lattice.proofs.Growing.{on_ok}
use Rattle.std.specs.FinMap as map
use Rattle.stroke_lattice.proofs.state.State.grow.Goals as goal

pub returns-clause-strokes : goal.returns-clause-strokes
returns-clause-strokes c =
    let tags : HasTagsOf c.take_tombstones.new.self c.args.delta.now = λ t given.
    let some = c.in_ok-take_strokes.ensures.strokes t given in
    (some.0, ap (λ (m : map.FinMap nat_cmp Seed). map.get m t) c.take_tombstones.ensures.strokes ∙ some.1) in
    on_ok c.take_tombstones.result (HasTagsOf c.take_tombstones.new.self c.args.delta.now) tags
