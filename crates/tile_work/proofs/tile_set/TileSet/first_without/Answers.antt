-- What the tactics leave open of `first_without`.
use Rattle.tile_work.specs.TileSet.{Has}
use Rattle.tile_work.proofs.Leasts.{least_alike}
use Rattle.tile_work.proofs.tile_set.TileSet.first_without.Goals as goal

pub returns : goal.returns
returns c =
    let one = c.args.self.now in
    let other = c.args.other.now in
    least_alike (λ t. Has one t × (Has other t → ⊥) × (Has other t → ⊥)) (λ t. Has one t × (Has other t → ⊥))
    (λ t has. (has.0, has.1)) (λ t has. (has.0, has.1, has.1)) c.args.start _ c.first_without_both.ensures
