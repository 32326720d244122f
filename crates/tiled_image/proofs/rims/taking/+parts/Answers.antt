-- What the tactics leave open of the cycle of calls that take over the rims of part after part.
use Rattle.std.proofs.Math.Nat.{div-le_self}
use Rattle.std.proofs.Common.{◌≡◌, ◌+◌, ◌-◌, ◌*◌, ◌/◌, ◌≤◌, ◌++◌, ℕ, List, length, ap, subst, sym, ◌∙◌, arith}
use Rattle.tile_work.specs.TileSet.{Has}
use Rattle.tiled_image.specs.OwnRims.{ArePartTaken}
use Rattle.tiled_image.proofs.OwnRims.{both_taken, by_fours, part_fits, rest_room}
use Rattle.tiled_image.proofs.rims.taking.+parts.Goals as goal

pub take_part-split_at_mut-here-requires : goal.take_part-split_at_mut-here-requires
take_part-split_at_mut-here-requires g t c =
    let a = c.args in
    let part : ℕ = a.count / (a.threads - 1) in
    subst (λ n. part * (4 * n) ≤ length a.values.now) (sym c.side.ensures.value)
    (part_fits a.count part a.tiling.now.side (length a.values.now) (div-le_self a.count (a.threads - 1))
    c.requires.room_is)

pub take_part-take_both-requires-clause-here : goal.take_part-take_both-requires-clause-here
take_part-take_both-requires-clause-here g t c κs within =
    let a = c.args in
    let part : ℕ = a.count / (a.threads - 1) in
    record {
      all = c.requires.all;
      within = omega (arith, c.requires.within, div-le_self a.count (a.threads - 1));
      room_is =
          c.split_at_mut-here.ensures.front_len ∙ ap (λ n. part * (4 * n)) c.side.ensures.value
          ∙ by_fours part a.tiling.now.side;
      width = c.requires.width;
      height = c.requires.height;
    }

pub take_part-take_both-requires-clause-behind : goal.take_part-take_both-requires-clause-behind
take_part-take_both-requires-clause-behind g t c κs within =
    let a = c.args in
    let part : ℕ = a.count / (a.threads - 1) in
    let few = div-le_self a.count (a.threads - 1) in
    record {
      all = c.requires.all;
      within = omega (arith, c.requires.within, few);
      room_is =
          rest_room a.count part a.tiling.now.side (length a.values.now) (length c.split_at_mut-here.result.1.now) few
          c.requires.room_is
          (ap (λ n. length c.split_at_mut-here.result.1.now + part * (4 * n)) (sym c.side.ensures.value)
          ∙ c.split_at_mut-here.ensures.back_len);
      width = c.requires.width;
      height = c.requires.height;
    }

pub take_part-returns : goal.take_part-returns
take_part-returns g t c =
    let a = c.args in
    let part : ℕ = a.count / (a.threads - 1) in
    let few = div-le_self a.count (a.threads - 1) in
    let parts : part + (a.count - part) ≡ a.count = omega (arith, few) in
    let here_new = c.take_both.new.here in
    let behind_new = c.take_both.new.behind in
    let both =
    both_taken (Has a.tiles.now) a.tiling.now a.image.now a.first part (a.count - part)
    c.split_at_mut-here.result.0.now c.split_at_mut-here.result.1.now here_new behind_new c.side.ensures.tiled
    (omega (arith, few, c.requires.within))
    (c.split_at_mut-here.ensures.front_len ∙ ap (λ n. part * (4 * n)) c.side.ensures.value
    ∙ by_fours part a.tiling.now.side) c.take_both.ensures.here c.take_both.ensures.behind in
    subst (λ n. ArePartTaken (Has a.tiles.now) a.tiling.now a.image.now a.first n a.values.now
    (here_new ++ behind_new)) parts
    (subst (λ (values : List ℕ). ArePartTaken (Has a.tiles.now) a.tiling.now a.image.now a.first
    (part + (a.count - part)) values (here_new ++ behind_new)) (sym c.split_at_mut-here.ensures.value) both)
