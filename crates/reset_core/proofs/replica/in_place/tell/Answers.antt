use Rattle.std.proofs.Common.{◌≡◌, ◌<◌, ◌≤◌, ◌++◌, ◌∙◌, sym, ap, subst, arith, Result, Ok, Err, IsOk, OnOk}
use Rattle.std.proofs.Common.{ℕ, List, Contains, flat_map}
use Rattle.std.specs.List.Sorted.{IsStrictlyIncreasing}
use Rattle.grid_core.specs.{Tiles.count_of, Tiles.tile_of, Raster.value_at}
use Rattle.border_queues.specs.declared.hint.Hint.{Hint}
use Rattle.border_queues.specs.OpenEdges.{Sender, sender_by, room_for_edges, open_edges}
use Rattle.reset_core.specs.Telling.{ImageAndWork, both_on, image_on, hints_in, AreByTile, AreTold}
use Rattle.reset_core.proofs.TellingOrder.{IsToldBy, told_by, are_by_tile}
use Rattle.reset_core.proofs.replica.in_place.tell.Goals.{After-as_slice-2}
use Rattle.std.proofs.lemmas.Grind.{common_steps}
use Rattle.reset_core.proofs.replica.in_place.tell.Goals as goal

of_ok : {A E : Type 0} (r : Result A E) (P : Type 0) → IsOk r → OnOk r P → P
of_ok (Ok x) P ok holds = holds
of_ok (Err e) P ok holds = absurd cc

abbrev sender : After-as_slice-2 → Sender
sender c = record {
  tiles = c.args.tiling.now;
  conn = c.args.conn;
  mask = value_at (image_on c.args.tiling.now c.args.mask.now);
  image = value_at (image_on c.args.tiling.now c.args.image.now);
  tile = c.args.tile;
  generation = c.generation-generation.result;
}

sent : (c : After-as_slice-2)
    → sender_by c.args.tiling.now c.args.conn (value_at c.over-limits.result) (value_at c.over-before.result)
    c.args.tile c.generation-generation.result ≡ sender c
sent c =
    let size : (cells : List ℕ) → record { width = c.width-w.result; height = c.height-h.result; cells = cells }
    ≡ image_on c.args.tiling.now cells =
    λ cells i. record { width = c.width-w.ensures.value i; height = c.height-h.ensures.value i; cells = cells } in
    let limits = c.over-limits.ensures ∙ size c.args.mask.now in
    let before = c.over-before.ensures ∙ size c.args.image.now in
    λ i. sender_by c.args.tiling.now c.args.conn (value_at (limits i)) (value_at (before i)) c.args.tile
    c.generation-generation.result

hints_are_told : (c : After-as_slice-2) → c.as_slice-2.result.now ≡ open_edges (sender c)
hints_are_told c =
    let enough : room_for_edges c.args.tiling.now ≤ c.clear.new.self.room =
    omega (arith, c.clear.ensures.room, c.requires.enough) in
    let added : OnOk c.open_edges_in.result (c.open_edges_in.new.out.hints
    ≡ c.clear.new.self.hints ++ open_edges (sender c)) =
    subst (λ s. OnOk c.open_edges_in.result (c.open_edges_in.new.out.hints
    ≡ c.clear.new.self.hints ++ open_edges s)) (sent c) c.open_edges_in.ensures.hints in
    c.as_slice-2.ensures
    ∙ of_ok c.open_edges_in.result
    (c.open_edges_in.new.out.hints ≡ c.clear.new.self.hints ++ open_edges (sender c))
    (c.open_edges_in.ensures.enough enough) added
    ∙ ap (λ hs. hs ++ open_edges (sender c)) c.clear.ensures.hints

told : (c : After-as_slice-2) (hint : Hint) → Contains c.as_slice-2.result.now hint → IsToldBy (sender c) hint
told c hint there =
    let within : c.args.tile < count_of c.args.tiling.now =
    omega (arith, c.requires.tile.parts.count, c.requires.tile.within) in
    told_by c.edges_are_open.ensures c.neighbours_lie_in_touching_tiles.ensures c.each_pixel_in_one_tile.ensures
    (sender c) c.requires.tile.parts.tiled within hint (subst (λ hs. Contains hs hint) (hints_are_told c) there)

sorted : (c : After-as_slice-2) → AreByTile c.args.tiling.now c.as_slice-2.result.now
    (flat_map (hints_in c.args.tiling.now c.as_slice-2.result.now) c.as_slice.result.now)
sorted c =
    let tiles = c.as_slice.ensures.tiles in
    are_by_tile c.args.tiling.now c.as_slice-2.result.now c.as_slice.result.now
    (subst IsStrictlyIncreasing (sym tiles) c.touching-touching.ensures.rising) (λ hint there.
    let goes = told c hint there in
    let t = tile_of c.args.tiling.now hint.to_pixel in
    rw tiles ((c.touching-touching.ensures.members t).1 (goes.touching, goes.is_tile)))

pub hand_over_all-requires-clause-tiles : goal.hand_over_all-requires-clause-tiles
hand_over_all-requires-clause-tiles c = λ tile there.
    let touches = (c.touching-touching.ensures.members tile).0
    (subst (λ ts. Contains ts tile) c.as_slice.ensures.tiles there) in
    omega (arith, c.requires.tile.parts.count, touches.1)

pub hand_over_all-requires-clause-inside : goal.hand_over_all-requires-clause-inside
hand_over_all-requires-clause-inside c = λ hint there. (told c hint there).inside

pub returns-clause-hints : goal.returns-clause-hints
returns-clause-hints c =
    let before : ImageAndWork = both_on c.args.tiling.now c.args.image.now c.args.work.now in
    let after : ImageAndWork = both_on c.args.tiling.now c.hand_over_all.new.image c.hand_over_all.new.work in
    let at = (goal.at.returns-clause-hints c).After-as_slice-2 in
    let all : AreTold c.args.tiling.now c.as_slice-2.result.now before after = record {
      by_tile = flat_map (hints_in c.args.tiling.now c.as_slice-2.result.now) c.as_slice.result.now;
      sorted = sorted at;
      over = c.hand_over_all.ensures.handed;
    } in
    rw (hints_are_told at, c.generation-generation.ensures.value) at all

pub open_edges_in-requires-clause-bounds : goal.open_edges_in-requires-clause-bounds
open_edges_in-requires-clause-bounds c = grind (arith, common_steps)

pub open_edges_in-requires-clause-lie : goal.open_edges_in-requires-clause-lie
open_edges_in-requires-clause-lie c = c.requires.lie

pub hand_over_all-requires-clause-parts : goal.hand_over_all-requires-clause-parts
hand_over_all-requires-clause-parts c = c.requires.tile.parts

pub hand_over_all-requires-clause-bounds : goal.hand_over_all-requires-clause-bounds
hand_over_all-requires-clause-bounds c = c.requires.bounds

pub returns-clause-bounds : goal.returns-clause-bounds
returns-clause-bounds c = c.hand_over_all.ensures.bounds
