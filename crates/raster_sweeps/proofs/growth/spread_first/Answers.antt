use Rattle.std.proofs.{Common.[], Common.◌∷◌, lemmas.Bool.false≢true, lemmas.List.Elements.Contains-append_left}
use Rattle.row_scans.proofs.Bags.{from_behind}
use Rattle.raster_sweeps.proofs.growth.spread_first.Goals as goal

pub spread-room-requires-clause-inside : goal.spread-room-requires-clause-inside
spread-room-requires-clause-inside c i waits =
    let found = c.requires.open.each i (from_behind c.in-Some.ensures i waits) in
    (found.0, found.2.from_inside, found.3)

pub returns-in-Some : goal.returns-in-Some
returns-in-Some c = record {
  scanned =
      record {
        grown = c.spread-room.ensures.grown;
        inside = c.spread-room.ensures.inside;
        waits = λ all. absurd (false≢true all);
      };
  rose =
      c.spread-room.ensures.rose (λ i first. c.requires.open.each i
      (from_behind c.in-Some.ensures i (Contains-append_left (c.in-Some.cell ∷ []) c.pop.new.self i first)));
}
