use Rattle.std.proofs.Common.{◌≡◌, true, false, refl, sym, ◌∙◌, inl, inr}
use Rattle.raster_sweeps.proofs.OpenPairs.{begun_open, begun_wait}
use Rattle.raster_sweeps.proofs.Growing.{grown_nowhere}
use Rattle.raster_sweeps.proofs.growth.check.Goals as goal

pub returns-then-queue_open_pairs : goal.returns-then-queue_open_pairs
returns-then-queue_open_pairs c = record {
  scanned =
      record {
        grown = grown_nowhere c.requires.close;
        inside = λ i waits.
            let found = begun_open c.requires.empty c.if-queue_open_pairs.ensures i waits in
            (found.0, found.2.from_inside, found.3);
        waits = λ all. begun_wait refl c.if-queue_open_pairs.ensures (λ p q raises. raises.from_inside);
      };
  rose = inl refl;
}

pub spread_first-requires-clause-open : goal.spread_first-requires-clause-open
spread_first-requires-clause-open c = record {
  each = begun_open c.requires.empty c.queue_open_pairs.ensures;
  some = elim c.queue_open_pairs.ensures.full [
    | inl room ↦ absurd (let no : false ≡ true = sym c.if-queue_open_pairs.false ∙ room in cc)
    | inr some ↦ some
  ];
}

pub returns : goal.returns
returns c = record {
  scanned = c.spread_first.ensures.scanned;
  rose = inr c.spread_first.ensures.rose;
}
