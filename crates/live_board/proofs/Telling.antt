-- What steps on words tell of facts.
use Rattle.std.proofs.Common.{◌%◌, ◌*◌, ◌+◌, ◌++◌, ◌/◌, ◌<◌, IsTrue, List, [], ap, append_assoc, arith, nat_lt, refl}
use Rattle.std.proofs.Common.{subst, sym, ℕ, ◌↔◌, ◌∙◌, ◌∷◌, ◌≡◌, ◌≤◌}
use Rattle.std.proofs.lemmas.Bool.{lt-ltb, ltb-true}
use Rattle.grid_core.specs.{Raster.Raster, declared.pixel.Pixel.Pixel}
use Rattle.live_board.proofs.Places.{fact_is, number_is, small_value}
use Rattle.live_board.specs.Seats.{Adds, HasBegun, HasPeeked, HasRaised, HasRead, HasStarted, IsAnswer, IsSeen, IsTop}
use Rattle.live_board.specs.Seats.{raised_fact}
use Rattle.live_board.specs.{Steps.IsHighest, declared.fact.Fact.Fact, declared.fact.Peek.Peek, declared.fact.Seen.Seen}
use Rattle.live_board.specs.{declared.rule.Ground.Ground, declared.rule.SeatView.SeatView}
use Rattle.live_board.specs.Words.{begun, fact_of, number, place_of, taught, with_fact}

-- what no known number is above, no known value of its generation is above
pub top_of_highest : (facts : List Fact) (p : Pixel) (n : ℕ) → IsHighest facts p n → IsTop facts (fact_of p n)
top_of_highest facts p n highest f known pixel generation =
    let low : f.generation * 65536 + f.value ≤ n = highest f known pixel in
    let a : ℕ = n / 65536 in
    let b : ℕ = n % 65536 in
    let whole : a * 65536 + b ≡ n = number_is p n in
    let same : f.generation ≡ a = generation in
    let is : f.value ≤ b = omega arith in is

-- a view with one more fact
abbrev pub adds_fact : (base : Ground) (v w : SeatView) (found : ℕ) (f : Fact)
    → w ≡ with_fact v (place_of base f.pixel) found f → Adds base f v w
adds_fact base v w found f e = record {
  facts = ap (λ (u : SeatView). u.facts) e;
  generation = ap (λ (u : SeatView). u.generation) e;
  marker = ap (λ (u : SeatView). u.marker) e;
  found = found;
  stepped = ap (λ (u : SeatView). u.steps) e;
}

-- the generation was learnt
pub started_is : (v w : SeatView) (found : ℕ) → w ≡ taught v found → HasStarted v w
started_is v w found e = record {
  found = found;
  stepped = ap (λ (u : SeatView). u.steps) e;
  generation = ap (λ (u : SeatView). u.generation) e;
  facts = ap (λ (u : SeatView). u.facts) e;
}

-- a generation began, or the marker rose
pub begun_is : (v w : SeatView) (found generation : ℕ) (marker : Raster) → w ≡ begun v found generation marker
    → HasBegun generation marker v w
begun_is v w found generation marker e = record {
  generation_is = ap (λ (u : SeatView). u.generation) e;
  marker_is = ap (λ (u : SeatView). u.marker) e;
  facts = ap (λ (u : SeatView). u.facts) e;
  found = found;
  stepped = ap (λ (u : SeatView). u.steps) e;
}

-- a view with the fact of a number
abbrev pub adds_number : (base : Ground) (v w : SeatView) (n found : ℕ) (f : Fact)
    → w ≡ with_fact v (place_of base f.pixel) found (fact_of f.pixel n) → n ≡ number f → f.value < 65536
    → Adds base f v w
adds_number base v w n found f e is small = adds_fact base v w found f
    (subst (λ (g : Fact). w ≡ with_fact v (place_of base f.pixel) found g)
    (fact_is f.pixel f.generation f.value n small is) e)

-- a neighbour was raised to a number, and that it rose was told by what was found there
pub raised_is : (base : Ground) (v w : SeatView) (from : Fact) (q : Pixel) (n found : ℕ)
    → w ≡ with_fact v (place_of base q) found (fact_of q n) → n ≡ number (raised_fact base from q)
    → (raised_fact base from q).value < 65536 → HasRaised base from q (nat_lt found n) v w
raised_is base v w from q n found e is small = record {
  adds = adds_number base v w n found (raised_fact base from q) e is small;
  rose_is = subst (λ (k : ℕ). IsTrue (nat_lt found n) ↔ (found < k)) is (ltb-true found n, lt-ltb found n);
}

-- a pixel that was loaded was read
pub read_is : (base : Ground) (v w : SeatView) (p : Pixel) (n generation : ℕ) (seen : Seen)
    → w ≡ with_fact v (place_of base p) n (fact_of p n) → IsHighest v.facts p n → v.generation ≡ generation
    → IsSeen generation (fact_of p n) seen → HasRead base p seen v w
read_is base v w p n generation seen e highest same told = record {
  loaded = fact_of p n;
  of = record { pixel = refl; small = small_value n };
  adds = adds_fact base v w n (fact_of p n) e;
  is_loaded = sym (number_is p n);
  top = top_of_highest v.facts p n highest;
  seen_is = subst (λ (g : ℕ). IsSeen g (fact_of p n) seen) (sym same) told;
}

-- a pixel that was loaded, and word 0 after it
pub peek_is : (base : Ground) (v u w : SeatView) (p : Pixel) (n found generation : ℕ) (answer : Peek)
    → u ≡ with_fact v (place_of base p) n (fact_of p n) → IsHighest v.facts p n → w ≡ taught u found
    → generation ≡ w.generation → IsAnswer generation (fact_of p n) answer → HasPeeked base p answer v w
peek_is base v u w p n found generation answer first highest then is told = record {
  loaded = fact_of p n;
  of = record { pixel = refl; small = small_value n };
  facts = ap (λ (x : SeatView). x.facts) then ∙ ap (λ (x : SeatView). x.facts) first;
  found = found;
  stepped = ap (λ (x : SeatView). x.steps) then
      ∙ ap (λ (x : SeatView). x.steps ++ (0, found) ∷ []) first
      ∙ append_assoc v.steps ((place_of base p, n) ∷ []) ((0, found) ∷ [])
      ∙ ap (λ (k : ℕ). v.steps ++ (place_of base p, k) ∷ (0, found) ∷ []) (sym (number_is p n));
  generation = ap (λ (x : SeatView). x.generation) then;
  top = top_of_highest v.facts p n highest;
  answer_is = subst (λ (g : ℕ). IsAnswer g (fact_of p n) answer) is told;
}
