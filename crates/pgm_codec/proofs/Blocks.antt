-- A text put piece by piece.
use Rattle.std.proofs.Common.{◌≡◌, ℕ, List, [], ◌++◌, Option, Result, Ok, Err, length, take, drop, sym, refl, ap, subst}
use Rattle.std.proofs.Common.{◌∙◌, append_assoc, append-nil, take-append-drop, take_at, flat_map}
use Rattle.std.proofs.{KnownBytes.Appends-trans, lemmas.Grind.flat_map-append}
use Rattle.std.specs.Io.KnownBytes.{Appends}
use Rattle.byte_devices.specs.{Device.SinkSeen, Device.HasRisen, Transfer.AppendsFront, Transfer.PutsAll}

-- what is left, in two pieces
two_pieces : (n : ℕ) (rest next behind : List ℕ) → next ≡ take n rest → behind ≡ drop n rest → rest ≡ next ++ behind
two_pieces n rest next behind e f =
    sym (take-append-drop n rest) ∙ ap (λ (l : List ℕ). l ++ drop n rest) (sym e)
    ∙ ap (λ (l : List ℕ). next ++ l) (sym f)

-- the next samples were put behind those that are done
pub block_more : (f : ℕ → List ℕ) (all done rest next behind : List ℕ) (n : ℕ) (old mid new : Option (List ℕ))
    → all ≡ done ++ rest → next ≡ take n rest → behind ≡ drop n rest
    → Appends old mid (flat_map f done) → Appends mid new (flat_map f next)
    → (front : List ℕ) × (all ≡ front ++ behind) × Appends old new (flat_map f front)
block_more f all done rest next behind n old mid new split e g put more = (
  done ++ next,
  split ∙ ap (λ (l : List ℕ). done ++ l) (two_pieces n rest next behind e g) ∙ sym (append_assoc done next behind),
  subst (Appends old new) (sym (flat_map-append f done next))
      (Appends-trans old mid new (flat_map f done) (flat_map f next) put more),
)

-- the bytes of samples in three pieces
pub three_pieces : (f : ℕ → List ℕ) (all done rest next behind : List ℕ) (n : ℕ)
    → all ≡ done ++ rest → next ≡ take n rest → behind ≡ drop n rest
    → flat_map f all ≡ flat_map f done ++ (flat_map f next ++ flat_map f behind)
three_pieces f all done rest next behind n split e g =
    ap (flat_map f) (split ∙ ap (λ (l : List ℕ). done ++ l) (two_pieces n rest next behind e g))
    ∙ flat_map-append f done (next ++ behind)
    ∙ ap (λ (l : List ℕ). flat_map f done ++ l) (flat_map-append f next behind)

-- a front of the next bytes was put behind others: a front of all
pub front_behind : (all a b c : List ℕ) (old mid new : Option (List ℕ)) → all ≡ a ++ (b ++ c) → Appends old mid a
    → AppendsFront mid new b → AppendsFront old new all
front_behind all a b c old mid new e put (n, more) =
    let front = a ++ take n b in
    let split : all ≡ front ++ (drop n b ++ c) =
    e ∙ ap (λ (l : List ℕ). a ++ (l ++ c)) (sym (take-append-drop n b))
    ∙ ap (λ (l : List ℕ). a ++ l) (append_assoc (take n b) (drop n b) c)
    ∙ sym (append_assoc a (take n b) (drop n b ++ c)) in
    let taken : take (length front) all ≡ front = ap (take (length front)) split ∙ take_at _ _ _ refl in
    (length front, subst (Appends old new) (sym taken) (Appends-trans old mid new a (take n b) put more))

-- all bytes were put, and then others, or a front of them
pub puts_behind : {E : Type 0} (all a b : List ℕ) (old mid new : SinkSeen) (r : Result (Unit {0}) E) → all ≡ a ++ b
    → Appends old.written mid.written a → mid.failures ≡ old.failures → PutsAll r mid new b → PutsAll r old new all
puts_behind all a b old mid new (Ok x) e put steady h = record {
  text = subst (Appends old.written new.written) (sym e)
      (Appends-trans old.written mid.written new.written a b put h.text);
  steady = h.steady ∙ steady;
  fault = tt;
  front = tt;
}
puts_behind all a b old mid new (Err x) e put steady h = record {
  text = tt;
  steady = tt;
  fault = subst (λ (n : ℕ). HasRisen n new.failures) steady h.fault;
  front = front_behind all a b [] old.written mid.written new.written
      (e ∙ ap (λ (l : List ℕ). a ++ l) (sym (append-nil b))) put h.front;
}
