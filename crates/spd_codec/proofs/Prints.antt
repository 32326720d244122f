-- What a hasher holds after the parts of a raw file.
use Rattle.std.proofs.Common.{◌≡◌, ℕ, List, [], ◌∷◌, ◌++◌, take, drop, refl, sym, ap, ◌∙◌, subst, append_assoc, decimal}
use Rattle.std.proofs.Common.{flat_map}
use Rattle.std.proofs.lemmas.List.{take-append-drop}
use Rattle.sha2.specs.{Hashers.Holds256, declared.Sha256.Sha256}
use Rattle.pgm_codec.specs.{Graymap.Graymap, Writing.sample_bytes, Writing.raw_header}

-- the parts of a header, one after the other
pub header_parts : (m magic w blank h lf v end : List ℕ) (g : Graymap) → magic ≡ 80 ∷ 53 ∷ 10 ∷ []
    → w ≡ decimal g.raster.width → blank ≡ 32 ∷ [] → h ≡ decimal g.raster.height → lf ≡ 10 ∷ []
    → v ≡ decimal g.maxval → end ≡ 10 ∷ []
    → ((((((m ++ magic) ++ w) ++ blank) ++ h) ++ lf) ++ v) ++ end ≡ m ++ raw_header g
header_parts m magic w blank h lf v end g em ew eb eh el ev ee =
    rw (em, ew, eb, eh, el, ev, ee) (simp append_assoc)

flat_map_join : (f : ℕ → List ℕ) (xs ys : List ℕ) → flat_map f (xs ++ ys) ≡ flat_map f xs ++ flat_map f ys
flat_map_join f [] ys = refl
flat_map_join f (x ∷ xs) ys = ap (λ (t : List ℕ). f x ++ t) (flat_map_join f xs ys)
    ∙ sym (append_assoc (f x) (flat_map f xs) (flat_map f ys))

-- the hasher holds the message and the bytes of some of the samples, and those of the rest are left
pub record HoldsSome (now : Sha256) (maxval : ℕ) (samples rest : List ℕ) (m : List ℕ) : Type 0 where
  pub bytes : List ℕ
  pub holds : Holds256 now (m ++ bytes)
  pub whole : bytes ++ flat_map (sample_bytes maxval) rest ≡ flat_map (sample_bytes maxval) samples

pub holds_more : (now next : Sha256) (maxval n : ℕ) (samples rest part after m : List ℕ)
    → part ≡ take n rest → after ≡ drop n rest
    → ((t : List ℕ) → Holds256 now t → Holds256 next (t ++ flat_map (sample_bytes maxval) part))
    → HoldsSome now maxval samples rest m → HoldsSome next maxval samples after m
holds_more now next maxval n samples rest part after m front back adds some =
    let f = sample_bytes maxval in
    let split : part ++ after ≡ rest = rw (front, back) (take-append-drop n rest) in
    record {
      bytes = some.bytes ++ flat_map f part;
      holds = subst (Holds256 next) (append_assoc m some.bytes (flat_map f part)) (adds (m ++ some.bytes) some.holds);
      whole = append_assoc some.bytes (flat_map f part) (flat_map f after)
          ∙ ap (λ (t : List ℕ). some.bytes ++ t) (sym (flat_map_join f part after) ∙ ap (flat_map f) split)
          ∙ some.whole;
    }
