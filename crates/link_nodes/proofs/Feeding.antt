-- Datagrams that are carried and given, one after another.
use Rattle.std.proofs.Common.{◌≡◌, ℕ, ◌+◌, ◌<◌, ◌≤◌, List, [], ◌∷◌, ◌++◌, length, take, drop, map, min, Some, sym, ap}
use Rattle.std.proofs.Common.{subst, ◌∙◌, arith, append_assoc, get_or, slice_get, drop-cons, add-one}
use Rattle.std.proofs.lemmas.List.{take-append-le, take_min, take_more, take_all, length-take, length-append}
use Rattle.std.proofs.lemmas.List.{map-append}
use Rattle.std.proofs.lemmas.Option.{slice_get-get_or}
use Rattle.core.proofs.slice.Lists.{all_zipped_more}
use Rattle.link_nodes.specs.declared.link.TheConstants.{BUFFER_BYTES}
use Rattle.link_nodes.specs.MemoryLinks.{MemoryLinkView, StandAt, IsFed, front_of}

-- one datagram more is fed
pub fed_more : (datagrams : List (List ℕ)) (places places' : List ℕ) (place : ℕ) (datagram : List ℕ)
    (old now new : MemoryLinkView) → IsFed datagrams places old now → places' ≡ places ++ place ∷ []
    → slice_get datagrams place ≡ Some datagram
    → new ≡ record now { waiting = now.waiting ++ datagram ∷ [] } → IsFed datagrams places' old new
fed_more datagrams places places' place datagram old now new fed is stands step = (
  fed.0 ++ datagram ∷ [],
  subst (λ (l : List ℕ). StandAt datagrams l (fed.0 ++ datagram ∷ [])) (sym is)
      (all_zipped_more (λ i d. slice_get datagrams i ≡ Some d) places fed.0 place datagram fed.1 stands),
  step
      ∙ ap (λ (m : MemoryLinkView). record m { waiting = m.waiting ++ datagram ∷ [] }) fed.2
      ∙ ap (λ (l : List (List ℕ)). record old { waiting = l }) (append_assoc old.waiting fed.0 (datagram ∷ [])),
)

pub stands_at : (items datagrams : List (List ℕ)) (place : ℕ) (datagram : List ℕ) → items ≡ datagrams
    → place < length datagrams → datagram ≡ get_or items place datagram → slice_get datagrams place ≡ Some datagram
stands_at items datagrams place datagram same within is =
    slice_get-get_or datagrams place datagram within
    ∙ ap Some (sym (is ∙ ap (λ (l : List (List ℕ)). get_or l place datagram) same))

-- ---- the datagram that waits longest

pub next_waiting : (fed : List (List ℕ)) (given : ℕ) (datagram : List ℕ) → given < length fed
    → datagram ≡ get_or fed given datagram → drop given fed ≡ datagram ∷ drop (given + 1) fed
next_waiting fed given datagram within is =
    cc (drop-cons fed given datagram within, is, add-one given)

pub next_heard : (fed : List (List ℕ)) (given : ℕ) (datagram : List ℕ) → given < length fed
    → datagram ≡ get_or fed given datagram
    → map front_of (take (given + 1) fed) ≡ map front_of (take given fed) ++ front_of datagram ∷ []
next_heard fed given datagram within is =
    let longer = take_more fed given datagram within in
    cc (longer, map-append front_of (take given fed) (get_or fed given datagram ∷ []), is)

copied_long : (datagram copied : List ℕ) (n : ℕ) → n ≡ min (length datagram) BUFFER_BYTES → copied ≡ take n datagram
    → length copied ≡ n
copied_long datagram copied n least is =
    let long : length copied ≡ min n (length datagram) = ap length is ∙ length-take n datagram in
    omega (arith, long, least)

pub front_fits : (datagram copied rest : List ℕ) (n : ℕ) → n ≡ min (length datagram) BUFFER_BYTES
    → copied ≡ take n datagram → n ≤ length (copied ++ rest)
front_fits datagram copied rest n least is =
    omega (arith, copied_long datagram copied n least is, length-append copied rest)

pub front_copied : (datagram copied rest : List ℕ) (n : ℕ) → n ≡ min (length datagram) BUFFER_BYTES
    → copied ≡ take n datagram → take n (copied ++ rest) ≡ front_of datagram
front_copied datagram copied rest n least is =
    let long = copied_long datagram copied n least is in
    let turned : n ≡ min BUFFER_BYTES (length datagram) = omega (arith, least) in
    take-append-le n copied rest (omega (arith, long)) ∙ take_all n copied (omega (arith, long)) ∙ is
    ∙ ap (λ (k : ℕ). take k datagram) turned ∙ take_min BUFFER_BYTES datagram
