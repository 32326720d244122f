-- The ports of peers.
use Rattle.std.proofs.Common.{◌≡◌, ℕ, ◌+◌, ◌<◌, ◌≤◌, List, Option, Some, None, [], ◌∷◌, ◌++◌, map, length, take, get_or}
use Rattle.std.proofs.Common.{refl, sym, ap, ◌∙◌, subst, arith, decimal, Err, Bor}
use Rattle.std.proofs.{lemmas.Fmt.decimal_injective, Math.Seq.take-length}
use Rattle.std.proofs.lemmas.List.{get_or-map, length-map, map-append, take_more}
use Rattle.std.proofs.lemmas.List.Elements.{All-get_or, All-push, recursion_from_All}
use Rattle.std.specs.List.{AllByRecursion as ByRecursion}
use Rattle.clap.specs.Words.{Text}
use Rattle.command_line.specs.Words.{ArePorts, PeersAre, PortIs, Reads}
use Rattle.run_faults.specs.declared.run_error.RunError.{RunError}
use Rattle.command_line.proofs.Calls.{reads_no_more}

abbrev IsInRange : ℕ → Type 0
IsInRange port = (1 ≤ port) × (port ≤ 65535)

same_ports : (a b : List ℕ) → ByRecursion IsInRange a → ByRecursion IsInRange b → map decimal a ≡ map decimal b
    → a ≡ b
same_ports [] [] all other same = refl
same_ports [] (q ∷ qs) all other same = cc
same_ports (p ∷ ps) [] all other same = cc
same_ports (p ∷ ps) (q ∷ qs) (is, all) (is_too, other) same =
    let first : decimal p ≡ decimal q = cc in
    let rest : map decimal ps ≡ map decimal qs = cc in
    let one : p ≡ q = decimal_injective p q (omega (arith, is.1)) (omega (arith, is_too.1)) first in
    let more : ps ≡ qs = same_ports ps qs all other rest in
    cc

-- texts are at most one list of ports
one_list : (values : List Text) (a b : List ℕ) → ArePorts values a → ArePorts values b → a ≡ b
one_list values a b (all, is) (other, is_too) =
    same_ports a b (recursion_from_All IsInRange a all) (recursion_from_All IsInRange b other) (sym is ∙ is_too)

-- and so the words behind `node`
pub one_peers : (values : Option (List Text)) (a b : List ℕ) → PeersAre values a → PeersAre values b → a ≡ b
one_peers None a b first second = absurd first
one_peers (Some values) a b first second = one_list values a b first.0 second.0

-- as many texts as ports
pub as_many : (values : List Text) (ports : List ℕ) → ArePorts values ports → length values ≡ length ports
as_many values ports (all, is) = ap length is ∙ length-map ports decimal

-- one port more
pub one_more_port : (values : List Text) (i : ℕ) (value : Text) (port : ℕ) (ports : List ℕ) → i < length values
    → value ≡ get_or values i value → PortIs (Some value) port → ArePorts (take i values) ports
    → ArePorts (take (i + 1) values) (ports ++ port ∷ [])
one_more_port values i value port ports within read (is, low, high) (all, so_far) = (
  All-push IsInRange ports port all (low, high),
  take_more values i value within
      ∙ ap (λ (v : Text). take i values ++ v ∷ []) (sym read ∙ is)
      ∙ ap (λ (vs : List Text). vs ++ decimal port ∷ []) so_far
      ∙ sym (map-append decimal ports (port ∷ [])),
)

-- all of them
pub all_ports : (values : List Text) (i : ℕ) (ports : List ℕ) → i ≡ length values → ArePorts (take i values) ports
    → ArePorts values ports
all_ports values i ports end read =
    subst (λ (vs : List Text). ArePorts vs ports) (ap (λ n. take n values) end ∙ take-length values) read

-- a text that is no port is none among others
pub no_port_at : (values : List Text) (i : ℕ) (value : Text) → i < length values → value ≡ get_or values i value
    → ((port : ℕ) → PortIs (Some value) port → ⊥) → (ports : List ℕ) → ArePorts values ports → ⊥
no_port_at values i value within read none ports (all, is) =
    let there : i < length ports = omega (arith, within, as_many values ports (all, is)) in
    let port = get_or ports i 0 in
    let text : value ≡ decimal port =
    read ∙ ap (λ (vs : List Text). get_or vs i value) is ∙ get_or-map decimal ports i 0 value there in
    let range = All-get_or IsInRange ports i 0 there all in
    none port (text, range.0, range.1)

-- ---- texts that are borrowed

-- a text that is refused refuses them all
pub port_refused : (texts : List (Bor Text)) (i : ℕ) (d : Bor Text) (e : RunError) → i < length texts
    → Reads (PortIs (Some (get_or texts i d).now)) (Err e) → Reads (ArePorts (map (λ text. text.now) texts)) (Err e)
port_refused texts i d e within read =
    let text = (get_or texts i d).now in
    reads_no_more _ _ e read (λ none. no_port_at (map (λ t. t.now) texts) i text
    (rw (length-map texts (λ t. t.now)) within) (sym (get_or-map (λ t. t.now) texts i d text within)) none)

-- a text that is read is one port more
pub port_read : (texts : List (Bor Text)) (i : ℕ) (d : Bor Text) (port : ℕ) (ports more : List ℕ) → i < length texts
    → PortIs (Some (get_or texts i d).now) port → ArePorts (take i (map (λ text. text.now) texts)) ports
    → more ≡ ports ++ port ∷ [] → ArePorts (take (i + 1) (map (λ text. text.now) texts)) more
port_read texts i d port ports more within is read longer =
    let text = (get_or texts i d).now in
    subst (λ (ps : List ℕ). ArePorts (take (i + 1) (map (λ t. t.now) texts)) ps) (sym longer)
    (one_more_port (map (λ t. t.now) texts) i text port ports (rw (length-map texts (λ t. t.now)) within)
    (sym (get_or-map (λ t. t.now) texts i d text within)) is read)

-- all texts are read
pub ports_read : (texts : List (Bor Text)) (i : ℕ) (ports : List ℕ) → i ≡ length texts
    → ArePorts (take i (map (λ text. text.now) texts)) ports → ArePorts (map (λ text. text.now) texts) ports
ports_read texts i ports end read =
    all_ports (map (λ t. t.now) texts) i ports (end ∙ sym (length-map texts (λ t. t.now))) read
