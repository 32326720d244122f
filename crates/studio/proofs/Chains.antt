-- What follows of chains, and how they grow.
use Rattle.std.proofs.Common.{◌≡◌, List, [], ◌∷◌, ◌++◌, length, drop, take, refl, ap, sym, ◌∙◌, subst, All, Some}
use Rattle.std.proofs.lemmas.List.{take-append-drop}
use Rattle.std.proofs.Math.Seq.{take-append_seam}
use Rattle.std.proofs.lemmas.List.Elements.{All-nil, All-cons, All-head, All-push, All-tail, All-weaker}
use Rattle.stroke_lattice.proofs.Joins.{below_itself, below_through}
use Rattle.studio.specs.Shots.{Shot, IsSound}
use Rattle.studio.specs.Chains.{IsChain, Rises, LeadsTo, MayFollow, last_of, Begins, Holds}
use Rattle.studio.proofs.Fronts.{prefix_trans}

leads_self : (x : Shot) → LeadsTo x x
leads_self x = record { mask = refl; conn = refl; state = below_itself x.state }

leads_through : (x y z : Shot) → LeadsTo x y → LeadsTo y z → LeadsTo x z
leads_through x y z a b = record {
  mask = b.mask ∙ a.mask;
  conn = b.conn ∙ a.conn;
  state = below_through x.state y.state z.state a.state b.state;
}

-- all shots lead to the last
top : (chain : List Shot) (s : Shot) → Rises chain → last_of chain ≡ Some s → All (λ x. LeadsTo x s) chain
top [] s r e = All-nil (λ (x : Shot). LeadsTo x s)
top (x ∷ []) s r e =
    let same : x ≡ s = cc in
    let P : Shot → Type 0 = λ z. LeadsTo x z in
    All-cons (λ (x : Shot). LeadsTo x s) x [] (subst P same (leads_self x)) (All-nil (λ (x : Shot). LeadsTo x s))
top (x ∷ (y ∷ ys)) s r e =
    let Q : Shot → Type 0 = λ z. LeadsTo z s in
    let rest : All Q (y ∷ ys) = top (y ∷ ys) s r.1 e in
    let next : LeadsTo x y = All-head (λ (z : Shot). LeadsTo x z) y ys r.0 in
    All-cons Q x (y ∷ ys) (leads_through x y s next (All-head Q y ys rest)) rest

pub all_lead_to_last : (chain : List Shot) (last : Shot) → IsChain chain → last_of chain ≡ Some last
    → All (λ x. LeadsTo x last) chain
all_lead_to_last chain last c e = top chain last c.rises e

holds_of_last : (P : Shot → Type 0) (xs : List Shot) (s : Shot) → All P xs → last_of xs ≡ Some s → P s
holds_of_last P [] s a e = absurd (cc e)
holds_of_last P (x ∷ []) s a e = let same : x ≡ s = cc in subst P same (All-head P x [] a)
holds_of_last P (x ∷ (y ∷ ys)) s a e = holds_of_last P (y ∷ ys) s (All-tail P x (y ∷ ys) a) e

pub last_is_sound : (chain : List Shot) (last : Shot) → IsChain chain → last_of chain ≡ Some last → IsSound last
last_is_sound chain last c e = holds_of_last (λ x. IsSound x) chain last c.sound e

all_of_front : (P : Shot → Type 0) (xs rest : List Shot) → All P (xs ++ rest) → All P xs
all_of_front P [] rest a = All-nil P
all_of_front P (x ∷ xs) rest a =
    All-cons P x xs (All-head P x (xs ++ rest) a) (all_of_front P xs rest (All-tail P x (xs ++ rest) a))

pub beginnings_lead_to_last : (chain seen : List Shot) (last : Shot) → IsChain chain → last_of chain ≡ Some last
    → Begins chain seen → All (λ x. LeadsTo x last) seen
beginnings_lead_to_last chain seen last c e b =
    let P : Shot → Type 0 = λ x. LeadsTo x last in
    all_of_front P seen b.0 (subst (λ (l : List Shot). All P l) (sym b.1) (all_lead_to_last chain last c e))

pub later_leads_on : (chain seen : List Shot) (last before : Shot) → IsChain chain → last_of chain ≡ Some last
    → Begins chain seen → last_of seen ≡ Some before → LeadsTo before last
later_leads_on chain seen last before c e b f =
    holds_of_last (λ (x : Shot). LeadsTo x last) seen before (beginnings_lead_to_last chain seen last c e b) f

rises_snoc : (chain : List Shot) (y : Shot) → Rises chain → All (λ x. LeadsTo x y) chain → Rises (chain ++ y ∷ [])
rises_snoc [] y r h = (All-nil (λ (z : Shot). LeadsTo y z), tt)
rises_snoc (x ∷ xs) y r h =
    let P : Shot → Type 0 = λ z. LeadsTo x z in
    let Q : Shot → Type 0 = λ z. LeadsTo z y in (
      All-push P xs y r.0 (All-head Q x xs h),
      rises_snoc xs y r.1 (All-tail Q x xs h),
    )

-- a chain goes on by a shot that may follow its last
pub chain_snoc : (chain : List Shot) (s y : Shot) → IsChain chain → last_of chain ≡ Some s → MayFollow s y
    → IsChain (chain ++ y ∷ [])
chain_snoc chain s y c e may =
    let S : Shot → Type 0 = λ x. IsSound x in
    record {
      sound = All-push S chain y c.sound may.sound;
      rises = rises_snoc chain y c.rises (All-weaker (λ x. LeadsTo x s) (λ x. LeadsTo x y)
          (λ x to. leads_through x s y to may.leads) chain (top chain s c.rises e));
    }

pub chain_one : (y : Shot) → IsSound y → IsChain (y ∷ [])
chain_one y sound =
    let S : Shot → Type 0 = λ x. IsSound x in
    record { sound = All-cons S y [] sound (All-nil S); rises = (All-nil (λ (z : Shot). LeadsTo y z), tt) }

pub last_snoc : (chain : List Shot) (y : Shot) → last_of (chain ++ y ∷ []) ≡ Some y
last_snoc [] y = refl
last_snoc (x ∷ []) y = refl
last_snoc (x ∷ (z ∷ zs)) y = last_snoc (z ∷ zs) y

holds_begins : (chain seen : List Shot) → Holds chain seen → Begins chain seen
holds_begins chain seen h =
    let rest : List Shot = drop (length seen) chain in
    (rest, ap (λ (l : List Shot). l ++ rest) (sym h) ∙ take-append-drop (length seen) chain)

-- what goes on from a chain begins with what that began with
pub begins_on : (old new seen : List Shot) → Holds old seen → Begins new old → Begins new seen
begins_on old new seen h b = prefix_trans seen old new (holds_begins old seen h) b

-- and so it does as an equation
pub holds_on : (old new seen : List Shot) → Holds old seen → Begins new old → Holds new seen
holds_on old new seen h b =
    let on : Begins new seen = begins_on old new seen h b in
    subst (λ (l : List Shot). take (length seen) l ≡ seen) on.1 (take-append_seam seen on.0)
