-- The first delta that a state does not take.
use Rattle.std.proofs.Common.{◌≡◌, ℕ, suc, ◌+◌, ◌<◌, List, [], ◌∷◌, ◌++◌, length, take, drop, get_or, Some, refl, sym}
use Rattle.std.proofs.Common.{ap, ◌∙◌, subst, add-one, arith, inl, inr, map, append_assoc}
use Rattle.std.proofs.{lemmas.Bool.cases_lt, Math.Seq.drop-cons, Math.Seq.take-length}
use Rattle.std.proofs.lemmas.List.{take_more, take-append-drop, append-nil}
use Rattle.std.specs.List.{AllByRecursion}
use Rattle.stroke_core.specs.Seed.{Seed, Fits}
use Rattle.stroke_lattice.specs.State.{State, nothing, HasStroke, StateFits, SomeHasStroke, IsJoin, IsJoinOf}
use Rattle.stroke_lattice.specs.State.{AreCompatible, IsLeastClash}
use Rattle.stroke_lattice.specs.declared.error.StateError.{StateError}
use Rattle.core_rules.specs.{Codes.refused_state, declared.error.CoreError.CoreError}
use Rattle.core_rules.specs.declared.error.CoreError.TheVariants.{OutOfImage, Conflict, Memory}
use Rattle.view_session.specs.Merging.{AreMerged, IsRefusedBy, IsKeptOut, IsFirstRefusal, IsStop, LeadsOn, StopsBehind}
use Rattle.view_session.specs.LowerLaws.{JoinLaw, EmptyJoinLaw, LongerJoinLaw}
use Rattle.view_session.proofs.Lists.{longer_front, same_parts, all_middle, all_push}
use Rattle.stroke_lattice.specs.declared.error.StateError.TheVariants as merge

-- ---- what stands among states

some_in_front : (states rest : List State) (tag : ℕ) (seed : Seed) → SomeHasStroke states tag seed
    → SomeHasStroke (states ++ rest) tag seed
some_in_front [] rest tag seed has = absurd has
some_in_front (s ∷ states) rest tag seed (inl here) = inl here
some_in_front (s ∷ states) rest tag seed (inr there) = inr (some_in_front states rest tag seed there)

some_in_middle : (states rest : List State) (delta : State) (tag : ℕ) (seed : Seed) → HasStroke delta tag seed
    → SomeHasStroke (states ++ delta ∷ rest) tag seed
some_in_middle [] rest delta tag seed has = inl has
some_in_middle (s ∷ states) rest delta tag seed has = inr (some_in_middle states rest delta tag seed has)

one_stroke : (s : State) (tag : ℕ) (a b : Seed) → HasStroke s tag a → HasStroke s tag b → a ≡ b
one_stroke s tag a b has_a has_b = let same : Some a ≡ Some b = sym has_a ∙ has_b in cc

-- ---- one delta after another

-- the deltas in three: those before, the one at an index, and those after
parts_at : (deltas : List State) (i : ℕ) (delta : State) → i < length deltas → delta ≡ get_or deltas i delta
    → deltas ≡ take i deltas ++ delta ∷ drop (i + 1) deltas
parts_at deltas i delta within read =
    sym (take-append-drop i deltas)
    ∙ ap (λ (rest : List State). take i deltas ++ rest)
    (drop-cons deltas i delta within ∙ ap (λ (s : State). s ∷ drop (suc i) deltas) (sym read) ∙ ap
    (λ n. delta ∷ drop n deltas) (sym (add-one i)))

-- no delta is merged into nothing
pub merged_none : EmptyJoinLaw → (w h : ℕ) (state : State) → state ≡ nothing → AreMerged w h [] state
merged_none empty w h state is = record { fit = tt; join = (empty state).1 is }

-- no delta leads nowhere
pub leads_nowhere : (w h : ℕ) (deltas : List State) (state : State) → LeadsOn w h (take 0 deltas) state state
leads_nowhere w h deltas state front merged =
    subst (λ states. AreMerged w h states state) (sym (append-nil front)) merged

-- one delta more leads on
pub leads_further : LongerJoinLaw → (w h : ℕ) (deltas : List State) (i : ℕ) (delta old state next : State)
    → i < length deltas → delta ≡ get_or deltas i delta → LeadsOn w h (take i deltas) old state → StateFits w h delta
    → IsJoin state delta next → LeadsOn w h (take (i + 1) deltas) old next
leads_further longer w h deltas i delta old state next within read leads fits join front merged =
    let so_far = leads front merged in
    let more : front ++ take (i + 1) deltas ≡ (front ++ take i deltas) ++ delta ∷ [] =
    ap (λ (rest : List State). front ++ rest)
    (take_more deltas i delta within ∙ ap (λ (s : State). take i deltas ++ s ∷ []) (sym read))
    ∙ sym (append_assoc front (take i deltas) (delta ∷ [])) in
    subst (λ states. AreMerged w h states next) (sym more) (record {
      fit = all_push (StateFits w h) (front ++ take i deltas) delta so_far.fit fits;
      join = (longer (front ++ take i deltas) state delta next so_far.join).1 join;
    })

-- all deltas lead on
pub leads_to_end : (w h : ℕ) (deltas : List State) (i : ℕ) (old state : State) → i ≡ length deltas
    → LeadsOn w h (take i deltas) old state → LeadsOn w h deltas old state
leads_to_end w h deltas i old state end leads =
    subst (λ states. LeadsOn w h states old state) (ap (λ n. take n deltas) end ∙ take-length deltas) leads

-- merging stops at an index, behind whatever was merged before
pub stops_at : (w h : ℕ) (deltas : List State) (i : ℕ) (delta old state : State) (e : CoreError) → i < length deltas
    → delta ≡ get_or deltas i delta → LeadsOn w h (take i deltas) old state → IsKeptOut w h state delta e
    → StopsBehind w h deltas old e
stops_at w h deltas i delta old state e within read leads why front merged =
    let parts : front ++ deltas ≡ (front ++ take i deltas) ++ delta ∷ drop (i + 1) deltas =
    ap (λ (rest : List State). front ++ rest) (parts_at deltas i delta within read)
    ∙ sym (append_assoc front (take i deltas) (delta ∷ drop (i + 1) deltas)) in
    elim why [
      | inl refused ↦ inl (record {
        before = front ++ take i deltas;
        delta = delta;
        after = drop (i + 1) deltas;
        parts = parts;
        state = state;
        merged = leads front merged;
        refused = refused;
      })
      | inr (memory, fits, compatible) ↦ inr (
        memory,
        record {
          before = front ++ take i deltas;
          delta = delta;
          after = drop (i + 1) deltas;
          parts = parts;
          state = state;
          merged = leads front merged;
          fits = fits;
          compatible = compatible;
        },
      )
    ]

-- merging that stops among the first deltas stops among them and others
pub stops_before : (w h : ℕ) (deltas others : List State) (e : CoreError) → IsStop w h deltas e
    → IsStop w h (deltas ++ others) e
stops_before w h deltas others e (inl first) = inl (record {
  before = first.before;
  delta = first.delta;
  after = first.after ++ others;
  parts =
      ap (λ (ds : List State). ds ++ others) first.parts ∙ append_assoc first.before (first.delta ∷ first.after) others;
  state = first.state;
  merged = first.merged;
  refused = first.refused;
})
stops_before w h deltas others e (inr (memory, halted)) = inr (
  memory,
  record {
    before = halted.before;
    delta = halted.delta;
    after = halted.after ++ others;
    parts =
        ap (λ (ds : List State). ds ++ others) halted.parts ∙ append_assoc halted.before (halted.delta ∷ halted.after)
        others;
    state = halted.state;
    merged = halted.merged;
    fits = halted.fits;
    compatible = halted.compatible;
  },
)

-- why a merge was refused, after the delta was found to fit
pub merge_refused : (w h : ℕ) (state delta : State) (e : StateError) → StateFits w h delta → (e ≡ merge.Memory
    → AreCompatible state delta)
    → ((tag : ℕ) → e ≡ merge.Conflict tag → IsLeastClash state delta tag) → IsKeptOut w h state delta (refused_state e)
merge_refused w h state delta (merge.Conflict tag) fits memory conflict = inl (fits, conflict tag refl)
merge_refused w h state delta merge.Memory fits memory conflict = inr (refl, fits, memory refl)

-- the join of deltas that all fit does
pub join_fits : (w h : ℕ) (deltas : List State) (state : State) → AreMerged w h deltas state → StateFits w h state
join_fits w h deltas state merged tag seed has = go deltas merged.fit ((merged.join.strokes tag seed).0 has)
  where
    go : (states : List State) → AllByRecursion (StateFits w h) states → SomeHasStroke states tag seed → Fits w h seed
    go [] fit some = absurd some
    go (s ∷ states) fit (inl here) = fit.0 tag seed here
    go (s ∷ states) fit (inr there) = go states fit.1 there

-- what holds of sides holds of equal ones
pub resized : (P : ℕ → ℕ → Type 0) (w width h height : ℕ) → w ≡ width → h ≡ height → P w h → P width height
resized P w width h height same_w same_h p = subst (λ n. P width n) same_h (subst (λ n. P n h) same_w p)

-- deltas behind one
pub behind_one : (front : List State) (old : State) (given deltas : List State) → front ≡ old ∷ [] → given ≡ deltas
    → map (λ s. s) front ++ given ≡ old ∷ deltas
behind_one front old given deltas same_front same =
    ap (λ (states : List State). map (λ (s : State). s) states ++ given) same_front ∙ ap
    (λ (states : List State). old ∷ states) same

-- ---- a refused delta

-- deltas that are merged have no refused one among them
pub none_refused : (w h : ℕ) (before after : List State) (delta state whole : State) (e : CoreError)
    → AreMerged w h (before ++ delta ∷ after) whole → AreMerged w h before state → IsRefusedBy w h state delta e → ⊥
none_refused w h before after delta state whole (OutOfImage tag) all front ((seed, has, unfit), least) =
    unfit (all_middle (StateFits w h) before delta after all.fit tag seed has)
none_refused w h before after delta state whole (Conflict tag) all front (fits, (clash, least)) =
    let first : HasStroke whole tag clash.seed =
    (all.join.strokes tag clash.seed).1 (some_in_front before (delta ∷ after) tag clash.seed
    ((front.join.strokes tag clash.seed).0 clash.in_first)) in
    let second : HasStroke whole tag clash.other = (all.join.strokes tag clash.other).1
    (some_in_middle before after delta tag clash.other clash.in_second) in
    clash.differ (one_stroke whole tag clash.seed clash.other first second)
none_refused w h before after delta state whole e all front refused = refused

-- a delta is refused for one reason
refused_once : (w h : ℕ) (state delta : State) (d e : CoreError) → IsRefusedBy w h state delta d
    → IsRefusedBy w h state delta e → d ≡ e
refused_once w h state delta (OutOfImage t) (OutOfImage u) (out, least) (other, least_other) =
    let same : t ≡ u = omega (arith, least u other, least_other t out) in ap (λ n. OutOfImage n) same
refused_once w h state delta (OutOfImage t) (Conflict u) ((seed, has, unfit), least) (fits, clash) =
    absurd (unfit (fits t seed has))
refused_once w h state delta (Conflict t) (OutOfImage u) (fits, clash) ((seed, has, unfit), least) =
    absurd (unfit (fits u seed has))
refused_once w h state delta (Conflict t) (Conflict u) (fits, (clash, least)) (again, (other, least_other)) =
    let same : t ≡ u = omega (arith, least u other, least_other t clash) in ap (λ n. Conflict n) same
refused_once w h state delta d e a b = absurd assumption

-- no delta is refused before the first one
not_earlier : (w h : ℕ) (deltas : List State) (d e : CoreError) (a : IsFirstRefusal w h deltas d)
    (b : IsFirstRefusal w h deltas e) → length a.before < length b.before → ⊥
not_earlier w h deltas d e a b less =
    let longer = longer_front a.before a.after b.before (b.delta ∷ b.after) a.delta (sym a.parts ∙ b.parts) less in
    none_refused w h a.before longer.0 a.delta a.state b.state d
    (subst (λ states. AreMerged w h states b.state) longer.1 b.merged) a.merged a.refused

-- deltas have one first refusal
pub one_first_refusal : JoinLaw → (w h : ℕ) (deltas : List State) (d e : CoreError) → IsFirstRefusal w h deltas d
    → IsFirstRefusal w h deltas e → d ≡ e
one_first_refusal one_join w h deltas d e a b =
    elim (cases_lt (length a.before) (length b.before)) [
      | inl less ↦ absurd (not_earlier w h deltas d e a b less)
      | inr at_least ↦ elim (cases_lt (length b.before) (length a.before)) [
        | inl more ↦ absurd (not_earlier w h deltas e d b a more)
        | inr at_most ↦
            let same = same_parts a.before (a.delta ∷ a.after) b.before (b.delta ∷ b.after) (sym a.parts ∙ b.parts)
            (omega arith) in
            let join : IsJoinOf b.before a.state = subst (λ states. IsJoinOf states a.state) same.0 a.merged.join in
            let states : a.state ≡ b.state = one_join b.before a.state b.state join b.merged.join in
            let deltas_same : a.delta ≡ b.delta = first_of (a.delta) (b.delta) a.after b.after same.1 in
            refused_once w h b.state b.delta d e
            (subst (λ s. IsRefusedBy w h s b.delta d) states
            (subst (λ s. IsRefusedBy w h a.state s d) deltas_same a.refused)) b.refused
      ]
    ]
  where
    first_of : (x y : State) (xs ys : List State) → x ∷ xs ≡ y ∷ ys → x ≡ y
    first_of x y xs ys e = cc
