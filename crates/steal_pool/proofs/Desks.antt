-- What is on a hand's desk.
use Rattle.std.proofs.Common.{◌≡◌, ℕ, List, [], ◌∷◌, ◌++◌, Option, Some, None, IfSome, MatchOption, option_to_list}
use Rattle.std.proofs.Common.{option_map, get_or, sym, refl, ap, ◌∙◌, subst, Global}
use Rattle.std.proofs.lemmas.List.{append-nil, append_assoc}
use Rattle.rtrb.specs.{declared.producer.Producer.Producer, Ring.sent}
use Rattle.crossbeam_deque.specs.{declared.steal.Steal.Steal, Steals.MatchSteal, Handles.IsPassOf}
use Rattle.crossbeam_deque.specs.declared.steal.Steal.TheVariants.{Empty, Retry, Success}
use Rattle.tile_generations.specs.Jobs.{Job}
use Rattle.steal_pool.specs.{declared.report.Report.Report, declared.rule.EndView.EndView, Deal.Gets}
use Rattle.steal_pool.specs.{declared.parcel.Parcel.Parcel, declared.parcel.Reporting.Reporting}
use Rattle.steal_pool.specs.Parcels.{IsHeaded, IsReportFrom, hand_at, jobs_by, jobs_in, parcels_of, reports_in}
use Rattle.steal_pool.specs.{Names.DequeName, Reports.IsReportOf, Reports.AreReported, Views.HandView}
use Rattle.steal_pool.specs.{Views.reports, Working.Adds}
use Rattle.steal_pool.proofs.Parcels.{headed_more, held_report, jobs_more, reports_more}
use Rattle.steal_pool.proofs.Turns.{one_reported, zip_rest}

abbrev Ring : Type 0
Ring = Producer Parcel Global Reporting

-- one job was got by the pass, or none was
pub stolen : (E R : Type 0) (name : DequeName) (ring : Ring) (held : Option Parcel) (v w : EndView) (steal : Steal Job)
    (result : Option Job)
    → MatchSteal steal ((w ≡ v) × E) ((w ≡ v) × R) (λ x. Gets v (x ∷ []) w)
    → MatchSteal steal (result ≡ None) (result ≡ None) (λ x. result ≡ Some x)
    → MatchOption result (hand_at name ring held w.got ≡ hand_at name ring held v.got)
    (Adds (hand_at name ring held v.got) (hand_at name ring held w.got))
stolen E R name ring held v w Empty result same none =
    subst
    (λ (r : Option Job). MatchOption r (hand_at name ring held w.got ≡ hand_at name ring held v.got)
    (Adds (hand_at name ring held v.got) (hand_at name ring held w.got)))
    (sym none) (ap (λ (u : EndView). hand_at name ring held u.got) same.0)
stolen E R name ring held v w Retry result same none =
    subst
    (λ (r : Option Job). MatchOption r (hand_at name ring held w.got ≡ hand_at name ring held v.got)
    (Adds (hand_at name ring held v.got) (hand_at name ring held w.got)))
    (sym none) (ap (λ (u : EndView). hand_at name ring held u.got) same.0)
stolen E R name ring held v w (Success x) result gets some =
    let is : x ≡ gets.1 = ap (λ (l : List Job). get_or l 0 x) gets.2 in
    let more : w.got ≡ v.got ++ (gets.0, x) ∷ [] =
    ap (λ (u : EndView). u.got) gets.3 ∙ ap (λ (y : Job). v.got ++ (gets.0, y) ∷ []) (sym is) in
    let all : jobs_in (parcels_of ring held) ++ w.got ≡ (jobs_in (parcels_of ring held) ++ v.got) ++ (gets.0, x) ∷ [] =
    ap (λ (l : List (ℕ × Job)). jobs_in (parcels_of ring held) ++ l) more
    ∙ sym (append_assoc (jobs_in (parcels_of ring held)) v.got ((gets.0, x) ∷ [])) in
    subst
    (λ (r : Option Job). MatchOption r (hand_at name ring held w.got ≡ hand_at name ring held v.got)
    (Adds (hand_at name ring held v.got) (hand_at name ring held w.got)))
    (sym some) (gets.0, λ i. record (hand_at name ring held v.got) { got = all i })

-- no report is held, so no parcel is
none_held : (held : Option Parcel) → option_map (λ parcel. parcel.report) held ≡ None → held ≡ None
none_held None none = refl
none_held (Some parcel) none = absurd cc

-- what is held of a report that was to be sent
held_from : (deque : DequeName × Global) (parcel : Parcel) (held : Option Parcel) (before after : List Parcel)
    → IfSome held (λ kept. (parcel ≡ kept) × (after ≡ before)) → IsReportFrom deque parcel
    → IfSome held (IsReportFrom deque)
held_from deque parcel None before after same from = tt
held_from deque parcel (Some kept) before after same from = subst (IsReportFrom deque) same.0 from

headed_by : (deque : DequeName × Global) (held : Option Parcel) (before after others : List Parcel)
    → IsHeaded deque before → after ++ option_to_list held ≡ before ++ others → IfSome held (λ _. after ≡ before)
    → IsHeaded deque after
headed_by deque None before after others headed all same =
    subst (IsHeaded deque) (sym all ∙ append-nil after) (headed_more deque before others headed)
headed_by deque (Some parcel) before after others headed all same = subst (IsHeaded deque) (sym same) headed

same_sent : (parcel : Parcel) (held : Option Parcel) (before after : List Parcel)
    → IfSome held (λ kept. (parcel ≡ kept) × (after ≡ before)) → IfSome held (λ _. after ≡ before)
same_sent parcel None before after same = tt
same_sent parcel (Some kept) before after same = same.1

-- what was reported is what is behind the header
given : (deque : DequeName × Global) (name : DequeName) (ring : Ring) (held : Option Parcel) (more : List (ℕ × Job))
    → IsHeaded deque (sent ring) → reports (hand_at name ring held more) ≡ reports_in (parcels_of ring held)
given deque name ring held more headed =
    let all = reports_more deque (sent ring) (option_to_list held) headed in
    sym (all ∙ ap (λ (l : List Report). reports_in (sent ring) ++ l) (held_report held))

-- each job that was got by a parcel's pass has its report
abbrev AreParcelsReported : DequeName → Ring → Option Parcel → List (ℕ × Job) → Type 0
AreParcelsReported name ring held more =
    AreReported (jobs_in (parcels_of ring held)) (reports (hand_at name ring held more))

-- this is there after a desk of which contracts saw this hand reported
pub record HasReported (deque : DequeName × Global) (hand : HandView) (name : DequeName) (ring : Ring)
    (held : Option Parcel) (more : List (ℕ × Job)) : Type 0 where
  pub got : (hand_at name ring held more).got ≡ hand.got
  pub reported : AreParcelsReported name ring held more
  pub headed : IsHeaded deque (sent ring)
  pub held_from : IfSome held (IsReportFrom deque)

-- A desk, of which contracts see this hand, holds no report, and it reports the job that was got by its pass
module _ (deque : DequeName × Global) (name : DequeName) (ring : Ring) (held : Option Parcel) (more : List (ℕ × Job))
    (hand : HandView) (parcel : Parcel) (seen : hand_at name ring held more ≡ hand)
    (headed : IsHeaded deque (sent ring)) (first : AreParcelsReported name ring held more) (none : hand.held ≡ None)
    (reported : AreReported hand.got (reports hand ++ parcel.report ∷ [])) (is : jobs_by parcel ≡ more)
    (passes : IsPassOf deque parcel.pass) where
  -- the report is of that job, and both go into one parcel
  pub parcel_is_from : IsReportFrom deque parcel
  parcel_is_from =
      let before = reports (hand_at name ring held more) in
      let all = subst (λ (h : HandView). AreReported h.got (reports h ++ parcel.report ∷ [])) (sym seen) reported in
      let rest = zip_rest IsReportOf (jobs_in (parcels_of ring held)) more before (parcel.report ∷ []) all first in
      let one = one_reported more parcel.report rest in
      record { place = one.0; job = one.1; passes = passes; got = is ∙ one.2; reported = one.3 }

  module _ (ring' : Ring) (held' : Option Parcel) (more' : List (ℕ × Job)) (empty : more' ≡ [])
      (all : parcels_of ring' held' ≡ sent ring ++ parcel ∷ [])
      (same : IfSome held' (λ kept. (parcel ≡ kept) × (sent ring' ≡ sent ring))) where
    all_sent : parcels_of ring held ≡ sent ring
    all_sent =
        let no_parcel = none_held held (ap (λ (h : HandView). h.held) seen ∙ none) in
        ap (λ (h : Option Parcel). sent ring ++ option_to_list h) no_parcel ∙ append-nil (sent ring)

    now_headed : IsHeaded deque (sent ring')
    now_headed =
        headed_by deque held' (sent ring) (sent ring') (parcel ∷ []) headed all
        (same_sent parcel held' (sent ring) (sent ring') same)

    now_held : IfSome held' (IsReportFrom deque)
    now_held = held_from deque parcel held' (sent ring) (sent ring') same parcel_is_from

    all_got : jobs_in (parcels_of ring' held') ≡ hand.got
    all_got =
        ap jobs_in all
        ∙ (jobs_more deque (sent ring) parcel headed
        ∙ (ap (λ (l : List (ℕ × Job)). jobs_in (sent ring) ++ l) is
        ∙ (ap (λ (l : List Parcel). jobs_in l ++ more) (sym all_sent) ∙ ap (λ (h : HandView). h.got) seen)))

    now_got : (hand_at name ring' held' more').got ≡ hand.got
    now_got =
        ap (λ (l : List (ℕ × Job)). jobs_in (parcels_of ring' held') ++ l) empty
        ∙ (append-nil (jobs_in (parcels_of ring' held')) ∙ all_got)

    now_given : reports (hand_at name ring' held' more') ≡ reports hand ++ parcel.report ∷ []
    now_given =
        given deque name ring' held' more' now_headed
        ∙ (ap reports_in all
        ∙ (reports_more deque (sent ring) (parcel ∷ []) headed
        ∙ (ap (λ (l : List Parcel). reports_in l ++ parcel.report ∷ []) (sym all_sent)
        ∙ (ap (λ (l : List Report). l ++ parcel.report ∷ []) (sym (given deque name ring held more headed))
        ∙ ap (λ (h : HandView). reports h ++ parcel.report ∷ []) seen))))

    now_reported : AreParcelsReported name ring' held' more'
    now_reported =
        subst (λ (l : List Report). AreReported (jobs_in (parcels_of ring' held')) l) (sym now_given)
        (subst (λ (l : List (ℕ × Job)). AreReported l (reports hand ++ parcel.report ∷ [])) (sym all_got) reported)

    pub has_reported : HasReported deque hand name ring' held' more'
    has_reported = record {
      got = now_got;
      reported = now_reported;
      headed = now_headed;
      held_from = now_held;
    }
