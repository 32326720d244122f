-- What goes through the ring of a hand.
use Rattle.std.proofs.Common.{◌≡◌, ℕ, List, [], ◌∷◌, ◌++◌, length, Option, Some, None, option_to_list}
use Rattle.std.proofs.Common.{option_map, sym, refl, ap, ◌∙◌, subst, Global}
use Rattle.std.proofs.lemmas.List.{append-nil, map-append}
use Rattle.std.proofs.lemmas.Grind.{flat_map-append}
use Rattle.std.specs.List.{flat_map}
use mathlib.Core.List.{IsPrefix}
use mathlib.Core.Option.{some}
use lib.ListN.{get_elem?}
use Rattle.atomic_table.proofs.Lists.{at_last}
use Rattle.tile_generations.specs.Jobs.{Job}
use Rattle.steal_pool.specs.{declared.parcel.Parcel.Parcel, Names.DequeName}
use Rattle.steal_pool.specs.{declared.rule.EndView.EndView, Deal.HasPushed, Deal.view_of, Reports.IsReportOf}
use Rattle.steal_pool.specs.Parcels.{Follows, IsHeaded, IsHeader, IsReportFrom, jobs_by, jobs_in, reports_in}
use Rattle.steal_pool.specs.Parcels.{reports_of}

module _ (deque : DequeName × Global) where
  -- a report from the deque of the header may be sent
  pub follows : (parcels : List Parcel) (parcel : Parcel) → IsHeaded deque parcels → IsReportFrom deque parcel
      → Follows parcels parcel
  follows [] parcel headed from = absurd headed
  follows (header ∷ parcels) parcel headed from =
      subst (λ (d : DequeName × Global). IsReportFrom d parcel) (sym headed) from

  -- and what was sent is one
  pub is_from : (parcels : List Parcel) (parcel : Parcel) → IsHeaded deque parcels → Follows parcels parcel
      → IsReportFrom deque parcel
  is_from [] parcel headed sent = absurd headed
  is_from (header ∷ parcels) parcel headed sent =
      subst (λ (d : DequeName × Global). IsReportFrom d parcel) headed sent

  pub headed_more : (parcels more : List Parcel) → IsHeaded deque parcels → IsHeaded deque (parcels ++ more)
  headed_more [] more headed = absurd headed
  headed_more (header ∷ parcels) more headed = headed

  pub headed : (parcels : List Parcel) → IsHeader deque parcels → IsHeaded deque parcels
  headed parcels h = subst (IsHeaded deque) (sym h.1) h.2

  pub jobs_more : (parcels : List Parcel) (parcel : Parcel) → IsHeaded deque parcels
      → jobs_in (parcels ++ parcel ∷ []) ≡ jobs_in parcels ++ jobs_by parcel
  jobs_more [] parcel headed = absurd headed
  jobs_more (header ∷ parcels) parcel headed =
      flat_map-append jobs_by parcels (parcel ∷ [])
      ∙ ap (λ (l : List (ℕ × Job)). flat_map jobs_by parcels ++ l) (append-nil (jobs_by parcel))

  pub reports_more : (parcels more : List Parcel) → IsHeaded deque parcels
      → reports_in (parcels ++ more) ≡ reports_in parcels ++ reports_of more
  reports_more [] more headed = absurd headed
  reports_more (header ∷ parcels) more headed = map-append (λ parcel. parcel.report) parcels more

-- where the owner pushed all that it has got, so it did the job of a parcel that it took in
pub of_pushed : (deque : DequeName × Global) (parcel : Parcel) (was now : EndView) → IsReportFrom deque parcel
    → now ≡ view_of was.pushed (was.got ++ jobs_by parcel) → HasPushed now
    → (k : ℕ) × (job : Job) × (get_elem? was.pushed k ≡ some job) × IsReportOf (k, job) parcel.report
of_pushed deque parcel was now from is own =
    let place = ap (λ (l : List (ℕ × Job)). get_elem? (was.got ++ l) (length was.got)) from.got in
    let last = at_last was.got (from.place, from.job) (length was.got) refl in (
      from.place,
      from.job,
      subst HasPushed is own (length was.got) from.place from.job (place ∙ last),
      from.reported,
    )

pub held_report : (held : Option Parcel)
    → reports_of (option_to_list held) ≡ option_to_list (option_map (λ parcel. parcel.report) held)
held_report None = refl
held_report (Some parcel) = refl

pub reports_prefix : (parcels more : List Parcel) → IsPrefix parcels more
    → IsPrefix (reports_of parcels) (reports_of more)
reports_prefix parcels more prefix = (
  reports_of prefix.0,
  sym (map-append (λ parcel. parcel.report) parcels prefix.0) ∙ ap reports_of prefix.1,
)
