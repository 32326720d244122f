-- What goes through the ring of a hand: parcels, each of a report and the pass by which its job was got. The first one,
-- the header, is of no job: its pass is there to tell of which deque the other passes are.
use Rattle.std.specs.Prelude.{◌≡◌, ℕ, All, List, [], ◌∷◌, ◌++◌, drop, map, Option, option_map, option_to_list, ⊤}
use Rattle.std.specs.{Global.Global, List.flat_map}
use Rattle.crossbeam_deque.specs.Handles.{view, IsPassOf}
use Rattle.rtrb.specs.{declared.producer.Producer.Producer, declared.consumer.Consumer.Consumer}
use Rattle.rtrb.specs.Ring.{sent, received, known_free, known_items}
use Rattle.tile_generations.specs.Jobs.{Job}
use Rattle.steal_pool.specs.{declared.report.Report.Report, declared.parcel.Parcel.Parcel, Reports.IsReportOf}
use Rattle.steal_pool.specs.{Names.DequeName, Names.sent_into, Views.HandView}

-- the job that was got by the parcel's pass, with its place among the pushed: one, or none by that of a header
abbrev pub jobs_by : Parcel → List (ℕ × Job)
jobs_by parcel = (view parcel.pass).got

abbrev pub reports_of : List Parcel → List Report
reports_of parcels = map (λ parcel. parcel.report) parcels

-- the reports behind the header, and the jobs that were got by their passes
abbrev pub reports_in : List Parcel → List Report
reports_in parcels = reports_of (drop 1 parcels)

abbrev pub jobs_in : List Parcel → List (ℕ × Job)
jobs_in parcels = flat_map jobs_by (drop 1 parcels)

-- ---- what the two ends agree on

-- the parcel's pass is of this deque, one job was got by it, and the report is of that job
pub record IsReportFrom (deque : DequeName × Global) (parcel : Parcel) : Type 0 where
  pub place : ℕ
  pub job : Job
  pub passes : IsPassOf deque parcel.pass
  pub got : jobs_by parcel ≡ (place, job) ∷ []
  pub reported : IsReportOf (place, job) parcel.report

-- the deque that a header tells of
abbrev pub deque_told : Parcel → DequeName × Global
deque_told header = (header.pass.rows, header.pass.heap)

-- what may be sent behind these parcels: first any header, and then reports from the deque that it tells of
abbrev pub Follows : List Parcel → Parcel → Type 0
Follows [] parcel = ⊤
Follows (header ∷ parcels) parcel = IsReportFrom (deque_told header) parcel

-- the parcels begin with a header that tells of this deque
abbrev pub IsHeaded : DequeName × Global → List Parcel → Type 0
IsHeaded deque [] = ⊥
IsHeaded deque (header ∷ parcels) = deque_told header ≡ deque

-- there is such a header, and nothing else
abbrev pub IsHeader : DequeName × Global → List Parcel → Type 0
IsHeader deque parcels = (header : Parcel) × (parcels ≡ header ∷ []) × (deque_told header ≡ deque)

-- ---- what contracts see of a ring

module _ {A P : Type 0} where
  -- all that a hand sent, and then the parcel that it holds
  abbrev pub parcels_of : Producer Parcel A P → Option Parcel → List Parcel
  parcels_of ring held = sent ring ++ option_to_list held

  -- the hand at this deque that sends into the ring, holds the parcel, and has got these jobs besides
  abbrev pub hand_at : DequeName → Producer Parcel A P → Option Parcel → List (ℕ × Job) → HandView
  hand_at deque ring held more = record {
    got = jobs_in (parcels_of ring held) ++ more;
    sent = reports_in (sent ring);
    held = option_map (λ parcel. parcel.report) held;
    free = known_free ring;
    deque = deque;
    ring = sent_into ring;
  }

  -- each of these rings tells of this deque
  abbrev pub AreHeaded : DequeName × Global → List (Consumer Parcel A P) → Type 0
  AreHeaded deque rings = All (λ ring. IsHeaded deque (received ring)) rings

  -- what was collected from the ring
  abbrev pub collected_from : Consumer Parcel A P → List Report
  collected_from ring = reports_in (received ring)

  -- what has been seen in the ring and not collected
  abbrev pub waiting_in : Consumer Parcel A P → List Report
  waiting_in ring = reports_of (known_items ring)
