-- The words of a hand's own work.
use Rattle.std.specs.Prelude.{◌≡◌, ◌≤◌, ◌<◌, ◌+◌, ℕ, Bool, true, false, List, [], ◌∷◌, ◌++◌, length, None, IsSome}
use Rattle.tile_generations.specs.Jobs.{Job}
use Rattle.steal_pool.specs.{declared.report.Report.Report, declared.report.Turn.Turn}
use Rattle.steal_pool.specs.{declared.parcel.Parcel.Parcel, Views.HandView, Views.ring_room}
use Rattle.steal_pool.specs.declared.report.Report.TheVariants.{Done, Failed}
use Rattle.steal_pool.specs.declared.report.Turn.TheVariants as turn

-- a ring of which so many places are known to be free, and to which these parcels were sent, takes the first reports
abbrev pub HasRoom : ℕ → List Parcel → Type 0
HasRoom free sent = ring_room < free + length sent

-- the job was added to those that were got, and nothing else changed
abbrev pub Adds : HandView → HandView → Job → Type 0
Adds old new job = (place : ℕ) × (new ≡ record old { got = old.got ++ (place, job) ∷ [] })

-- all reports are sent; or one is held, no place in the ring was seen to be free, and a ring's room of reports was sent
abbrev pub HasSent : Bool → HandView → Type 0
HasSent true hand = hand.held ≡ None
HasSent false hand = IsSome hand.held × (hand.free ≡ 0) × (ring_room ≤ length hand.sent)

-- what is answered and reported of a job once it was swept, or was not for want of memory
abbrev pub IsOutcome : Job → Turn → Report → Type 0
IsOutcome job (turn.Worked ticket) (Done swept) = (ticket ≡ job.ticket) × (swept.job ≡ job)
IsOutcome job (turn.Failed ticket) (Failed same) = (ticket ≡ job.ticket) × (same ≡ ticket)
IsOutcome job _ _ = ⊥
