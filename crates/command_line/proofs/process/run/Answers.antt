use Rattle.std.proofs.Common.{◌≡◌, Result, ap, inr, refl, rules, subst, Err, IsErrOf, String}
use Rattle.std.proofs.lemmas.Result.{err_from_is_err_and}
use Rattle.std.specs.declared.vec.IntoIter.{IntoIter}
use Rattle.byte_devices.proofs.Shared.{TellsDevices-wider}
use Rattle.byte_devices.specs.Device.{SinkSeen, SourceSeen}
use Rattle.view_session.proofs.Shared.{Serves-wider, devices_unread, serves_unread, store_unasked}
use Rattle.view_session.specs.{Serving.AnswersOverStore, Store.StoreSeen}
use Rattle.run_faults.specs.declared.run_error.RunError.{RunError}
use Rattle.run_faults.specs.declared.run_error.RunError.TheVariants.{Link, Usage}
use Rattle.command_line.proofs.Calls.{process_can_be_made, process_painting_side, words_are_early, words_are_no_device}
use Rattle.command_line.proofs.Calls.{words_are_no_file}
use Rattle.command_line.proofs.Networks.{TellsNetwork-wider, words_are_no_link}
use Rattle.link_nodes.specs.Links.{LinkSeen}
use Rattle.node_session.proofs.StoredNodes.{network_idle}
use Rattle.node_session.specs.Network.{NetworkSeen, TellsNetwork}
use Rattle.command_line.specs.Run.{EndsEarly, IsAnswer, IsShownBy, Leaves, StopsOn, RunAnswers, RunEndsEarly, RunLeaves}
use Rattle.command_line.specs.Run.{RunShows, RunStops}
use Rattle.command_line.specs.{Words.ProcessSays, declared.words.Call.Call}
use Rattle.command_line.proofs.process.run.Goals as goal

-- the error of a `?` is the one that it was given
same_error : {T U : Type 0} (e why : RunError) → IsErrOf {T = T} (Err e) why → IsErrOf {T = U} (Err e) why
same_error e why same = let is : e ≡ why = cc in ap (λ (k : RunError). Err k) is

-- what is said of the call that the words say is said of the run
module _ {Z E : Type 0} (args : Result (IntoIter (String Z) Z) E) (call : Call) (says : ProcessSays args call)
    (result : Result (Unit {0}) RunError) where
  answers_of_said : {S T K : Type 0} {source_seen : S → SourceSeen} {source source' : S} {store_seen : T → StoreSeen}
      {store store' : T} {sink_seen : K → SinkSeen} {sink sink' : K}
      {L : Type 0} (heard : L → LinkSeen)
      → AnswersOverStore (IsAnswer heard call) (IsShownBy heard call) (StopsOn heard call) (EndsEarly call) result
      source_seen source source' store_seen store store' sink_seen sink sink'
      → AnswersOverStore (RunAnswers heard args) (RunShows heard args) (RunStops heard args) (RunEndsEarly args) result
      source_seen source source' store_seen store store' sink_seen sink sink'
  answers_of_said heard made = record {
    serves = Serves-wider _ _ _ _ _ _ _ _ _ _ _ _ _ _ result _ _
        (λ input text kept answer. (call, says, answer)) (λ input text shows. (call, says, shows))
        (λ input e stops. (call, says, stops)) (λ e early. inr (inr (call, says, early))) made.serves;
    devices = TellsDevices-wider _ _ _ result _ _ _ _ (λ e early. inr (inr (call, says, early))) made.devices;
    stored = made.stored;
  }

  network_of_said : (old new : NetworkSeen) → TellsNetwork (Leaves call old) result old new
      → TellsNetwork (RunLeaves args old) result old new
  network_of_said old new made =
      TellsNetwork-wider (Leaves call old) (RunLeaves args old) result _ _ (λ left. (call, says, left)) made

pub returns-in_err-said-clause-runs : goal.returns-in_err-said-clause-runs
returns-in_err-said-clause-runs g c =
    let p = err_from_is_err_and c.from_residual.result c.from_residual.ensures.1 in
    let refused = c.in_err-said.ensures.refused in
    let early = words_are_early c.args.args c.in_err-said.field-0.0 refused in
    rw (p.1, p.2) (record {
      serves = serves_unread _ _ _ _ _ _ _ _ c.in_err-said.field-0.0 _ _ early;
      devices = devices_unread _ c.in_err-said.field-0.0 _ _ early
          (words_are_no_device c.in_err-said.field-0.0 refused);
      stored = store_unasked c.in_err-said.field-0.0 _ (words_are_no_file c.in_err-said.field-0.0 refused);
    })

pub returns-in_err-said-clause-network : goal.returns-in_err-said-clause-network
returns-in_err-said-clause-network g c =
    let p = err_from_is_err_and c.from_residual.result c.from_residual.ensures.1 in
    let no_link = words_are_no_link c.in_err-said.field-0.0 c.in_err-said.ensures.refused in
    rw (p.1, p.2) (network_idle _ c.in_err-said.field-0.0 _ _ refl no_link)

pub make-requires-clause-can_be : goal.make-requires-clause-can_be
make-requires-clause-can_be g c κs within =
    process_can_be_made c.args.args c.in_ok-said.said c.in_default.not-Paint c.in_ok-said.ensures.says

pub returns-in_err-make-in_default-clause-runs : goal.returns-in_err-make-in_default-clause-runs
returns-in_err-make-in_default-clause-runs g c =
    let p = err_from_is_err_and c.from_residual-in_err-make-in_default.result
    c.from_residual-in_err-make-in_default.ensures.1 in
    rw (p.1, p.2) (answers_of_said c.args.args c.in_ok-said.said c.in_ok-said.ensures.says _ g.N.Link.Link.seen
    c.in_err-make-in_default.ensures.runs)

pub returns-in_err-make-in_default-clause-network : goal.returns-in_err-make-in_default-clause-network
returns-in_err-make-in_default-clause-network g c =
    let p = err_from_is_err_and c.from_residual-in_err-make-in_default.result
    c.from_residual-in_err-make-in_default.ensures.1 in
    rw (p.1, p.2) (network_of_said c.args.args c.in_ok-said.said c.in_ok-said.ensures.says _ _ _
    c.in_err-make-in_default.ensures.network)

pub returns-in_err-make-in_default-clause-usage : goal.returns-in_err-make-in_default-clause-usage
returns-in_err-make-in_default-clause-usage g c =
    let p = err_from_is_err_and c.from_residual-in_err-make-in_default.result
    c.from_residual-in_err-make-in_default.ensures.1 in
    rw (p.1, p.2) (λ usage. absurd (c.in_err-make-in_default.ensures.no_usage (same_error _ Usage usage)))

pub returns-in_err-make-in_default-clause-unread : goal.returns-in_err-make-in_default-clause-unread
returns-in_err-make-in_default-clause-unread g c =
    let p = err_from_is_err_and c.from_residual-in_err-make-in_default.result
    c.from_residual-in_err-make-in_default.ensures.1 in
    rw (p.1, p.2) (λ usage. absurd (c.in_err-make-in_default.ensures.no_usage (same_error _ Usage usage)))

pub returns-in_err-make-in_default-clause-unbound : goal.returns-in_err-make-in_default-clause-unbound
returns-in_err-make-in_default-clause-unbound g c =
    let p = err_from_is_err_and c.from_residual-in_err-make-in_default.result
    c.from_residual-in_err-make-in_default.ensures.1 in
    rw (p.1, p.2) (λ link. c.in_err-make-in_default.ensures.unbound (same_error _ Link link))

pub returns-in_ok-make-in_default : goal.returns-in_ok-make-in_default
returns-in_ok-make-in_default g c =
    let says = c.in_ok-said.ensures.says in
    let made = c.in_ok-make-in_default.ensures in
    record {
      runs = answers_of_said c.args.args c.in_ok-said.said says _ g.N.Link.Link.seen made.runs;
      network = network_of_said c.args.args c.in_ok-said.said says _ _ _ made.network;
      painting = tt;
      side = tt;
      untouched = tt;
      usage = search rules;
      unread = search rules;
      unbound = search rules;
    }

pub returns-in-Paint-clause-painting : goal.returns-in-Paint-clause-painting
returns-in-Paint-clause-painting g c = (c.in_ok-said.said, c.in_ok-said.ensures.says, c.in-Paint.is)

pub returns-in-Paint-clause-side : goal.returns-in-Paint-clause-side
returns-in-Paint-clause-side g c =
    process_painting_side c.args.args c.in-Paint.painting
    (subst (λ (call : Call). ProcessSays c.args.args call) c.in-Paint.is c.in_ok-said.ensures.says)
