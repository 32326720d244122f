use Rattle.std.proofs.Common.{◌≡◌, sym, arith}
use Rattle.std.proofs.lemmas.Result.{IfErr-weaker, on_ok_weaker}
use Rattle.core_dispatch.specs.{Pens.IsSpent, Closing.HasSpentCount}
use Rattle.steal_pool.proofs.Deals.{below}
use Rattle.core_dispatch.proofs.GoingOn.{goes_by_edits}
use Rattle.core_dispatch.proofs.Ends.{end_at, one_taken, one_whole, one_spent}
use Rattle.core_dispatch.specs.declared.error.CloseError.TheVariants as errors
use Rattle.core_dispatch.proofs.dispatcher.Dispatcher.take_edits_of.Goals as goal

pub index_mut-requires : goal.index_mut-requires
index_mut-requires c =
    let (end, at, is) = c.in-Some.ensures in
    let within = below c.args.ends.now.items c.in-Some.place end at in
    let count = c.args.ends.now.ok.0 in
    omega (arith, within, count)

pub take_rest_of-requires : goal.take_rest_of-requires
take_rest_of-requires c =
    let (end, at, is) = c.in-Some.ensures in
    let within = below c.args.ends.now.items c.in-Some.place end at in
    end_at c.args.ends.now.items c.args.self.now.books c.in-Some.place c.index_mut.result.now c.requires.ends within
    (sym c.index_mut.ensures.value)

pub returns-in-Some-clause-whole : goal.returns-in-Some-clause-whole
returns-in-Some-clause-whole c =
    on_ok_weaker c.take_rest_of.result
    (one_whole c.args.ends.now.items c.take_rest_of.new.self.books c.in-Some.place c.args.number c.index_mut.result.now
    c.in-Some.ensures c.index_mut.ensures.value) c.take_rest_of.ensures.whole

pub returns-in-Some-clause-others : goal.returns-in-Some-clause-others
returns-in-Some-clause-others c =
    let rest = c.take_rest_of.ensures in
    (one_taken c.args.ends.now.items c.args.self.now.books c.take_rest_of.new.self.books c.in-Some.place c.args.number
    c.index_mut.result.now c.take_rest_of.new.end c.in-Some.ensures c.index_mut.ensures.value c.requires.ends rest.others
    rest.end rest.kept rest.pens).others

pub returns-in-Some-clause-spent : goal.returns-in-Some-clause-spent
returns-in-Some-clause-spent c =
    let end = c.index_mut.result.now in
    IfErr-weaker c.take_rest_of.result (λ why. why ≡ errors.CountSpent → IsSpent c.take_rest_of.new.self.books end)
    (λ why. why ≡ errors.CountSpent → HasSpentCount c.args.ends.now.items c.take_rest_of.new.self.books)
    (λ why spent is.
    one_spent c.args.ends.now.items c.take_rest_of.new.self.books c.in-Some.place c.args.number end c.in-Some.ensures
    c.index_mut.ensures.value (spent is)) c.take_rest_of.ensures.spent

pub returns-in-Some-clause-ends : goal.returns-in-Some-clause-ends
returns-in-Some-clause-ends c =
    let rest = c.take_rest_of.ensures in
    (one_taken c.args.ends.now.items c.args.self.now.books c.take_rest_of.new.self.books c.in-Some.place c.args.number
    c.index_mut.result.now c.take_rest_of.new.end c.in-Some.ensures c.index_mut.ensures.value c.requires.ends rest.others
    rest.end rest.kept rest.pens).kept

pub returns-in-Some-clause-goes_on : goal.returns-in-Some-clause-goes_on
returns-in-Some-clause-goes_on c =
    let (edits, taken) = c.take_rest_of.ensures.taken in
    goes_by_edits c.args.self.now c.take_rest_of.new.self edits taken c.take_rest_of.ensures.pens

pub returns-in-Some-clause-taken : goal.returns-in-Some-clause-taken
returns-in-Some-clause-taken c =
    let (edits, taken) = c.take_rest_of.ensures.taken in
    record { edits = edits; taken = taken; other = c.take_rest_of.ensures.other }
