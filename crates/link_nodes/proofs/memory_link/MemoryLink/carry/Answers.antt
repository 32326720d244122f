use Rattle.std.proofs.{Common.◌+◌, Common.take, Common.get_or, Common.ap, lemmas.List.take_more}
use Rattle.link_nodes.specs.MemoryLinks.{MemoryLinkView}
use Rattle.link_nodes.proofs.Feeding.{fed_more, stands_at}
use Rattle.link_nodes.proofs.memory_link.MemoryLink.carry.Goals as goal

pub loop-place-preserved : goal.loop-place-preserved
loop-place-preserved c =
    let places = c.args.places.now in
    let i = c.loop-place.place-index in
    let within = c.loop-place-test.true in
    let datagrams = c.args.other.now.sent in
    let place = get_or places i 0 in
    fed_more datagrams (take i places) (take (i + 1) places) place c.index.result.now c.args.self.now
    c.loop-place.self c.feed.new.self c.loop-place.invariant (take_more places i 0 within)
    (stands_at c.other.inside.sent.items datagrams place c.index.result.now
    (ap (λ (m : MemoryLinkView). m.sent) c.other.view_is) (c.requires i 0 within) c.index.ensures)
    c.in_ok-feed.ensures.ok
