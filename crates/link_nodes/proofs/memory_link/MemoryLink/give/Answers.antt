use Rattle.std.proofs.Common.{◌≡◌, ℕ, ◌<◌, List, ◌++◌, ◌∷◌, [], take, min, length, get_or, sym, ap, subst, ◌∙◌}
use Rattle.link_nodes.specs.{declared.link.TheConstants.BUFFER_BYTES, MemoryLinks.MemoryLinkView, MemoryLinks.front_of}
use Rattle.link_nodes.proofs.Feeding.{next_waiting, next_heard, front_fits, front_copied}
use Rattle.link_nodes.proofs.memory_link.MemoryLink.give.Goals as goal

pub returns-clause-some : goal.returns-clause-some
returns-clause-some c =
    let datagram = c.in-Some.datagram.now in
    let fed = c.self.inside.fed.items in
    let given = c.self.inside.given in
    let value = c.deref.ensures.value in
    let within = subst (λ (l : List (List ℕ)). given < length l) value c.in-Some.ensures.lookup.3.0 in
    let there = c.in-Some.ensures.lookup.3.1 datagram ∙ ap (λ (l : List (List ℕ)). get_or l given datagram) value in
    let bytes = c.bytes-bytes.ensures in
    let least : c.min-length.result ≡ min (length datagram) BUFFER_BYTES =
    c.min-length.ensures ∙ ap (λ (l : List ℕ). min (length l) BUFFER_BYTES) bytes in
    let copied : c.copy_from_slice.new.self ≡ take c.min-length.result datagram =
    c.copy_from_slice.ensures.after ∙ ap (take c.min-length.result) bytes in (
      datagram,
      ap (λ (m : MemoryLinkView). m.waiting) (sym c.self.view_is) ∙ next_waiting fed given datagram within there,
      front_fits datagram c.copy_from_slice.new.self _ c.min-length.result least copied,
      front_copied datagram c.copy_from_slice.new.self _ c.min-length.result least copied,
      next_heard fed given datagram within there
          ∙ ap (λ (l : List (List ℕ)). l ++ front_of datagram ∷ [])
          (ap (λ (m : MemoryLinkView). m.heard) c.self.view_is),
    )
