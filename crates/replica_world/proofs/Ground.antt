-- Events keep the mask of a core, and which pixels are neighbours.
use Rattle.std.proofs.Common.{◌≡◌, ◌∙◌, ℕ, true, false, ap, refl, Some, None}
use Rattle.core_rules.specs.declared.answers.Back.TheVariants.{Joined, Again, Stale, Stranger}
use Rattle.core_rules.specs.declared.answers.Handed.TheVariants.{Raised, Same, Stale as Old, Nothing}
use Rattle.core_rules.specs.Work.{Core}
use Rattle.core_rules.specs.Events.{Event, Answer, Happens, Merge, Take, GiveBack, Abandon, Hand, OfMerge, OfTake}
use Rattle.core_rules.specs.Events.{OfGiveBack, OfAbandon, OfHand}

-- both cores have the same mask, and the same pixels are neighbours in both
pub record HaveSameGround (before after : Core) : Type 0 where
  pub mask : after.mask ≡ before.mask
  pub conn : after.conn ≡ before.conn

-- a core that is another but for these parts, or that one itself
same_but : (before after other : Core) → after ≡ other → other.mask ≡ before.mask → other.conn ≡ before.conn
    → HaveSameGround before after
same_but before after other same mask conn =
    let the_mask = ap (λ (c : Core). c.mask) same in
    let the_conn = ap (λ (c : Core). c.conn) same in
    record { mask = the_mask ∙ mask; conn = the_conn ∙ conn }

pub happens_on : (before after : Core) (event : Event) (answer : Answer) → Happens before event answer after
    → HaveSameGround before after
happens_on before after (Merge delta) (OfMerge turnover) merged = same_but before after _ merged.rest refl refl
happens_on before after (Take t) (OfTake (Some job)) (ready, next, same) = same_but before after _ same refl refl
happens_on before after (Take t) (OfTake None) (unready, same) = same_but before after _ same refl refl
happens_on before after (GiveBack swept) (OfGiveBack Joined) (is_swept, (known, out, unchanged, joined)) =
    same_but before after _ joined.rest refl refl
happens_on before after (GiveBack swept) (OfGiveBack Again) (is_swept, (known, out, risen, joined)) =
    same_but before after _ joined.rest refl refl
happens_on before after (GiveBack swept) (OfGiveBack Stale) (is_swept, (known, not_out, same)) =
    same_but before after _ same refl refl
happens_on before after (GiveBack swept) (OfGiveBack Stranger) (is_swept, (why, same)) =
    same_but before after _ same refl refl
happens_on before after (Abandon ticket) (OfAbandon true) (out, same) = same_but before after _ same refl refl
happens_on before after (Abandon ticket) (OfAbandon false) (not_out, same) = same_but before after _ same refl refl
happens_on before after (Hand t place) (OfHand Nothing) (none, same) = same_but before after _ same refl refl
happens_on before after (Hand t place) (OfHand Old) (hint, there, old, same) = same_but before after _ same refl refl
happens_on before after (Hand t place) (OfHand Raised) (hint, there, present, above, same) =
    same_but before after _ same refl refl
happens_on before after (Hand t place) (OfHand Same) (hint, there, present, enough, same) =
    same_but before after _ same refl refl
happens_on before after _ _ happens = absurd happens

-- another serial
pub serial_on : (before : Core) (serial : ℕ) → HaveSameGround before (record before { serial = serial })
serial_on before serial = record { mask = refl; conn = refl }
