-- Eyes and keepers of a studio that is opened.
use Rattle.std.proofs.Common.{◌≡◌, ◌+◌, ℕ, List, [], ◌∷◌, sym, ◌∙◌, subst, arith, length-append}
use Rattle.std.proofs.lemmas.List.Elements.{All-weaker, All-push}
use Rattle.core_rules.specs.Work.{Core}
use Rattle.studio.specs.{declared.shots.eye.Eye.Eye, declared.shots.publisher.Publisher.Publisher}
use Rattle.studio.specs.{declared.keeper.Keeper.Keeper, Keeping.IsShotOf}
use Rattle.studio.specs.Opening.{IsEyeOf, AreEyesOf, HasOneMore, ShowsTheSame, HasShownOnce}

-- ---- eyes

-- an eye of a publisher is one of each that shows the same
eye_of : (old new : Publisher) (eye : Eye) → ShowsTheSame old new → IsEyeOf new eye → IsEyeOf old eye
eye_of old new eye s e = record {
  seen = e.seen ∙ s.chain;
  learnt = e.learnt ∙ s.chain;
  studio = e.studio ∙ s.studio;
}

pub eyes_kept : (old new : Publisher) (count : ℕ) (eyes : List Eye) → ShowsTheSame old new
    → AreEyesOf old count eyes → AreEyesOf new count eyes
eyes_kept old new count eyes s a = record {
  count_is = a.count_is;
  each =
      All-weaker (λ e. IsEyeOf old e) (λ e. IsEyeOf new e)
      (λ e n. eye_of new old e (record { chain = sym s.chain; last = sym s.last; studio = sym s.studio }) n) eyes
      a.each;
}

pub shows_through : (a b c : Publisher) → ShowsTheSame a b → ShowsTheSame b c → ShowsTheSame a c
shows_through a b c first second = record {
  chain = second.chain ∙ first.chain;
  last = second.last ∙ first.last;
  studio = second.studio ∙ first.studio;
}

-- one eye more, of a publisher that shows the same as before
pub eye_added : (old now : Publisher) (count : ℕ) (eyes more : List Eye) → ShowsTheSame old now
    → AreEyesOf old count eyes → HasOneMore now eyes more → AreEyesOf old (count + 1) more
eye_added old now count eyes more s a (eye, is, made) =
    subst (AreEyesOf old (count + 1)) (sym made) (record {
      count_is = let longer = length-append eyes (eye ∷ []) in let all = a.count_is in omega (arith, longer, all);
      each = All-push (λ e. IsEyeOf old e) eyes eye a.each (eye_of old now eye s is);
    })

-- ---- keepers

pub shown_once_kept : (old new : Keeper) (a b : Core) → ShowsTheSame old.publisher new.publisher → a ≡ b
    → HasShownOnce old a → HasShownOnce new b
shown_once_kept old new a b u same (shot, is, chain) =
    (shot, subst (λ (c : Core). IsShotOf c shot) same is, u.chain ∙ chain)
