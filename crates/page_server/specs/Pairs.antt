-- Items of two lists, in pairs.
use Rattle.std.specs.Prelude.{◌≡◌, ◌⊎◌, ℕ, List, [], ◌∷◌, ◌++◌}
use Rattle.http.specs.declared.request.Request.{Request}
use Rattle.http_server.specs.{declared.response.Response.Response, Exchange.Call, Exchange.Chain}

-- the items of two lists are related in pairs, one after another: each by calls of its own, which lead from the state
-- that the pair before left to one that it leaves
abbrev pub InTurn : {K X : Type 0} → (K → Request (List ℕ) → Response → K → Type 0)
    → (K → K → X → X → List Call → Type 0) → K → List X → List X → List Call → K → Type 0
InTurn answers R first [] [] calls last = (calls ≡ []) × (last ≡ first)
InTurn {K} answers R first (p ∷ olds) (q ∷ news) calls last =
    (mine : List Call) × (later : List Call) × (next : K) × (calls ≡ mine ++ later)
    × Chain answers first mine next × R first next p q mine × InTurn answers R next olds news later last
InTurn answers R first _ _ calls last = ⊥

-- the items of some pair are related
abbrev pub InSomePair : {X : Type 0} → (X → X → Type 0) → List X → List X → Type 0
InSomePair R [] news = ⊥
InSomePair R (p ∷ olds) [] = ⊥
InSomePair R (p ∷ olds) (q ∷ news) = R p q ⊎ InSomePair R olds news
