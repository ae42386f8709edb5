-- Reduced strategies by a player's decisions in order: choice lists, which give each own set an
-- action or none, with an action exactly where a decision of the set is reached.
use Rattle.std.specs.Prelude.{ℕ, zero, suc, ◌<◌, ◌≤◌, ◌≡◌, ◌↔◌, List, length, slice_index, slice_get, All, Contains, Option, Some, None}
use Rattle.lists.specs.Orders.{AreAscending}
use Rattle.strategy_lists.specs.declared.decision.Decision.{Decision}
use Rattle.strategy_lists.specs.declared.decision.Edge.{Edge}

-- an edge comes from a decision before number j, and has that decision's place
abbrev pub ComesFrom : List Decision → ℕ → Option Edge → Type 0
ComesFrom decisions j None = Unit {0}
ComesFrom decisions j (Some edge) =
    (edge.decision < j) × (earlier : Decision) × (slice_get decisions edge.decision ≡ Some earlier)
    × (edge.place ≡ earlier.place)

-- the decisions of a player whose sets have these numbers of actions
pub record AreLinked (decisions : List Decision) (actions : List ℕ) : Type 0 where
  pub some_action : All (λ n. 0 < n) actions
  pub places_within : All (λ d. d.place < length actions) decisions
  pub come_from : (j : ℕ) (d : Decision) → slice_get decisions j ≡ Some d
      → ComesFrom decisions j d.before

-- no set has two decisions
abbrev pub AreApart : List Decision → Type 0
AreApart decisions = (j k : ℕ) (d e : Decision) → slice_get decisions j ≡ Some d
    → slice_get decisions k ≡ Some e → d.place ≡ e.place → j ≡ k

-- a decision is reached where the one before it is, and the action that leads to it is chosen there
abbrev pub IsLedTo : (ℕ → Type 0) → List ℕ → Option Edge → Type 0
IsLedTo reached choices None = Unit {0}
IsLedTo reached choices (Some edge) =
    reached edge.decision × (slice_index choices edge.place ≡ suc edge.action)

-- decision j is reached under these choices, where at most n decisions lie on its path
abbrev pub IsReachedWithin : List Decision → List ℕ → ℕ → ℕ → Type 0
IsReachedWithin decisions choices zero j = ⊥
IsReachedWithin decisions choices (suc n) j =
    (d : Decision) × (slice_get decisions j ≡ Some d)
    × IsLedTo (IsReachedWithin decisions choices n) choices d.before

-- decision j is reached under these choices
abbrev pub IsReached : List Decision → List ℕ → ℕ → Type 0
IsReached decisions choices j = IsReachedWithin decisions choices (suc j) j

-- some decision of the set at this place is reached
abbrev pub IsPlaceReached : List Decision → List ℕ → ℕ → Type 0
IsPlaceReached decisions choices place =
    (j : ℕ) × (d : Decision) × (slice_get decisions j ≡ Some d) × (d.place ≡ place)
    × IsReached decisions choices j

-- a reduced strategy: for each place an action, counted from 1, exactly where a decision of the
-- place is reached, and else 0
pub record IsReducedBy (decisions : List Decision) (actions : List ℕ)
    (choices : List ℕ) : Type 0 where
  pub one_for_each : length choices ≡ length actions
  pub are_actions : (place : ℕ) → place < length actions
      → slice_index choices place ≤ slice_index actions place
  pub fixed_where_reached : (place : ℕ) → place < length actions
      → (0 < slice_index choices place) ↔ IsPlaceReached decisions choices place

-- all reduced strategies, each once, in order
pub record AreReducedBy (decisions : List Decision) (actions : List ℕ)
    (lists : List (List ℕ)) : Type 0 where
  pub ascending : AreAscending lists
  pub sound : All (IsReducedBy decisions actions) lists
  pub complete : (choices : List ℕ) → IsReducedBy decisions actions choices → Contains lists choices
