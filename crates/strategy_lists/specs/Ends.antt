-- The ends of the walk in the order in which it comes to them.
use Rattle.std.specs.Prelude.{ℕ, suc, ◌<◌, ◌≤◌, ◌-◌, ◌≡◌, ◌==◌, ◌&&◌, Bool, true, false, if◌then◌else◌, List, [], ◌∷◌, ◌++◌, length, map, reverse, take, drop, slice_index, slice_index_or, slice_set, replicate, Option, Some, None}
use Rattle.std.specs.List.{flat_map, range_with_len}
use Rattle.strategy_lists.specs.declared.decision.Decision.{Decision}
use Rattle.strategy_lists.specs.declared.decision.Edge.{Edge}
use Rattle.strategy_lists.specs.declared.walk.Walk.{Walk}
use Rattle.strategy_lists.specs.Reduced.{AreLinked}

-- whether an edge leads on, by which of the earlier decisions are reached
abbrev pub is_led_to : List Bool → List ℕ → Option Edge → Bool
is_led_to reach choices None = true
is_led_to reach choices (Some edge) =
    slice_index_or reach edge.decision false && (slice_index choices edge.place == suc edge.action)

-- the choices at the ends of the walk over the decisions that are left
unfoldable pub ends : List ℕ → List Decision → List Bool → List ℕ → List (List ℕ)
ends actions [] reach choices = choices ∷ []
ends actions (d ∷ ds) reach choices =
    if is_led_to reach choices d.before && (slice_index choices d.place == 0)
    then flat_map (λ a. ends actions ds (reach ++ true ∷ []) (slice_set choices d.place a))
    (range_with_len 1 (slice_index actions d.place))
    else ends actions ds (reach ++ is_led_to reach choices d.before ∷ []) choices

-- the place of a decision's set
abbrev pub place_of : List Decision → ℕ → ℕ
place_of decisions j = slice_index (map (λ d. d.place) decisions) j

-- the ends with an action at decision j
abbrev pub ends_at : List Decision → List ℕ → List Bool → List ℕ → ℕ → ℕ → List (List ℕ)
ends_at decisions actions reach choices j a =
    ends actions (drop (suc j) decisions) (take (suc j) reach)
    (slice_set choices (place_of decisions j) a)

-- the ends with the further actions of the decisions that gave their set its action, the last one
-- first
unfoldable pub later : List Decision → List ℕ → List Bool → List ℕ → List ℕ → List (List ℕ)
later decisions actions reach [] choices = []
later decisions actions reach (j ∷ fixed) choices =
    flat_map (ends_at decisions actions reach choices j)
    (range_with_len (suc (slice_index choices (place_of decisions j)))
    (slice_index actions (place_of decisions j) - slice_index choices (place_of decisions j)))
    ++ later decisions actions reach fixed (slice_set choices (place_of decisions j) 0)

-- numbers below n that fall
abbrev pub FallBelow : ℕ → List ℕ → Type 0
FallBelow n [] = Unit {0}
FallBelow n (j ∷ fixed) = (j < n) × FallBelow j fixed

-- a walk before decision n
pub record IsAt (walk : Walk) (n : ℕ) : Type 0 where
  pub linked : AreLinked walk.decisions.now walk.actions.now
  pub choices : length walk.choices.items ≡ length walk.actions.now
  pub reached : length walk.reached.items ≡ length walk.decisions.now
  pub within : n ≤ length walk.decisions.now
  pub fixed : FallBelow n (reverse walk.fixed.items)

-- the ends to come after the present one
abbrev pub later_ends : Walk → List (List ℕ)
later_ends walk =
    later walk.decisions.now walk.actions.now walk.reached.items (reverse walk.fixed.items)
    walk.choices.items

-- the ends to come before decision n
abbrev pub ends_from : Walk → ℕ → List (List ℕ)
ends_from walk n =
    ends walk.actions.now (drop n walk.decisions.now) (take n walk.reached.items) walk.choices.items
    ++ later_ends walk

-- a walk before its first decision
pub record IsStart (decisions : List Decision) (actions : List ℕ) (walk : Walk) : Type 0 where
  pub decisions_are : walk.decisions.now ≡ decisions
  pub actions_are : walk.actions.now ≡ actions
  pub at_start : IsAt walk 0
  pub ends_are : ends_from walk 0 ≡ ends actions decisions [] (replicate (length actions) 0)

-- walks over the same decisions
pub record IsSameGame (old new : Walk) : Type 0 where
  pub decisions : new.decisions ≡ old.decisions
  pub actions : new.actions ≡ old.actions

-- a walk before decision n comes to decision m, with the same ends before it
pub record ComesTo (old : Walk) (n : ℕ) (new : Walk) (m : ℕ) : Type 0 where
  pub same : IsSameGame old new
  pub comes_at : IsAt new m
  pub ends : ends_from new m ≡ ends_from old n
