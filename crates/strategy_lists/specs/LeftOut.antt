-- Decisions that add no end to the walk are left out.
use Rattle.std.specs.Prelude.{ℕ, ◌≡◌, Bool, true, false, List, [], length, slice_get, slice_index, slice_index_or, slice_set, replicate, Option, Some, None}
use Rattle.std.specs.List.{count_by, range_with_len}
use Rattle.strategy_lists.specs.declared.decision.Decision.{Decision}
use Rattle.strategy_lists.specs.declared.decision.Edge.{Edge}
use Rattle.strategy_lists.specs.Ends.{ends}

-- the ends of the whole walk
abbrev pub all_ends : List Decision → List ℕ → List (List ℕ)
all_ends decisions actions = ends actions decisions [] (replicate (length actions) 0)

-- whether a number is kept
abbrev pub is_kept : List Bool → ℕ → Bool
is_kept kept n = slice_index_or kept n false

-- how many numbers below n are kept
abbrev pub kept_below : List Bool → ℕ → ℕ
kept_below kept n = count_by (is_kept kept) (range_with_len 0 n)

-- an edge and a decision by the new numbers
abbrev pub renumbered_edge : List Bool → Option Edge → Option Edge
renumbered_edge kept None = None
renumbered_edge kept (Some edge) =
    Some
    (record { decision = kept_below kept edge.decision; place = edge.place; action = edge.action })

abbrev pub renumbered : List Bool → Decision → Decision
renumbered kept d = record { place = d.place; before = renumbered_edge kept d.before }

-- A decision is left out only where its set has one action and no other decision; and a decision
-- after which another is kept is kept.
pub record AreEnough (decisions : List Decision) (actions : List ℕ)
    (kept : List Bool) : Type 0 where
  pub one_for_each : length kept ≡ length decisions
  pub one_action : (j : ℕ) (d : Decision) → slice_get decisions j ≡ Some d → is_kept kept j ≡ false
      → slice_index actions d.place ≡ 1
  pub alone : (j k : ℕ) (d e : Decision) → slice_get decisions j ≡ Some d
      → slice_get decisions k ≡ Some e → is_kept kept j ≡ false → d.place ≡ e.place → j ≡ k
  pub before_kept : (j : ℕ) (d : Decision) (edge : Edge) → slice_get decisions j ≡ Some d
      → is_kept kept j ≡ true → d.before ≡ Some edge → is_kept kept edge.decision ≡ true

-- with the decision of an edge
abbrev pub marked : List Bool → Option Edge → List Bool
marked kept None = kept
marked kept (Some edge) = slice_set kept edge.decision true

-- each set that has two decisions is marked
pub record AreShared (decisions : List Decision) (sets : ℕ) (shared : List Bool) : Type 0 where
  pub one_for_each : length shared ≡ sets
  pub alone : (j k : ℕ) (d e : Decision) → slice_get decisions j ≡ Some d
      → slice_get decisions k ≡ Some e → slice_index_or shared d.place false ≡ false
      → d.place ≡ e.place → j ≡ k
