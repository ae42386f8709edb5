-- The sets and the outcomes of written nodes as an index set numbers them, which takes each key when it comes first.
use Rattle.std.proofs.Common.{◌≡◌, ℕ, nat_eq, List, [], ◌∷◌, map, Option, option_map}
use Rattle.std.specs.List.{position_or_len}
use Rattle.indexmap.specs.IndexSet.{insert_all}
use Rattle.game_core.specs.declared.tree.Node.{Node}
use Rattle.written_trees.specs.Written.{SetUse, OutcomeUse, WrittenNode}
use Rattle.written_trees.specs.Described.{SetKey, key_of, same_set, kind_of_use}

-- the sets and the outcomes, as they are inserted
abbrev pub sets_of : List (ℕ × SetUse) → List SetKey
sets_of uses = insert_all same_set [] (map (λ x. key_of x.1) uses)

abbrev pub outcomes_of : List (ℕ × OutcomeUse) → List ℕ
outcomes_of uses = insert_all nat_eq [] (map (λ x. x.1.label) uses)

-- the number of a node's set, and of its outcome
abbrev pub set_number : List SetKey → Option SetUse → Option ℕ
set_number keys used = option_map (λ u. position_or_len (same_set (key_of u)) keys) used

abbrev pub outcome_number : List ℕ → Option OutcomeUse → Option ℕ
outcome_number labels used = option_map (λ u. position_or_len (nat_eq u.label) labels) used

-- a node stands for a written one, with the numbers of its set and its outcome among these
pub record IsNumberedFor (keys : List SetKey) (labels : List ℕ) (node : Node) (written : WrittenNode) : Type 0 where
  pub kind_is : node.kind ≡ kind_of_use written.set
  pub set_is : node.set ≡ set_number keys written.set
  pub outcome_is : node.outcome ≡ outcome_number labels written.outcome

abbrev pub AreNumberedFor : List SetKey → List ℕ → List Node → List WrittenNode → Type 0
AreNumberedFor keys labels [] [] = Unit {0}
AreNumberedFor keys labels (node ∷ nodes) (one ∷ written) = IsNumberedFor keys labels node one × AreNumberedFor keys labels nodes written
AreNumberedFor keys labels _ _ = ⊥
