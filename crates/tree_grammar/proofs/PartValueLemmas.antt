-- Reading parts of a tree without the kinds and places of faults: each takes one part off the front and gives what it stands for
-- and the tokens after it, or nothing.
use Rattle.std.specs.Prelude.{ℕ, suc, ◌-◌, ◌&&◌, if◌then◌else◌, nat_eq, nat_le, List, [], ◌∷◌, length, map, option_map, Option, Some, None, codes}
use Rattle.std.specs.Str.{bytes_eq}
use Rattle.rational.specs.Rational.{ℚ, ◌+ℚ◌}
use Rattle.game_core.specs.declared.tree.Action.{Action}
use Rattle.game_core.specs.declared.tree.Kind.{Kind}
use Rattle.game_core.specs.Tree.{kind_of_owner}
use Rattle.file_parts.specs.Reading.{opening_brace_at, closing_brace_at, text_at, word_at, number_at, whole_at, optional_text_at, texts_at, payoff_at, opens, count_at}
use Rattle.file_parts.proofs.ValueLemmas.{payoffs_at}
use Rattle.written_trees.specs.Written.{SetUse, OutcomeUse, WrittenNode}
use Rattle.written_trees.specs.Described.{key_of, kind_of_use}
use Rattle.written_trees.specs.Building.{PartialTree, use_some_set, use_some_outcome, may_be_first, repeats_actions, repeats_payoffs, PartialSet, PartialOutcome, add_node, use_set, set_place, outcome_place, may_follow}
use Rattle.rational.specs.Tests.{eq_ℚ}
use Rattle.lists.specs.Options.{◌>>=◌}
use Rattle.game_core.specs.declared.token.Token.{Token}
use Rattle.game_core.specs.declared.token.Token.TheVariants.{Text, Number}
use Rattle.tree_grammar.specs.TreePieces.{closed_at}
use Rattle.tree_grammar.specs.TreeParsing.{own_action}

-- ---- a list of actions
-- as many actions as come
abbrev pub chance_actions_at : List Token → Option (List Action × List Token)
chance_actions_at (Text name ∷ Number prob ∷ rest) = chance_actions_at rest >>= λ more. Some (record { name = name; prob = prob } ∷ more.0, more.1)
chance_actions_at (Text name ∷ rest) = None
chance_actions_at tokens = Some ([], tokens)

abbrev pub actions_at : Option ℕ → List Token → Option (List Action × List Token)
actions_at None tokens = chance_actions_at tokens
actions_at (Some i) tokens = Some (map own_action (texts_at tokens).0, (texts_at tokens).1)

-- one or more actions, closed by a brace
unfoldable pub action_list_at : Option ℕ → List Token → Option (List Action × List Token)
action_list_at owner tokens = do
  inner ← opening_brace_at tokens
  actions ← actions_at owner inner
  rest ← closed_at (length actions.0) actions.1
  Some (actions.0, rest)

-- a list that may come
abbrev pub optional_at : {X : Type 0} → (List Token → Option (X × List Token)) → List Token → Option (Option X × List Token)
optional_at reading tokens = if opens tokens then (reading tokens >>= λ x. Some (Some x.0, x.1)) else Some (None, tokens)

-- a set: its number, and maybe its name and its actions
unfoldable pub set_use_at : Option ℕ → List Token → Option (SetUse × List Token)
set_use_at owner tokens = do
  label ← count_at tokens
  actions ← optional_at (action_list_at owner) (optional_text_at label.1).1
  Some (record { owner = owner; label = label.0; name = (optional_text_at label.1).0; actions = actions.0 }, actions.1)

-- ---- an outcome
-- payoffs in braces, one per player
unfoldable pub payoff_list_at : ℕ → List Token → Option (List ℚ × List Token)
payoff_list_at players tokens = do
  inner ← opening_brace_at tokens
  payoffs ← payoffs_at players inner
  rest ← closing_brace_at payoffs.1
  Some (payoffs.0, rest)

-- what follows an outcome's number, unless it is 0
unfoldable pub named_outcome_at : ℕ → ℕ → List Token → Option (Option OutcomeUse × List Token)
named_outcome_at players label tokens = do
  payoffs ← optional_at (payoff_list_at players) (optional_text_at tokens).1
  Some (Some (record { label = label; name = (optional_text_at tokens).0; payoffs = payoffs.0 }), payoffs.1)

-- an outcome, or 0
unfoldable pub outcome_use_at : ℕ → List Token → Option (Option OutcomeUse × List Token)
outcome_use_at players tokens = do
  label ← whole_at tokens
  if nat_eq label.0 0 then Some (None, label.1) else named_outcome_at players label.0 label.1

-- ---- a node
-- a player's number, from 1 to the number of players
unfoldable pub player_at : ℕ → List Token → Option (ℕ × List Token)
player_at players tokens = do
  player ← whole_at tokens
  if nat_le 1 player.0 && nat_le player.0 players then Some (player.0 - 1, player.1) else None

-- a set of chance, or of a player
unfoldable pub chance_use_at : List Token → Option (Option SetUse × List Token)
chance_use_at tokens = set_use_at None tokens >>= λ x. Some (Some x.0, x.1)

unfoldable pub own_use_at : ℕ → List Token → Option (Option SetUse × List Token)
own_use_at players tokens = do
  player ← player_at players tokens
  used ← set_use_at (Some player.0) player.1
  Some (Some used.0, used.1)

-- what follows the word with which a node begins, and its name
abbrev pub choice_after : ℕ → List ℕ → List Token → Option (Option SetUse × List Token)
choice_after players word tokens =
    if bytes_eq word (codes "c") then chance_use_at tokens else if bytes_eq word (codes "p") then own_use_at players tokens else if bytes_eq word (codes "t") then Some (None, tokens) else None

-- a node up to its outcome
unfoldable pub choice_at : ℕ → List Token → Option (Option SetUse × List Token)
choice_at players tokens = do
  word ← word_at tokens
  name ← text_at word.1
  choice_after players word.0 name.1

-- a node
unfoldable pub node_at : ℕ → List Token → Option (WrittenNode × List Token)
node_at players tokens = do
  choice ← choice_at players tokens
  outcome ← outcome_use_at players choice.1
  Some (record { set = choice.0; outcome = outcome.0 }, outcome.1)

-- ---- a node beside those before it
-- a further node, and the tree with it
unfoldable pub next_at : ℕ → PartialTree → List Token → Option (PartialTree × List Token)
next_at players partial tokens = do
  node ← node_at players tokens
  more ← add_node partial node.0
  Some (more, node.1)

-- ---- lists beside those before them
-- as many actions of chance as come, with their sum after this one
abbrev pub summed_at : ℚ → List Token → Option ((List Action × ℚ) × List Token)
summed_at sum (Text name ∷ Number prob ∷ rest) =
    if may_follow sum prob then (summed_at (sum +ℚ prob) rest >>= λ more. Some ((record { name = name; prob = prob } ∷ more.0.0, more.0.1), more.1)) else None
summed_at sum (Text name ∷ rest) = None
summed_at sum tokens = Some (([], sum), tokens)

-- a first list of actions
unfoldable pub first_list_at : Option ℕ → List Token → Option (List Action × List Token)
first_list_at owner tokens = do
  actions ← action_list_at owner tokens
  if may_be_first owner actions.0 then Some actions else None

-- the tokens after an action that repeats this one
abbrev pub repeated_at : Option ℕ → Action → List Token → Option (List Token)
repeated_at None action tokens = do
  name ← text_at tokens
  prob ← number_at name.1
  if eq_ℚ prob.0 action.prob then Some prob.1 else None
repeated_at (Some i) action tokens = text_at tokens >>= λ name. Some name.1

-- the tokens after actions that repeat these
abbrev pub all_repeated_at : Option ℕ → List Action → List Token → Option (List Token)
all_repeated_at owner [] tokens = Some tokens
all_repeated_at owner (action ∷ actions) tokens = repeated_at owner action tokens >>= λ rest. all_repeated_at owner actions rest

-- the tokens after a later list of actions, which may come, and repeats these
unfoldable pub later_list_at : Option ℕ → List Action → List Token → Option (List Token)
later_list_at owner actions tokens = do
  list ← optional_at (action_list_at owner) tokens
  if repeats_actions actions list.0 then Some list.1 else None

-- a set that node k uses: the sets with it, and its place
unfoldable pub set_part_at : ℕ → List PartialSet → Option ℕ → List Token → Option ((List PartialSet × ℕ) × List Token)
set_part_at k sets owner tokens = do
  used ← set_use_at owner tokens
  more ← use_set k sets used.0
  Some ((more, set_place sets (key_of used.0)), used.1)

-- the tokens after payoffs that repeat these, where so many were read before
abbrev pub payoffs_repeated_at : ℕ → List ℚ → List Token → Option (List Token)
payoffs_repeated_at index [] tokens = Some tokens
payoffs_repeated_at index (payoff ∷ payoffs) tokens = do
  next ← payoff_at index tokens
  if eq_ℚ next.0 payoff then payoffs_repeated_at (suc index) payoffs next.1 else None

-- the tokens after later payoffs, which may come, and repeat these
unfoldable pub later_payoffs_at : ℕ → List ℚ → List Token → Option (List Token)
later_payoffs_at players payoffs tokens = do
  list ← optional_at (payoff_list_at players) tokens
  if repeats_payoffs payoffs list.0 then Some list.1 else None

-- the outcomes with those that a node uses, and the place of its outcome
abbrev pub with_outcome : List PartialOutcome → Option OutcomeUse → Option (List PartialOutcome × Option ℕ)
with_outcome outcomes used = use_some_outcome outcomes used >>= λ more. Some (more, option_map (λ u. outcome_place outcomes u.label) used)

-- an outcome that a node uses, after its number
unfoldable pub named_part_at : ℕ → ℕ → List PartialOutcome → List Token → Option ((List PartialOutcome × Option ℕ) × List Token)
named_part_at players label outcomes tokens = do
  used ← named_outcome_at players label tokens
  more ← with_outcome outcomes used.0
  Some (more, used.1)

-- an outcome that a node uses, or none
unfoldable pub outcome_part_at : ℕ → List PartialOutcome → List Token → Option ((List PartialOutcome × Option ℕ) × List Token)
outcome_part_at players outcomes tokens = do
  used ← outcome_use_at players tokens
  more ← with_outcome outcomes used.0
  Some (more, used.1)

-- ---- a node beside those before it, as it is read
-- who chooses at node k, and the sets with the one that it uses
unfoldable pub choice_part_at : ℕ → ℕ → List PartialSet → List Token → Option ((List PartialSet × (Kind × Option ℕ)) × List Token)
choice_part_at players k sets tokens = do
  used ← choice_at players tokens
  more ← use_some_set k sets used.0
  Some ((more, (kind_of_use used.0, option_map (λ u. set_place sets (key_of u)) used.0)), used.1)

-- the choice at a set of this owner
abbrev pub set_choice_at : ℕ → List PartialSet → Option ℕ → List Token → Option ((List PartialSet × (Kind × Option ℕ)) × List Token)
set_choice_at k sets owner tokens = set_part_at k sets owner tokens >>= λ x. Some ((x.0.0, (kind_of_owner owner, Some x.0.1)), x.1)

-- the choice of the player whose number comes
abbrev pub own_choice_at : ℕ → ℕ → List PartialSet → List Token → Option ((List PartialSet × (Kind × Option ℕ)) × List Token)
own_choice_at players k sets tokens = player_at players tokens >>= λ player. set_choice_at k sets (Some player.0) player.1
