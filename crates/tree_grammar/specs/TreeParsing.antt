-- Reading a tree with the offset of its fault: each function takes one part off the front and gives
-- what it stands for and the tokens after it, or the kind of the fault and the tokens from the one
-- on that it names. Where nodes are read, a limit may be passed instead.
use Rattle.std.specs.Prelude.{ℕ, zero, suc, ◌-◌, ◌&&◌, ◌⊎◌, if◌then◌else◌, nat_eq, nat_le, Bool, true, false, List, [], ◌∷◌, ◌++◌, length, map, slice_get, slice_set, Option, Some, None, Result, Ok, Err, codes}
use Rattle.std.specs.Str.{bytes_eq}
use mathlib.Core.Logic.{inl, inr}
use Rattle.rational.specs.Rational.{ℚ, ◌+ℚ◌, zero_ℚ, one_ℚ}
use Rattle.rational.specs.Tests.{le_test, eq_ℚ}
use Rattle.frac128.specs.Steps.{step_of}
use Rattle.frac128.specs.declared.steps.Op.TheVariants.{Add}
use Rattle.game_core.specs.declared.too_large.What.{What}
use Rattle.game_core.specs.declared.tree.Action.{Action}
use Rattle.game_core.specs.declared.tree.Kind.{Kind}
use Rattle.game_core.specs.declared.tree.Kind.TheVariants.{End}
use Rattle.game_core.specs.Tree.{GameTree, kind_of_owner}
use Rattle.game_core.specs.declared.token.Token.{Token}
use Rattle.game_core.specs.declared.token.Token.TheVariants.{Right, Text, Number}
use Rattle.file_parts.specs.Reading.{opening_brace_at, closing_brace_at, text_at, word_at, number_at, after_text, whole_at, optional_text_at, texts_at, payoff_start, opens, ends, count_at}
use Rattle.file_parts.specs.Parsing.{Parsed, ◌>>=◌, wanted, expected_mark, parse_each, parse_names, parse_title}
use Rattle.written_trees.specs.Written.{SetUse, OutcomeUse}
use Rattle.written_trees.specs.Building.{PartialTree, PartialSet, PartialOutcome, Branching, root_alone, tree_so_far, UsedSet, with_parts, passed as limit_passed, set_place, outcome_place, add_test, new_set, used_set, new_outcome, used_outcome}
use Rattle.tree_grammar.specs.TreePieces.{closed_at, begins_node}
use Rattle.tree_grammar.specs.declared.kinds.EfgKind.{EfgKind}
use Rattle.tree_grammar.specs.declared.kinds.EfgKind.TheVariants.{Header, Players, Node, UnknownPlayer, SetMismatch, Probability, ProbabilityRange, OutcomeMismatch, Unfinished, Trailing}

-- whether a closing brace comes
abbrev pub closes : List Token → Bool
closes (Right ∷ rest) = true
closes _ = false

-- whether a text comes
abbrev pub has_text : List Token → Bool
has_text (Text text ∷ rest) = true
has_text _ = false

-- whether a number comes
abbrev pub has_number : List Token → Bool
has_number (Number value ∷ rest) = true
has_number _ = false

-- ---- a list of actions
-- the sum with one more probability of the set with this number, or why it may not come
unfoldable pub sum_with : ℕ → ℚ → ℚ → Result ℚ EfgKind
sum_with set sum prob =
    if add_test sum prob
    then (if le_test zero_ℚ prob && le_test (sum +ℚ prob) one_ℚ then Ok (sum +ℚ prob)
    else Err (Probability set (sum +ℚ prob)))
    else Err (ProbabilityRange set (step_of Add sum prob))

-- a kind of fault at these tokens
abbrev pub at_tokens : {X : Type 0} → List Token → Result X EfgKind
    → Result X (EfgKind × List Token)
at_tokens tokens (Ok x) = Ok x
at_tokens tokens (Err kind) = Err (kind, tokens)

-- as many actions of chance as come, and their sum after this one
abbrev pub parse_chances : ℕ → ℚ → List Token → Parsed EfgKind (List Action × ℚ)
parse_chances set sum (Text name ∷ Number prob ∷ rest) = do
  next ← at_tokens (Number prob ∷ rest) (sum_with set sum prob)
  more ← parse_chances set next rest
  Ok ((record { name = name; prob = prob } ∷ more.0.0, more.0.1), more.1)
parse_chances set sum (Text name ∷ rest) = Err (Node, rest)
parse_chances set sum tokens = Ok (([], sum), tokens)

-- the brace that closes so many actions, which are at least one
abbrev pub parse_closed : ℕ → List Token → Parsed EfgKind (Unit {0})
parse_closed count tokens = expected_mark Node tokens (closed_at count tokens)

-- an action of a player
abbrev pub own_action : List ℕ → Action
own_action name = record { name = name; prob = zero_ℚ }

-- the actions of a player
unfoldable pub parse_own_list : List Token → Parsed EfgKind (List Action)
parse_own_list tokens = do
  rest ← parse_closed (length (texts_at tokens).0) (texts_at tokens).1
  Ok (map own_action (texts_at tokens).0, rest.1)

-- the actions of chance in the set with this number
unfoldable pub parse_chance_list : ℕ → List Token → Parsed EfgKind (List Action)
parse_chance_list set tokens = do
  actions ← parse_chances set zero_ℚ tokens
  rest ← parse_closed (length actions.0.0) actions.1
  if eq_ℚ actions.0.1 one_ℚ then Ok (actions.0.0, rest.1)
      else Err (Probability set actions.0.1, actions.1)

-- the actions of this owner in the set with this number
abbrev pub parse_list_of : Option ℕ → ℕ → List Token → Parsed EfgKind (List Action)
parse_list_of None set tokens = parse_chance_list set tokens
parse_list_of (Some i) set tokens = parse_own_list tokens

-- a first list of actions
unfoldable pub parse_first_list : Option ℕ → ℕ → List Token → Parsed EfgKind (List Action)
parse_first_list owner set tokens = do
  inner ← expected_mark SetMismatch tokens (opening_brace_at tokens)
  parse_list_of owner set inner.1

-- a probability that repeats this one
abbrev pub parse_same : ℚ → List Token → Parsed EfgKind (Unit {0})
parse_same prob (Number value ∷ rest) =
    if eq_ℚ value prob then Ok (tt, rest) else Err (SetMismatch, Number value ∷ rest)
parse_same prob tokens = Err (Node, tokens)

-- the probability that repeats this one where chance is the owner; a player's action has none
abbrev pub parse_probability : Option ℕ → ℚ → List Token → Parsed EfgKind (Unit {0})
parse_probability None prob tokens = parse_same prob tokens
parse_probability (Some i) prob tokens = Ok (tt, tokens)

-- an action that repeats this one
unfoldable pub parse_repeated : Option ℕ → Action → List Token → Parsed EfgKind (Unit {0})
parse_repeated owner action tokens = do
  name ← wanted (if closes tokens then SetMismatch else Node) tokens (text_at tokens)
  parse_probability owner action.prob name.1

-- actions that repeat these
abbrev pub parse_all_repeated : Option ℕ → List Action → List Token → Parsed EfgKind (Unit {0})
parse_all_repeated owner [] tokens = Ok (tt, tokens)
parse_all_repeated owner (action ∷ actions) tokens = do
  rest ← parse_repeated owner action tokens
  parse_all_repeated owner actions rest.1

-- a later list of actions that repeats these
unfoldable pub parse_repeated_list : Option ℕ → List Action → List Token → Parsed EfgKind (Unit {0})
parse_repeated_list owner actions tokens = do
  inner ← expected_mark Node tokens (opening_brace_at tokens)
  following ← parse_all_repeated owner actions inner.1
  expected_mark (if has_text following.1 then SetMismatch else Node) following.1
      (closing_brace_at following.1)

-- a list that may be left out
abbrev pub parse_optional : (List Token → Parsed EfgKind (Unit {0})) → List Token
    → Parsed EfgKind (Unit {0})
parse_optional parse tokens = if opens tokens then parse tokens else Ok (tt, tokens)

-- a later list of actions, which may be left out
abbrev pub parse_later_list : Option ℕ → List Action → List Token → Parsed EfgKind (Unit {0})
parse_later_list owner actions tokens = parse_optional (parse_repeated_list owner actions) tokens

-- ---- sets
-- a use of a set by node k, without its actions
abbrev pub bare_use : Option ℕ → ℕ → Option (List ℕ) → SetUse
bare_use owner label name = record { owner = owner; label = label; name = name; actions = None }

-- what follows the number and the name of a set that is used so, where the set with its key is this
-- one
abbrev pub parse_use : ℕ → List PartialSet → SetUse → Option PartialSet → List Token
    → Parsed EfgKind (List PartialSet)
parse_use k sets used None tokens = do
  actions ← parse_first_list used.owner used.label tokens
  Ok (sets ++ new_set k used actions.0 ∷ [], actions.1)
parse_use k sets used (Some set) tokens = do
  rest ← parse_later_list set.owner set.actions tokens
  Ok (slice_set sets (set_place sets (used.owner, used.label)) (used_set k used set), rest.1)

-- a set that node k uses: the sets with it, and its place
unfoldable pub parse_set : ℕ → List PartialSet → Option ℕ → List Token
    → Parsed EfgKind (List PartialSet × ℕ)
parse_set k sets owner tokens = do
  label ← wanted Node tokens (count_at tokens)
  more ← parse_use k sets (bare_use owner label.0 (optional_text_at label.1).0)
      (slice_get sets (set_place sets (owner, label.0))) (optional_text_at label.1).1
  Ok ((more.0, set_place sets (owner, label.0)), more.1)

-- a player's number, from 1 to the number of players
unfoldable pub parse_player : ℕ → List Token → Parsed EfgKind ℕ
parse_player players tokens = do
  player ← wanted Node tokens (whole_at tokens)
  if nat_le 1 player.0 && nat_le player.0 players then Ok (player.0 - 1, player.1)
      else Err (UnknownPlayer, tokens)

-- ---- outcomes
-- a payoff with this index
abbrev pub parse_payoff : ℕ → List Token → Parsed EfgKind ℚ
parse_payoff index tokens =
    wanted (if closes (payoff_start index tokens) then OutcomeMismatch else Node)
    (payoff_start index tokens) (number_at (payoff_start index tokens))

-- the brace that closes payoffs
abbrev pub parse_payoffs_end : List Token → Parsed EfgKind (Unit {0})
parse_payoffs_end tokens =
    expected_mark (if has_number tokens then OutcomeMismatch else Node) tokens
    (closing_brace_at tokens)

-- payoffs of a first use
unfoldable pub parse_first_payoffs : ℕ → List Token → Parsed EfgKind (List ℚ)
parse_first_payoffs players tokens = do
  inner ← expected_mark OutcomeMismatch tokens (opening_brace_at tokens)
  payoffs ← parse_each parse_payoff 0 players inner.1
  rest ← parse_payoffs_end payoffs.1
  Ok (payoffs.0, rest.1)

-- a payoff that repeats this one
unfoldable pub parse_same_payoff : ℕ → ℚ → List Token → Parsed EfgKind (Unit {0})
parse_same_payoff index payoff tokens = do
  next ← parse_payoff index tokens
  if eq_ℚ next.0 payoff then Ok (tt, next.1) else Err (OutcomeMismatch, payoff_start index tokens)

-- payoffs that repeat these, where so many were read before
abbrev pub parse_same_payoffs : ℕ → List ℚ → List Token → Parsed EfgKind (Unit {0})
parse_same_payoffs index [] tokens = Ok (tt, tokens)
parse_same_payoffs index (payoff ∷ payoffs) tokens = do
  rest ← parse_same_payoff index payoff tokens
  parse_same_payoffs (suc index) payoffs rest.1

-- payoffs of a later use that repeat these
unfoldable pub parse_repeated_payoffs : List ℚ → List Token → Parsed EfgKind (Unit {0})
parse_repeated_payoffs payoffs tokens = do
  inner ← expected_mark Node tokens (opening_brace_at tokens)
  following ← parse_same_payoffs 0 payoffs inner.1
  parse_payoffs_end following.1

-- payoffs of a later use, which may be left out
abbrev pub parse_later_payoffs : List ℚ → List Token → Parsed EfgKind (Unit {0})
parse_later_payoffs payoffs tokens = parse_optional (parse_repeated_payoffs payoffs) tokens

-- a use of an outcome, without its payoffs
abbrev pub bare_outcome_use : ℕ → Option (List ℕ) → OutcomeUse
bare_outcome_use label name = record { label = label; name = name; payoffs = None }

-- what follows the number and the name of an outcome that is used so, where the outcome with its
-- number is this one
abbrev pub parse_outcome_use : ℕ → List PartialOutcome → OutcomeUse → Option PartialOutcome
    → List Token → Parsed EfgKind (List PartialOutcome)
parse_outcome_use players outcomes used None tokens = do
  payoffs ← parse_first_payoffs players tokens
  Ok (outcomes ++ new_outcome used payoffs.0 ∷ [], payoffs.1)
parse_outcome_use players outcomes used (Some outcome) tokens = do
  rest ← parse_later_payoffs outcome.payoffs tokens
  Ok (slice_set outcomes (outcome_place outcomes used.label) (used_outcome used outcome), rest.1)

-- an outcome that a node uses, after its number
unfoldable pub parse_named : ℕ → ℕ → List PartialOutcome → List Token
    → Parsed EfgKind (List PartialOutcome × Option ℕ)
parse_named players label outcomes tokens = do
  more ← parse_outcome_use players outcomes (bare_outcome_use label (optional_text_at tokens).0)
      (slice_get outcomes (outcome_place outcomes label)) (optional_text_at tokens).1
  Ok ((more.0, Some (outcome_place outcomes label)), more.1)

-- an outcome that a node uses, or none
unfoldable pub parse_outcome : ℕ → List PartialOutcome → List Token
    → Parsed EfgKind (List PartialOutcome × Option ℕ)
parse_outcome players outcomes tokens = do
  label ← wanted Node tokens (whole_at tokens)
  if nat_eq label.0 0 then Ok ((outcomes, None), label.1)
      else parse_named players label.0 outcomes label.1

-- ---- nodes
-- chance or a player who chooses at node k, and the sets with the one that it uses
unfoldable pub parse_set_choice : ℕ → List PartialSet → Option ℕ → List Token
    → Parsed EfgKind UsedSet
parse_set_choice k sets owner tokens = do
  used ← parse_set k sets owner tokens
  Ok ((used.0.0, (kind_of_owner owner, Some used.0.1)), used.1)

-- a player who chooses at node k, and the sets with the one that it uses
unfoldable pub parse_own_choice : ℕ → ℕ → List PartialSet → List Token → Parsed EfgKind UsedSet
parse_own_choice players k sets tokens = do
  player ← parse_player players tokens
  parse_set_choice k sets (Some player.0) player.1

-- what follows the word of a node, and its name
abbrev pub parse_after : ℕ → ℕ → List PartialSet → List ℕ → List Token → List Token
    → Parsed EfgKind UsedSet
parse_after players k sets word start tokens =
    if bytes_eq word (codes "c") then parse_set_choice k sets None tokens
    else if bytes_eq word (codes "p") then parse_own_choice players k sets tokens
    else if bytes_eq word (codes "t") then Ok ((sets, (End, None)), tokens) else Err (Node, start)

-- what a node begins with: its word, its name, and who chooses there
unfoldable pub parse_choice : ℕ → ℕ → List PartialSet → List Token → Parsed EfgKind UsedSet
parse_choice players k sets tokens = do
  word ← wanted Node tokens (word_at tokens)
  name ← wanted Node word.1 (text_at word.1)
  parse_after players k sets word.0 tokens name.1

-- the tree with a node of this kind, with this set and this outcome, at the first open branch
abbrev pub grown_at : PartialTree → Kind → Option ℕ → Option ℕ → List Branching → Option PartialTree
grown_at partial kind set outcome [] = None
grown_at partial kind set outcome (b ∷ rest) =
    Some (with_parts partial b rest (partial.sets, (kind, set)) (partial.outcomes, outcome))

-- the tree with this node at its first open branch, where it has one
abbrev pub grown : PartialTree → Kind → Option ℕ → Option ℕ → Option PartialTree
grown partial kind set outcome = grown_at partial kind set outcome partial.branchings

-- a further node at the first of these open branches
unfoldable pub parse_next : ℕ → PartialTree → Branching → List Branching → List Token
    → Parsed EfgKind PartialTree
parse_next players partial b rest tokens = do
  choice ← parse_choice players (length partial.nodes) partial.sets tokens
  outcome ← parse_outcome players partial.outcomes choice.1
  Ok (with_parts partial b rest choice.0 outcome.0, outcome.1)

-- why nodes are not read: a token does not fit, with its kind and the tokens from it on; or a limit
-- is passed
abbrev pub NodeStop : Type 0
NodeStop = (EfgKind × List Token) ⊎ What

-- what nodes stand for and the tokens after them, or why they are not read
abbrev pub ParsedNodes : Type 0 → Type 0
ParsedNodes X = Result (X × List Token) NodeStop

-- a reading, unless this limit is passed before it
abbrev pub within_limit : {X : Type 0} → Option What → Result X (EfgKind × List Token)
    → Result X NodeStop
within_limit (Some what) reading = Err (inr what)
within_limit None (Ok x) = Ok x
within_limit None (Err fault) = Err (inl fault)

-- a further node, where a branch is open and a node's word comes, unless it passes a limit
abbrev pub parse_at : ℕ → PartialTree → List Branching → List Token → ParsedNodes PartialTree
parse_at players partial [] tokens = Err (inl (Node, tokens))
parse_at players partial (b ∷ rest) tokens =
    if begins_node tokens
    then within_limit (limit_passed partial) (parse_next players partial b rest tokens)
    else Err (inl (Node, tokens))

-- whether no branch is open
abbrev pub is_whole : PartialTree → Bool
is_whole partial = nat_eq (length partial.branchings) 0

-- nodes until no branch is open, and at most so many
abbrev pub parse_nodes : ℕ → ℕ → PartialTree → List Token → ParsedNodes PartialTree
parse_nodes zero players partial tokens = Err (inl (Node, tokens))
parse_nodes (suc most) players partial tokens =
    if is_whole partial then Ok (partial, tokens)
    else (parse_at players partial partial.branchings tokens
    >>= λ x. parse_nodes most players x.0 x.1)

-- ---- the file
-- the title and the players
abbrev pub FrontPart : Type 0
FrontPart = List ℕ × List (List ℕ)

-- the front of a file, after which a text may come
unfoldable pub parse_front : List Token → Parsed EfgKind FrontPart
parse_front tokens = do
  title ← parse_title Header (codes "EFG") 2 tokens
  players ← parse_names Players title.1
  Ok ((title.0, players.0), after_text players.1)

-- the nodes, with which the file ends
unfoldable pub parse_all_nodes : ℕ → List Token → Result PartialTree NodeStop
parse_all_nodes players tokens = do
  partial ← parse_nodes (suc (length tokens)) players root_alone tokens
  if ends partial.1 then Ok partial.0 else Err (inl (Trailing, partial.1))

-- where the tokens end inside the nodes, that is the fault
abbrev pub in_nodes : {X : Type 0} → Result X NodeStop → Result X NodeStop
in_nodes (Err (inl (kind, []))) = Err (inl (Unfinished, []))
in_nodes reading = reading

-- the tree of a file
unfoldable pub parse_tree : List Token → Result GameTree NodeStop
parse_tree tokens = do
  front ← within_limit None (parse_front tokens)
  partial ← in_nodes (parse_all_nodes (length front.0.1) front.1)
  Ok (tree_so_far front.0.0 front.0.1 partial)
