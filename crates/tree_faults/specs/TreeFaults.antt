-- Files of trees that stop: tokens that begin a file, and the points of a node at which they may
-- stop.
use Rattle.std.specs.Prelude.{ℕ, ◌≡◌, List, [], ◌∷◌, ◌++◌, length, codes, Option, Some, None}
use Rattle.std.specs.List.{flat_map}
use Rattle.rational.specs.Rational.{ℚ}
use Rattle.game_core.specs.declared.tree.Action.{Action}
use Rattle.game_core.specs.Tree.{GameTree, OpenBranch}
use Rattle.game_core.specs.declared.token.Token.{Token}
use Rattle.game_core.specs.declared.token.Token.TheVariants.{Left, Text, Word}
use Rattle.file_parts.specs.Parts.{IsTitlePart, NamesPlayers, IsOpen}
use Rattle.written_trees.specs.Written.{SetUse, OutcomeUse}
use Rattle.written_trees.specs.Described.{key_of, set_uses, outcome_uses, uses_of_set, uses_of_outcome}
use Rattle.tree_grammar.specs.TreeFile.{IsPartialFile, IsTreeFile, IsInnerPart, IsChoicePart, IsOutcomePart, ArePayoffs, action_tokens}

-- ---- files
-- the tokens are a file of some tree
abbrev pub IsFile : List Token → Type 0
IsFile tokens = (tree : GameTree) × IsTreeFile tokens tree

-- The tokens begin a file: they can go on to the end of the node in which they stop, and this node
-- agrees with those before it. (To the end of the file they need not go on within the limits on
-- nodes and depth. Numbers may be of any size here, so that a sum of probabilities below 1 can
-- always go on to 1.)
abbrev pub BeginsFile : List Token → Type 0
BeginsFile tokens =
    (more : List Token) × (tree : GameTree) × (free : List OpenBranch)
    × IsPartialFile (tokens ++ more) tree free

-- ---- the front of a file
-- the header and the title
abbrev pub IsTitle : List Token → Type 0
IsTitle = IsTitlePart (codes "EFG") 2

-- the title is whole, and the players are not
abbrev pub StopsInPlayers : List Token → Type 0
StopsInPlayers tokens =
    (title part : List Token) × (tokens ≡ title ++ part) × IsTitle title × IsOpen NamesPlayers part

-- the title and the players are whole, and nodes are wanted
abbrev pub StopsInNodes : List Token → Type 0
StopsInNodes tokens =
    ((title names more : List Token) × (tokens ≡ title ++ names ++ more) × IsTitle title
    × NamesPlayers names) × ¬ (IsFile tokens)

-- ---- points of a node
-- whole nodes, and after them a node in which the player's number is wanted
abbrev pub StopsAtPlayer : List Token → Type 0
StopsAtPlayer tokens =
    (partial : List Token) × (tree : GameTree) × (free : List OpenBranch) × (name : List ℕ)
    × IsPartialFile partial tree free
    × (tokens ≡ partial ++ Word (codes "p") ∷ Text name ∷ [])

-- Whole nodes, and after them a node up to the number of its set, and maybe the set's name. Earlier
-- nodes use the set so, and the list of its actions is partial with these tokens.
pub record StopsAtSet (tokens : List Token) (used : SetUse) (earlier : List (ℕ × SetUse))
    (list : List Token) : Type 0 where
  pub partial : List Token
  pub tree : GameTree
  pub free : List OpenBranch
  pub is_partial : IsPartialFile partial tree free
  pub front : List Token
  pub is_front : IsInnerPart (length tree.players) used.owner front used
  pub no_list : used.actions ≡ None
  pub earlier_are : earlier ≡ uses_of_set (key_of used) (set_uses is_partial.written)
  pub are_tokens : tokens ≡ partial ++ front ++ list

-- The same for a node up to the number of its outcome, which is not 0, and maybe the outcome's
-- name.
pub record StopsAtOutcome (tokens : List Token) (used : OutcomeUse)
    (earlier : List (ℕ × OutcomeUse)) (list : List Token) : Type 0 where
  pub partial : List Token
  pub tree : GameTree
  pub free : List OpenBranch
  pub is_partial : IsPartialFile partial tree free
  pub choice : List Token
  pub set : Option SetUse
  pub is_choice : IsChoicePart (length tree.players) choice set
  pub front : List Token
  pub is_front : IsOutcomePart (length tree.players) front (Some used)
  pub no_list : used.payoffs ≡ None
  pub earlier_are : earlier ≡ uses_of_outcome used.label (outcome_uses is_partial.written)
  pub are_tokens : tokens ≡ partial ++ choice ++ front ++ list

-- ---- partial lists
-- a list of actions is partial with these whole actions
abbrev pub HasActions : Option ℕ → List Action → List Token → Type 0
HasActions owner actions list = list ≡ Left ∷ flat_map (action_tokens owner) actions

-- after whole actions of chance, the probability of one more is wanted
abbrev pub WantsProbability : List Action → List Token → Type 0
WantsProbability actions list =
    (name : List ℕ) × (list ≡ Left ∷ flat_map (action_tokens None) actions ++ Text name ∷ [])

-- a list of payoffs is partial and not closed
abbrev pub HasPayoffs : ℕ → List Token → Type 0
HasPayoffs players list =
    (inner : List Token) × (list ≡ Left ∷ inner)
    × IsOpen (λ tokens. (payoffs : List ℚ) × ArePayoffs players tokens (Some payoffs)) list
