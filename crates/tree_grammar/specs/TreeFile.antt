-- Files of game trees: which tokens stand for which tree. Source: Gambit's description of its
-- `.efg` format, version 2.
use Rattle.std.specs.Prelude.{ℕ, suc, ◌<◌, ◌≤◌, ◌≡◌, ◌⊎◌, List, [], ◌∷◌, ◌++◌, length, codes, Option, Some, None}
use Rattle.std.specs.List.{flat_map}
use Rattle.rational.specs.Rational.{ℚ}
use Rattle.game_core.specs.declared.tree.Action.{Action}
use Rattle.game_core.specs.declared.too_large.What.{What}
use Rattle.game_core.specs.Tree.{GameTree, OpenBranch}
use Rattle.game_core.specs.declared.token.Token.{Token}
use Rattle.game_core.specs.declared.token.Token.TheVariants.{Left, Right, Text, Word, Number}
use Rattle.file_parts.specs.Parts.{whole_number, optional_text, IsHeader, braced_texts, IsComment, AreNumbers}
use Rattle.written_trees.specs.Written.{SetUse, OutcomeUse, WrittenNode}
use Rattle.written_trees.specs.Described.{Describe, IsActionList, PassesAt}

-- an action: a text, and after it a number where chance chooses
abbrev pub action_tokens : Option ℕ → Action → List Token
action_tokens None action = Text action.name ∷ Number action.prob ∷ []
action_tokens (Some i) action = Text action.name ∷ []

-- a list of actions in braces, which may stand there
abbrev pub AreActions : Option ℕ → List Token → Option (List Action) → Type 0
AreActions owner tokens None = tokens ≡ []
AreActions owner tokens (Some actions) =
    IsActionList owner actions
    × (tokens ≡ Left ∷ flat_map (action_tokens owner) actions ++ Right ∷ [])

-- a set: its number, which is at least 1, and maybe its name and its actions
abbrev pub IsSetPart : List Token → SetUse → Type 0
IsSetPart tokens used =
    (1 ≤ used.label) × (list : List Token)
    × (tokens ≡ whole_number used.label ∷ optional_text used.name ++ list)
    × AreActions used.owner list used.actions

-- payoffs in braces, one per player, which may stand there
abbrev pub ArePayoffs : ℕ → List Token → Option (List ℚ) → Type 0
ArePayoffs players tokens None = tokens ≡ []
ArePayoffs players tokens (Some payoffs) =
    (numbers : List Token) × (tokens ≡ Left ∷ numbers ++ Right ∷ []) × AreNumbers numbers payoffs
    × (length payoffs ≡ players)

-- an outcome: the number 0 where there is none, and else its number, and maybe its name and its
-- payoffs
abbrev pub IsOutcomePart : ℕ → List Token → Option OutcomeUse → Type 0
IsOutcomePart players tokens None = tokens ≡ whole_number 0 ∷ []
IsOutcomePart players tokens (Some used) =
    (1 ≤ used.label) × (list : List Token)
    × (tokens ≡ whole_number used.label ∷ optional_text used.name ++ list)
    × ArePayoffs players list used.payoffs

-- a node of a player, who is named by a number from 1 on, or of chance
abbrev pub IsInnerPart : ℕ → Option ℕ → List Token → SetUse → Type 0
IsInnerPart players None tokens used =
    (name : List ℕ) × (part : List Token) × (tokens ≡ Word (codes "c") ∷ Text name ∷ part)
    × IsSetPart part used
IsInnerPart players (Some i) tokens used =
    (i < players) × (name : List ℕ) × (part : List Token)
    × (tokens ≡ Word (codes "p") ∷ Text name ∷ whole_number (suc i) ∷ part) × IsSetPart part used

-- a node up to its outcome: an end, or a node at which a choice is made
abbrev pub IsChoicePart : ℕ → List Token → Option SetUse → Type 0
IsChoicePart players tokens None = (name : List ℕ) × (tokens ≡ Word (codes "t") ∷ Text name ∷ [])
IsChoicePart players tokens (Some used) = IsInnerPart players used.owner tokens used

-- a node
abbrev pub IsNode : ℕ → List Token → WrittenNode → Type 0
IsNode players tokens node =
    (front back : List Token) × (tokens ≡ front ++ back) × IsChoicePart players front node.set
    × IsOutcomePart players back node.outcome

-- nodes one after another
abbrev pub AreNodes : ℕ → List Token → List WrittenNode → Type 0
AreNodes players tokens [] = tokens ≡ []
AreNodes players tokens (node ∷ nodes) =
    (front back : List Token) × (tokens ≡ front ++ back) × IsNode players front node
    × AreNodes players back nodes

-- the tokens up to the nodes: header, title, one or more players, and maybe a comment
pub record IsFront (tokens : List Token) (title : List ℕ) (players : List (List ℕ)) : Type 0 where
  pub header : List Token
  pub is_header : IsHeader (codes "EFG") 2 header
  pub some_player : 1 ≤ length players
  pub comment : List Token
  pub is_comment : IsComment comment
  pub is_front : tokens ≡ header ++ Text title ∷ braced_texts players ++ comment

-- The tokens begin as a file whose nodes describe this tree, as far as it goes, and leave these
-- branches open.
pub record IsPartialFile (tokens : List Token) (t : GameTree)
    (free : List OpenBranch) : Type 0 where
  pub front : List Token
  pub is_front : IsFront front t.title t.players
  pub written : List WrittenNode
  pub nodes : List Token
  pub are_nodes : AreNodes (length t.players) nodes written
  pub describe : Describe written t free
  pub are_tokens : tokens ≡ front ++ nodes

-- the tokens are a file of this tree: no branch is left open
abbrev pub IsTreeFile : List Token → GameTree → Type 0
IsTreeFile tokens t = IsPartialFile tokens t []

-- the word with which a node begins
abbrev pub IsNodeWord : List ℕ → Type 0
IsNodeWord word = (word ≡ codes "c") ⊎ (word ≡ codes "p") ⊎ (word ≡ codes "t")

-- The tokens begin as a file, and then a further node begins that passes a limit.
pub record PassesLimit (tokens : List Token) (what : What) : Type 0 where
  pub tree : GameTree
  pub free : List OpenBranch
  pub partial : List Token
  pub is_partial : IsPartialFile partial tree free
  pub passes : PassesAt tree free what
  pub word : List ℕ
  pub is_word : IsNodeWord word
  pub rest : List Token
  pub are_tokens : tokens ≡ partial ++ Word word ∷ rest
