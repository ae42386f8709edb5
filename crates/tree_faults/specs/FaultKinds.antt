-- Faults in files of trees: the kind is told by the point of the file at which the tokens before it
-- stop, and by what comes.
use Rattle.std.specs.Prelude.{ℕ, ◌≤◌, ◌≡◌, ◌≢◌, ◌⊎◌, List, [], ◌∷◌, length, None}
use Rattle.rational.specs.Rational.{ℚ, ◌+ℚ◌}
use Rattle.rational.specs.Sum.{sum_to}
use Rattle.frac128.specs.Steps.{AddFits, step_of}
use Rattle.frac128.specs.declared.steps.Op.TheVariants.{Add}
use Rattle.game_core.specs.declared.tree.Action.{Action}
use Rattle.game_core.specs.Tree.{probability_at}
use Rattle.game_core.specs.TokenList.{TokenList}
use Rattle.game_core.specs.declared.token.Token.{Token}
use Rattle.game_core.specs.declared.token.Token.TheVariants.{Right, Text, Number}
use Rattle.file_parts.specs.Faults.{IsFaultAt, WholeComes}
use Rattle.file_parts.specs.Parts.{IsOpen}
use Rattle.written_trees.specs.Written.{SetUse, OutcomeUse}
use Rattle.tree_faults.specs.TreeFaults.{IsFile, BeginsFile, IsTitle, StopsInPlayers, StopsInNodes, StopsAtPlayer, StopsAtSet, StopsAtOutcome, HasActions, WantsProbability, HasPayoffs}
use Rattle.tree_grammar.specs.declared.kinds.EfgKind.{EfgKind}
use Rattle.tree_grammar.specs.declared.kinds.EfgKind.TheVariants.{Header, Players, Node, UnknownPlayer, SetMismatch, Probability, ProbabilityRange, OutcomeMismatch, Unfinished, Trailing}

-- ---- what comes
-- the number v comes
abbrev pub NumberComes : ℚ → List Token → Type 0
NumberComes v rest = (more : List Token) × (rest ≡ Number v ∷ more)

-- a text comes
abbrev pub TextComes : List Token → Type 0
TextComes rest = (text : List ℕ) × (more : List Token) × (rest ≡ Text text ∷ more)

-- a closing brace comes
abbrev pub BraceComes : List Token → Type 0
BraceComes rest = (more : List Token) × (rest ≡ Right ∷ more)

-- ---- sets
-- at the first use of a set its list is wanted, and something else comes
abbrev pub LacksList : List Token → List Token → Type 0
LacksList before rest = (used : SetUse) × StopsAtSet before used [] [] × (rest ≢ [])

-- In a later list of a set's actions a text or the closing brace comes after a whole action, and is
-- too early or too late; or the number of a probability comes, and is another one.
abbrev pub DiffersFromFirst : List Token → List Token → Type 0
DiffersFromFirst before rest =
    (used : SetUse) × (first : ℕ × SetUse) × (later : List (ℕ × SetUse)) × (actions : List Action)
    × (list : List Token) × StopsAtSet before used (first ∷ later) list
    × ((HasActions used.owner actions list × (TextComes rest ⊎ BraceComes rest))
    ⊎ ((used.owner ≡ None) × WantsProbability actions list × (v : ℚ) × NumberComes v rest))

-- the sum of the probabilities of these actions
abbrev pub sum_of : List Action → ℚ
sum_of actions = sum_to (length actions) (probability_at actions)

-- in the first list of a set of chance with this number, after these whole actions
abbrev pub StopsInChances : List Token → ℕ → List Action → (List Token → Type 0) → Type 0
StopsInChances before label actions IsList =
    (used : SetUse) × (list : List Token) × StopsAtSet before used [] list × (used.owner ≡ None)
    × (used.label ≡ label) × IsList list

-- a probability comes that can be added; or the brace that closes one or more actions comes. This
-- is the sum with it.
abbrev pub SumsTo : List Token → List Token → ℕ → ℚ → Type 0
SumsTo before rest label sum = (actions : List Action) ×
    ((StopsInChances before label actions (WantsProbability actions) × (v : ℚ) × NumberComes v rest
    × AddFits (sum_of actions) v × (sum ≡ sum_of actions +ℚ v))
    ⊎ (StopsInChances before label actions (HasActions None actions) × (1 ≤ length actions)
    × BraceComes rest × (sum ≡ sum_of actions)))

-- ---- outcomes
-- At the first use of an outcome its payoffs are wanted, and something else comes; or in a list of
-- payoffs a number or the closing brace comes, where there are too many or too few, or the number
-- is another one.
abbrev pub PaysOtherwise : List Token → List Token → Type 0
PaysOtherwise before rest =
    (used : OutcomeUse)
    × ((StopsAtOutcome before used [] [] × (rest ≢ []))
    ⊎ ((earlier : List (ℕ × OutcomeUse)) × (list : List Token)
    × (s : StopsAtOutcome before used earlier list) × HasPayoffs (length s.tree.players) list
    × (((v : ℚ) × NumberComes v rest) ⊎ BraceComes rest)))

-- ---- kinds
-- The kinds of faults inside the nodes that have a name of their own.
abbrev pub IsNodeKind : EfgKind → List Token → List Token → Type 0
IsNodeKind UnknownPlayer before rest = StopsAtPlayer before × WholeComes rest
IsNodeKind SetMismatch before rest = LacksList before rest ⊎ DiffersFromFirst before rest
IsNodeKind (Probability label sum) before rest = SumsTo before rest label sum
IsNodeKind (ProbabilityRange label step) before rest = (actions : List Action) × (v : ℚ)
    × StopsInChances before label actions (WantsProbability actions) × NumberComes v rest
    × ¬ (AddFits (sum_of actions) v) × (step ≡ step_of Add (sum_of actions) v)
IsNodeKind OutcomeMismatch before rest = PaysOtherwise before rest
IsNodeKind _ before rest = ⊥

-- The kind of the fault that these tokens have after those before. Inside the nodes a fault without
-- a name of its own is one of the node's form, and the end is one that comes too early.
abbrev pub IsKind : EfgKind → List Token → List Token → Type 0
IsKind Header before rest = IsOpen IsTitle before
IsKind Players before rest = StopsInPlayers before
IsKind Node before rest =
    StopsInNodes before × (rest ≢ []) × ((kind : EfgKind) → IsNodeKind kind before rest → ⊥)
IsKind Unfinished before rest = StopsInNodes before × (rest ≡ [])
IsKind Trailing before rest = IsFile before
IsKind kind before rest = IsNodeKind kind before rest

-- a fault of this kind at this offset
abbrev pub IsFault : TokenList → EfgKind → ℕ → Type 0
IsFault = IsFaultAt IsFile BeginsFile IsKind
