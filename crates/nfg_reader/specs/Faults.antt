-- Faults in files of tables: what begins a file, and the parts of a file in which tokens stop.
use Rattle.std.specs.Prelude.{ℕ, ◌*◌, ◌≤◌, ◌≡◌, ◌⊎◌, List, [], ◌∷◌, ◌++◌, length, map, codes}
use Rattle.std.specs.List.{AllByRecursion}
use Rattle.rational.specs.Rational.{ℚ}
use Rattle.game_theory.specs.Profiles.{profile_count}
use Rattle.game_core.specs.Table.{GameTable}
use Rattle.game_core.specs.TokenList.{TokenList}
use Rattle.game_core.specs.declared.token.Token.{Token}
use Rattle.game_core.specs.declared.token.Token.TheVariants.{Left, Right}
use Rattle.file_parts.specs.Faults.{IsFaultAt, WholeComes}
use Rattle.file_parts.specs.Parts.{whole_number, IsTitlePart, ArePlayers, NamesPlayers, IsComment, AreNumbers, IsOpen}
use Rattle.nfg_reader.specs.TableFile.{AreStrategyTokens, AreOutcomes, IsFront, IsTableFile}
use Rattle.nfg_reader.specs.declared.reading.NfgKind.{NfgKind}
use Rattle.nfg_reader.specs.declared.reading.NfgKind.TheVariants.{Header, Players, Strategies, Outcome, PayoffCount, Trailing}

-- the tokens are a file of some table
abbrev pub IsFile : List Token → Type 0
IsFile tokens = (table : GameTable) × IsTableFile tokens table

-- the tokens begin a file: some more make them one
abbrev pub BeginsFile : List Token → Type 0
BeginsFile tokens = (more : List Token) × IsFile (tokens ++ more)

-- ---- parts of a file
-- the header and the title
abbrev pub IsTitle : List Token → Type 0
IsTitle = IsTitlePart (codes "NFG") 1

-- strategies for this many players
abbrev pub AreStrategiesOf : ℕ → List Token → Type 0
AreStrategiesOf players tokens =
    (strategies : List (List (List ℕ))) × AreStrategyTokens tokens strategies
    × (length strategies ≡ players)

-- this many payoffs
abbrev pub ArePayoffsOf : ℕ → List Token → Type 0
ArePayoffsOf n tokens = (payoffs : List ℚ) × AreNumbers tokens payoffs × (length payoffs ≡ n)

-- outcomes and the brace that closes them
abbrev pub AreClosedOutcomes : ℕ → List (List ℚ) → List Token → Type 0
AreClosedOutcomes players outcomes tokens =
    (list : List Token) × AreOutcomes players list outcomes × (tokens ≡ list ++ Right ∷ [])

-- this many numbers of so many outcomes
abbrev pub AreNumbersOf : ℕ → ℕ → List Token → Type 0
AreNumbersOf outcomes n tokens =
    (numbers : List ℕ) × AllByRecursion (λ m. m ≤ outcomes) numbers × (length numbers ≡ n)
    × (tokens ≡ map whole_number numbers)

-- ---- what a file stops in
-- the title and the players are whole, and the strategies are not
abbrev pub StopsInStrategies : List Token → Type 0
StopsInStrategies tokens =
    (title names part : List Token) × (players : List (List ℕ)) × (tokens ≡ title ++ names ++ part)
    × IsTitle title × ArePlayers players names × IsOpen (AreStrategiesOf (length players)) part

-- the strategies are whole, and after them and a comment or none the body begins so
pub record HasBody (Begins : ℕ → ℕ → List Token → Type 0) (tokens : List Token) : Type 0 where
  pub title : List ℕ
  pub players : List (List ℕ)
  pub strategies : List (List (List ℕ))
  pub front : List Token
  pub is_front : IsFront front title players strategies
  pub comment : List Token
  pub is_comment : IsComment comment
  pub body : List Token
  pub begins : Begins (length players) (profile_count (map length strategies)) body
  pub are_tokens : tokens ≡ front ++ comment ++ body

-- the outcomes' list is opened and not closed
abbrev pub StopsInOutcomes : ℕ → ℕ → List Token → Type 0
StopsInOutcomes players profiles body =
    (part : List Token) × (body ≡ Left ∷ part)
    × IsOpen (λ tokens. (outcomes : List (List ℚ)) × AreClosedOutcomes players outcomes tokens) part

-- the outcomes' list is closed, and numbers of outcomes are wanted
abbrev pub StopsInNumbers : ℕ → ℕ → List Token → Type 0
StopsInNumbers players profiles body =
    (list part : List Token) × (outcomes : List (List ℚ)) × (body ≡ Left ∷ list ++ part)
    × AreClosedOutcomes players outcomes list
    × IsOpen (AreNumbersOf (length outcomes) profiles) part

-- payoffs are wanted
abbrev pub StopsInPayoffs : ℕ → ℕ → List Token → Type 0
StopsInPayoffs players profiles body = IsOpen (ArePayoffsOf (players * profiles)) body

-- The kind of the fault that these tokens have after those before: the part in which the file
-- stops. Where the number of an outcome is wanted, a whole number can only be one that no outcome
-- has, and that is a fault of the outcomes.
abbrev pub IsKind : NfgKind → List Token → List Token → Type 0
IsKind Header before rest = IsOpen IsTitle before
IsKind Players before rest =
    (title part : List Token) × (before ≡ title ++ part) × IsTitle title × IsOpen NamesPlayers part
IsKind Strategies before rest = StopsInStrategies before
IsKind Outcome before rest =
    HasBody StopsInOutcomes before ⊎ (HasBody StopsInNumbers before × WholeComes rest)
IsKind PayoffCount before rest =
    HasBody StopsInPayoffs before ⊎ (HasBody StopsInNumbers before × ¬ (WholeComes rest))
IsKind Trailing before rest = IsFile before

-- a fault of this kind at this offset
abbrev pub IsFault : TokenList → NfgKind → ℕ → Type 0
IsFault = IsFaultAt IsFile BeginsFile IsKind
