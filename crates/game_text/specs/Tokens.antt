-- The tokens of game files. Source: Gambit's descriptions of its `.nfg` and `.efg` formats.
use Rattle.std.specs.Prelude.{ℕ, ◌+◌, ◌<◌, ◌≤◌, ◌≡◌, ◌≢◌, ◌⊎◌, List, [], ◌∷◌, ◌++◌, length}
use Rattle.std.specs.Char.{IsAsciiDigit}
use Rattle.std.specs.List.{AllByRecursion}
use Rattle.game_text.specs.Numbers.{IsNumber, IsTooLarge, IsNoNumber}
use Rattle.game_core.specs.TokenList.{TokenList}
use Rattle.game_core.specs.declared.token.Spanned.{Spanned}
use Rattle.game_core.specs.declared.token.Token.{Token}
use Rattle.game_core.specs.declared.token.Token.TheVariants.{Left, Right, Comma, Text, Word, Number}
use Rattle.game_text.specs.declared.reading.TextKind.{TextKind}
use Rattle.game_text.specs.declared.reading.TextKind.TheVariants.{BadChar, OpenText, BadNumber, NumberTooLarge}

-- a space, tab, line feed, vertical tab, form feed or carriage return
abbrev pub IsBlank : ℕ → Type 0
IsBlank b = (b ≡ 32) ⊎ ((9 ≤ b) × (b ≤ 13))

-- an ASCII letter
abbrev pub IsLetter : ℕ → Type 0
IsLetter b = ((65 ≤ b) × (b ≤ 90)) ⊎ ((97 ≤ b) × (b ≤ 122))

-- a byte of a bare run: a letter, a digit, `+`, `-`, `.` or `/`
abbrev pub IsBare : ℕ → Type 0
IsBare b = IsLetter b ⊎ IsAsciiDigit b ⊎ (b ≡ 43) ⊎ (b ≡ 45) ⊎ (b ≡ 46) ⊎ (b ≡ 47)

-- the first byte, where there is one
abbrev pub FirstIs : (ℕ → Type 0) → List ℕ → Type 0
FirstIs P [] = ⊥
FirstIs P (b ∷ bytes) = P b

-- The bytes between the quotes spell a text: `\"` is a quote, any other backslash is itself, and no
-- other quote stands there. The last byte is no backslash, since that would spell a quote with the
-- one that closes.
abbrev pub SpellsText : List ℕ → List ℕ → Type 0
SpellsText [] text = text ≡ []
SpellsText (b ∷ []) text = (b ≢ 34) × (b ≢ 92) × (text ≡ b ∷ [])
SpellsText (b ∷ c ∷ bytes) text =
    ((b ≡ 92) × (c ≡ 34) × (rest : List ℕ) × (text ≡ 34 ∷ rest) × SpellsText bytes rest)
    ⊎ ((b ≢ 34) × (b ≡ 92 → c ≢ 34) × (rest : List ℕ) × (text ≡ b ∷ rest)
    × SpellsText (c ∷ bytes) rest)

-- the longest run of bare bytes: all of them are bare, and none follows
pub record IsRun (run rest : List ℕ) : Type 0 where
  pub some : 0 < length run
  pub bare : AllByRecursion IsBare run
  pub longest : ¬ (FirstIs IsBare rest)

-- the bytes are this token's, where these bytes follow
abbrev pub IsTokenAt : List ℕ → List ℕ → Token → Type 0
IsTokenAt bytes rest Left = bytes ≡ 123 ∷ []
IsTokenAt bytes rest Right = bytes ≡ 125 ∷ []
IsTokenAt bytes rest Comma = bytes ≡ 44 ∷ []
IsTokenAt bytes rest (Text text) =
    (inner : List ℕ) × (bytes ≡ 34 ∷ inner ++ 34 ∷ []) × SpellsText inner text
IsTokenAt bytes rest (Word word) = IsRun bytes rest × FirstIs IsLetter bytes × (word ≡ bytes)
IsTokenAt bytes rest (Number value) =
    IsRun bytes rest × ¬ (FirstIs IsLetter bytes) × IsNumber bytes value

-- From this offset on the bytes are these tokens, with blanks before them and between them, and
-- then blanks and the rest.
abbrev pub AreTokensBefore : ℕ → List ℕ → List Spanned → List ℕ → Type 0
AreTokensBefore at bytes [] rest =
    (blanks : List ℕ) × AllByRecursion IsBlank blanks × (bytes ≡ blanks ++ rest)
AreTokensBefore at bytes (spanned ∷ tokens) rest =
    (blanks front back : List ℕ) × AllByRecursion IsBlank blanks × (bytes ≡ blanks ++ front ++ back)
    × IsTokenAt front back spanned.token × (spanned.start ≡ at + length blanks)
    × (spanned.end ≡ spanned.start + length front)
    × AreTokensBefore spanned.end back tokens rest

-- the bytes are these tokens
pub record AreTokens (bytes : List ℕ) (tokens : TokenList) : Type 0 where
  pub in_order : AreTokensBefore 0 bytes tokens.list []
  pub to_the_end : tokens.length ≡ length bytes

-- a byte that begins no token
pub record BeginsNoToken (b : ℕ) : Type 0 where
  pub no_blank : ¬ (IsBlank b)
  pub no_brace : (b ≢ 123) × (b ≢ 125)
  pub no_comma : b ≢ 44
  pub no_quote : b ≢ 34
  pub not_bare : ¬ (IsBare b)

-- the bytes begin with a fault of this kind
abbrev pub BeginsWithFault : List ℕ → TextKind → Type 0
BeginsWithFault bytes BadChar = FirstIs BeginsNoToken bytes
BeginsWithFault bytes OpenText =
    FirstIs (λ b. b ≡ 34) bytes
    × ((inner text rest : List ℕ) → bytes ≡ 34 ∷ inner ++ 34 ∷ rest → SpellsText inner text → ⊥)
BeginsWithFault bytes BadNumber =
    (run rest : List ℕ) × (bytes ≡ run ++ rest) × IsRun run rest × ¬ (FirstIs IsLetter run)
    × IsNoNumber run
BeginsWithFault bytes NumberTooLarge =
    (run rest : List ℕ) × (bytes ≡ run ++ rest) × IsRun run rest × ¬ (FirstIs IsLetter run)
    × IsTooLarge run

-- the first fault: up to its offset the bytes are tokens and blanks
pub record IsFirstFault (bytes : List ℕ) (at : ℕ) (kind : TextKind) : Type 0 where
  pub tokens : List Spanned
  pub rest : List ℕ
  pub are_tokens : AreTokensBefore 0 bytes tokens rest
  pub is_at : at + length rest ≡ length bytes
  pub is_fault : BeginsWithFault rest kind
