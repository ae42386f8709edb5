-- Reading one token, in terms of the bytes from its first on.
use Rattle.std.specs.Prelude.{ℕ, ◌<◌, ◌≡◌, ◌≢◌, Bool, if◌then◌else◌, ◌&&◌, ◌||◌, ◌==◌, nat_le, List, [], ◌∷◌, ◌++◌, length, Option, Some, None}
use Rattle.std.specs.Char.{is_ascii_digit}
use Rattle.game_text.specs.Numbers.{IsTooLarge, IsNoNumber}
use Rattle.game_text.specs.Tokens.{IsTokenAt, BeginsWithFault, IsBlank}
use Rattle.game_core.specs.declared.token.Token.{Token}
use Rattle.game_text.specs.declared.reading.TextKind.{TextKind}
use Rattle.game_text.specs.declared.reading.TextKind.TheVariants.{BadChar, OpenText, BadNumber, NumberTooLarge}
use Rattle.game_text.specs.declared.reading.TextStop.{TextStop}
use Rattle.game_text.specs.declared.reading.TextStop.TheVariants.{Fault, Memory}

-- whether a byte is a blank: a space, or one from tab (9) to carriage return (13)
abbrev pub is_blank : ℕ → Bool
is_blank b = b == 32 || (nat_le 9 b && nat_le b 13)

-- whether a byte is a letter of ASCII
abbrev pub is_letter : ℕ → Bool
is_letter b = (nat_le 65 b && nat_le b 90) || (nat_le 97 b && nat_le b 122)

-- whether a byte may stand in a word or a number: a letter, a digit, `+`, `-`, `.` or `/`
abbrev pub is_bare : ℕ → Bool
is_bare b = is_letter b || (is_ascii_digit b || (b == 43 || (b == 45 || (b == 46 || b == 47))))

-- the byte that the front of a quoted text spells, and the bytes after it; nothing at a closing
-- quote and at the end
abbrev pub spelled_byte : List ℕ → Option (ℕ × List ℕ)
spelled_byte [] = None
spelled_byte (b ∷ []) = if b == 34 then None else Some (b, [])
spelled_byte (b ∷ c ∷ bytes) =
    if b == 34 then None else if b == 92 && c == 34 then Some (34, bytes) else Some (b, c ∷ bytes)

-- the text that the bytes up to the closing quote spell
abbrev pub spelled : List ℕ → List ℕ
spelled [] = []
spelled (b ∷ []) = if b == 34 then [] else b ∷ []
spelled (b ∷ c ∷ bytes) =
    if b == 34 then [] else if b == 92 && c == 34 then 34 ∷ spelled bytes
    else b ∷ spelled (c ∷ bytes)

-- the bytes from the closing quote on
abbrev pub from_closing_quote : List ℕ → List ℕ
from_closing_quote [] = []
from_closing_quote (b ∷ []) = if b == 34 then b ∷ [] else []
from_closing_quote (b ∷ c ∷ bytes) =
    if b == 34 then b ∷ c ∷ bytes else if b == 92 && c == 34 then from_closing_quote bytes
    else from_closing_quote (c ∷ bytes)

-- the bytes begin with this token, and the rest comes after it
pub record IsNext (bytes rest : List ℕ) (token : Token) : Type 0 where
  pub front : List ℕ
  pub parts : bytes ≡ front ++ rest
  pub some : 0 < length front
  pub is_token : IsTokenAt front rest token

-- reading stops at this offset: the bytes begin with the fault, unless memory ran out
abbrev pub StopsAt : List ℕ → ℕ → TextStop → Type 0
StopsAt bytes at (Fault fault) = (fault.at ≡ at) × BeginsWithFault bytes fault.kind
StopsAt bytes at Memory = Unit {0}

-- no blank, and no byte that is a token or opens one by itself
pub record IsNoMark (b : ℕ) : Type 0 where
  pub no_blank : ¬ (IsBlank b)
  pub no_brace : (b ≢ 123) × (b ≢ 125)
  pub no_comma : b ≢ 44
  pub no_quote : b ≢ 34

-- the run is refused for a fault of this kind
abbrev pub RefusesNumber : List ℕ → TextKind → Type 0
RefusesNumber run BadChar = ⊥
RefusesNumber run OpenText = ⊥
RefusesNumber run BadNumber = IsNoNumber run
RefusesNumber run NumberTooLarge = IsTooLarge run
