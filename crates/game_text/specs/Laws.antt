-- That every source and every text has an answer.
use Rattle.std.specs.Prelude.{ℕ, ◌⊎◌, List}
use Rattle.rational.specs.Rational.{ℚ}
use Rattle.game_core.specs.TokenList.{TokenList}
use Rattle.game_text.specs.Numbers.{IsNumber, IsTooLarge, IsNoNumber}
use Rattle.game_text.specs.Tokens.{AreTokens, IsFirstFault}
use Rattle.game_text.specs.declared.reading.TextKind.{TextKind}

-- every byte string is a list of tokens, or has a first fault
abbrev pub EverySourceHasAnAnswer : Type 0
EverySourceHasAnAnswer =
    (bytes : List ℕ) → ((tokens : TokenList) × AreTokens bytes tokens)
    ⊎ ((at : ℕ) × (kind : TextKind) × IsFirstFault bytes at kind)

-- every text is a number, or has a number's form and passes a limit, or is no number
abbrev pub EveryTextHasAnAnswer : Type 0
EveryTextHasAnAnswer =
    (text : List ℕ) → ((value : ℚ) × IsNumber text value) ⊎ IsTooLarge text ⊎ IsNoNumber text
