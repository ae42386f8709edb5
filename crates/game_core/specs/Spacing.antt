-- Tokens that are spaced: their spans are in order, and their numbers are short.
use Rattle.std.specs.Prelude.{ℕ, ◌<◌, ◌≤◌, List, [], ◌∷◌}
use Rattle.frac128.specs.Short.{IsShort}
use Rattle.game_core.specs.declared.token.Spanned.{Spanned}
use Rattle.game_core.specs.declared.token.Token.{Token}
use Rattle.game_core.specs.declared.token.Token.TheVariants.{Number}

-- a number of a token is short
abbrev pub IsShortToken : Token → Type 0
IsShortToken (Number value) = IsShort value
IsShortToken _ = Unit {0}

-- the spans are in order, none ends after the source's end, and numbers are short
abbrev pub AreSpaced : ℕ → ℕ → List Spanned → Type 0
AreSpaced from to [] = from ≤ to
AreSpaced from to (spanned ∷ tokens) =
    (from ≤ spanned.start) × (spanned.start < spanned.end) × IsShortToken spanned.token
    × AreSpaced spanned.end to tokens
