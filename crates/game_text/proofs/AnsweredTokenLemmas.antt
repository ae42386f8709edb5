-- The bytes of a source have an answer, and no more tokens than bytes.
use Rattle.std.proofs.Common.{ℕ, ◌+◌, ◌<◌, ◌≤◌, ◌≡◌, ◌∷◌, ◌++◌, List, [], inl, inr, length, length-append, Ok, Err, ap, ◌∙◌, arith}
use Rattle.answers.specs.Answered.{IsAnswered}
use Rattle.game_core.specs.declared.token.Spanned.{Spanned}
use Rattle.game_core.specs.declared.token.Token.{Token}
use Rattle.game_core.specs.declared.token.Token.TheVariants.{Left, Right, Comma, Text, Word, Number}
use Rattle.game_text.specs.Stops.{tokens_of}
use Rattle.game_text.specs.Tokens.{AreTokensBefore, IsTokenAt}
use Rattle.game_text.specs.declared.reading.TextStop.TheVariants.{Fault}
use Rattle.game_text.proofs.EveryAnswerLaws.{every_source}

-- its tokens, or its first fault
pub tokens_of-answered : (bytes : List ℕ) → IsAnswered (tokens_of bytes)
tokens_of-answered bytes none = elim (every_source bytes) [
  | inl tokens ↦ none (Ok tokens.0) tokens.1
  | inr fault ↦ none (Err (Fault (record { at = fault.0; kind = fault.1 }))) fault.2
]

-- a token has bytes
token-some : (front back : List ℕ) (token : Token) → IsTokenAt front back token → 0 < length front
token-some front back Left h = omega (arith, ap length h)
token-some front back Right h = omega (arith, ap length h)
token-some front back Comma h = omega (arith, ap length h)
token-some front back (Text text) h = omega (arith, ap length h.1)
token-some front back (Word word) h = h.0.some
token-some front back (Number value) h = h.0.some

-- there are no more tokens than bytes
pub tokens-few : (at : ℕ) (bytes rest : List ℕ) (tokens : List Spanned) → AreTokensBefore at bytes tokens rest → length tokens ≤ length bytes
tokens-few at bytes rest [] h = omega arith
tokens-few at bytes rest (one ∷ tokens) h =
    let some = token-some h.1 h.2 one.token h.5 in
    let few = tokens-few one.end h.2 rest tokens h.8 in
    let size : length bytes ≡ length h.0 + length h.1 + length h.2 = ap length h.4 ∙ length-append (h.0 ++ h.1) h.2 ∙ ap (λ n. n + length h.2) (length-append h.0 h.1) in
    omega (arith, some, few, size)
