-- What contracts see of the tokens of a source.
use Rattle.std.specs.Prelude.{ℕ, zero, suc, List, [], map, ◌≡◌, refl}
use Rattle.std.specs.Coded.{Coded, code_by, coded×, coded_ℕ, coded_list}
use Rattle.rational.specs.Rational.{ℚ, zero_ℚ}
use Rattle.rational.proofs.CodeLemmas.{code_ℚ}
use Rattle.game_core.specs.declared.token.Spanned.{Spanned}
use Rattle.game_core.specs.declared.token.Token.{Token}
use Rattle.game_core.specs.declared.token.Token.TheVariants.{Left, Right, Comma, Text, Word, Number}

-- the tokens with their spans, and the source's length
pub record TokenList : Type 0 where
  pub list : List Spanned
  pub length : ℕ

-- the tokens without their spans
abbrev pub bare : List Spanned → List Token
bare tokens = map (λ s. s.token) tokens

-- a token is stored as its kind, its bytes and its value
abbrev pub token_parts : Token → ℕ × (List ℕ × ℚ)
token_parts Left = (0, ([], zero_ℚ))
token_parts Right = (1, ([], zero_ℚ))
token_parts Comma = (2, ([], zero_ℚ))
token_parts (Text text) = (3, (text, zero_ℚ))
token_parts (Word word) = (4, (word, zero_ℚ))
token_parts (Number value) = (5, ([], value))

abbrev pub token_of_kind : ℕ → List ℕ → ℚ → Token
token_of_kind zero bytes value = Left
token_of_kind (suc zero) bytes value = Right
token_of_kind (suc (suc zero)) bytes value = Comma
token_of_kind (suc (suc (suc zero))) bytes value = Text bytes
token_of_kind (suc (suc (suc (suc zero)))) bytes value = Word bytes
token_of_kind (suc (suc (suc (suc (suc n))))) bytes value = Number value

pub token_of_kind-parts : (token : Token)
    → token_of_kind (token_parts token).0 (token_parts token).1.0 (token_parts token).1.1 ≡ token
token_of_kind-parts Left = refl
token_of_kind-parts Right = refl
token_of_kind-parts Comma = refl
token_of_kind-parts (Text text) = refl
token_of_kind-parts (Word word) = refl
token_of_kind-parts (Number value) = refl

abbrev pub code_of_token : Coded Token
code_of_token =
    code_by (ℕ × (List ℕ × ℚ)) (coded× coded_ℕ (coded× (coded_list coded_ℕ) code_ℚ)) token_parts
    (λ p. token_of_kind p.0 p.1.0 p.1.1) token_of_kind-parts

-- a token with its span is stored as these three
abbrev pub code_of_spanned : Coded Spanned
code_of_spanned =
    code_by (Token × (ℕ × ℕ)) (coded× code_of_token (coded× coded_ℕ coded_ℕ))
    (λ s. (s.token, (s.start, s.end))) (λ p. record { token = p.0; start = p.1.0; end = p.1.1 })
    (λ _. refl)

abbrev pub code_of_tokens : Coded TokenList
code_of_tokens =
    code_by (List Spanned × ℕ) (coded× (coded_list code_of_spanned) coded_ℕ)
    (λ t. (t.list, t.length)) (λ p. record { list = p.0; length = p.1 }) (λ _. refl)
