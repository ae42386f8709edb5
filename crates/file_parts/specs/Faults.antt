-- Faults in files of games. The offset is that of the first token with which no file can begin any
-- more, or the source's length where the tokens end too early; each format says what its files are,
-- what begins one, and which kinds of faults there are.
-- Source of the offset: the viable-prefix property of Aho, Lam, Sethi and Ullman 2007, "Compilers",
-- section 4.1.3.
use Rattle.std.specs.Prelude.{ℕ, ◌≡◌, List, [], ◌∷◌, ◌++◌, length}
use Rattle.game_core.specs.TokenList.{TokenList, bare}
use Rattle.game_core.specs.declared.token.Token.{Token}
use Rattle.file_parts.specs.Parts.{whole_number}
use Rattle.file_parts.specs.Reading.{offset_of}

-- what comes cannot: the tokens before are no file and end, or with the next token they begin none
abbrev pub CannotCome : (IsFile BeginsFile : List Token → Type 0) → List Token → List Token → Type 0
CannotCome IsFile BeginsFile before [] = ¬ (IsFile before)
CannotCome IsFile BeginsFile before (token ∷ rest) = ¬ (BeginsFile (before ++ token ∷ []))

-- a fault of this kind, from these last tokens on: the tokens before them begin a file, and what
-- comes cannot
pub record IsFaultFrom {K : Type 0} (IsFile BeginsFile : List Token → Type 0)
    (IsKind : K → List Token → List Token → Type 0) (tokens : List Token) (kind : K)
    (rest : List Token) : Type 0 where
  pub before : List Token
  pub are_tokens : tokens ≡ before ++ rest
  pub begins : BeginsFile before
  pub stops : CannotCome IsFile BeginsFile before rest
  pub is_kind : IsKind kind before rest

-- a fault of this kind at this offset: that of the token named, or the source's length where the
-- tokens end too early
abbrev pub IsFaultAt : {K : Type 0} → (IsFile BeginsFile : List Token → Type 0)
    → (IsKind : K → List Token → List Token → Type 0) → TokenList → K → ℕ → Type 0
IsFaultAt IsFile BeginsFile IsKind tokens kind at =
    (rest : List Token) × IsFaultFrom IsFile BeginsFile IsKind (bare tokens.list) kind rest
    × (at ≡ offset_of tokens (length rest))

-- a whole number comes next
abbrev pub WholeComes : List Token → Type 0
WholeComes tokens = (n : ℕ) × (rest : List Token) × (tokens ≡ whole_number n ∷ rest)
