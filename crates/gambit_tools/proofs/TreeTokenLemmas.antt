-- How the tokens of a file of a tree begin, and how many there are.
use Rattle.std.proofs.Common.{ℕ, ◌≡◌, ◌+◌, ◌≤◌, ◌∙◌, sym, ap, arith, List, [], ◌∷◌, map, length, Bool, IsTrue, codes, eqb}
use lib.Pointwise.{pointwise}
use Rattle.std.proofs.lemmas.Bool.Decides.{Decides-eqb}
use Rattle.std.proofs.lemmas.Slice.Eq.{slice_eq-Decides}
use Rattle.game_core.specs.TokenList.{TokenList, bare}
use Rattle.game_core.specs.Spacing.{AreSpaced}
use Rattle.game_core.specs.declared.token.Spanned.{Spanned}
use Rattle.game_core.specs.declared.token.Token.{Token}
use Rattle.game_core.specs.declared.token.Token.TheVariants.{Word}
use Rattle.gambit_tools.specs.Games.{BeginsAsTree}

-- a comparison of a word's bytes tells whether the word is the token
pub word_is : (token : Token) (word bytes name : List ℕ) (b : Bool) → token ≡ Word word → bytes ≡ word → b ≡ pointwise eqb bytes name → (IsTrue b → token ≡ Word name) × (token ≡ Word name → IsTrue b)
word_is token word bytes name b t w e =
    let d = slice_eq-Decides Decides-eqb bytes name b e in
    (λ h. t ∙ ap Word (sym w ∙ d.0 h), λ h. d.1 (w ∙ words word name (sym t ∙ h)))
  where
    words : (a b : List ℕ) → Word a ≡ Word b → a ≡ b
    words a b e = cc

-- the first token decides
pub begins_by_first : (tokens : TokenList) (s : Spanned) (rest : List Spanned) (b : Bool) → tokens.list ≡ s ∷ rest → (IsTrue b → s.token ≡ Word (codes "EFG")) × (s.token ≡ Word (codes "EFG") → IsTrue b) → (IsTrue b → BeginsAsTree (bare tokens.list)) × (BeginsAsTree (bare tokens.list) → IsTrue b)
begins_by_first tokens s rest b e is =
    let split : bare tokens.list ≡ s.token ∷ map (λ t. t.token) rest = ap (map (λ (t : Spanned). t.token)) e in
    (λ h. (map (λ t. t.token) rest, split ∙ ap (λ t. t ∷ map (λ (t : Spanned). t.token) rest) (is.0 h)), λ h. is.1 (heads _ _ _ _ (sym split ∙ h.1)))
  where
    heads : (x y : Token) (xs ys : List Token) → x ∷ xs ≡ y ∷ ys → x ≡ y
    heads x y xs ys e = cc

-- tokens in place are no more than the bytes among which they lie
pub are_few : (from to : ℕ) (tokens : List Spanned) → AreSpaced from to tokens → from + length tokens ≤ to
are_few from to [] h = omega arith
are_few from to (s ∷ tokens) h = omega (arith, h.0, h.1, are_few s.end to tokens h.3)
