-- Reading with places of faults gives what reading without them does.
use Rattle.std.proofs.Common.{◌≡◌, ℕ, zero, suc, Bool, true, false, if◌then◌else◌, nat_eq, List, length, Option, Some, None, refl}
use Rattle.std.specs.Prelude.{Result, Ok, Err, [], ◌∷◌}
use Rattle.lists.specs.Options.{◌>>=◌}
use Rattle.game_core.specs.declared.token.Token.{Token}
use Rattle.file_parts.specs.Reading.{opening_brace_at, closing_brace_at, text_at, number_at, after_word, version_at, letter_at, texts_at, payoff_start, payoff_at}
use Rattle.file_parts.specs.Parsing.{Parsed, wanted, expected_mark, parse_each, parse_names, parse_payoff, parse_payoffs, parse_title}
use Rattle.file_parts.proofs.ReaderLemmas.{chain}
use Rattle.rational.specs.Rational.{ℚ}

-- ---- many in a row
-- this many parts, which are numbered from a first number on
abbrev pub repeat_at : {X : Type 0} → (ℕ → List Token → Option (X × List Token)) → ℕ → ℕ → List Token → Option (List X × List Token)
repeat_at part first zero tokens = Some ([], tokens)
repeat_at part first (suc n) tokens = do
  one ← part first tokens
  more ← repeat_at part (suc first) n one.1
  Some (one.0 ∷ more.0, more.1)

-- one or more texts in braces
unfoldable pub names_at : List Token → Option (List (List ℕ) × List Token)
names_at tokens = do
  inner ← opening_brace_at tokens
  names ← if nat_eq (length (texts_at inner).0) 0 then None else Some (texts_at inner)
  rest ← closing_brace_at names.1
  Some (names.0, rest)

-- this many payoffs
abbrev pub payoffs_at : ℕ → List Token → Option (List ℚ × List Token)
payoffs_at n tokens = repeat_at payoff_at 0 n tokens

-- this word, a number of this version's value, `R` or `D`, and the title
unfoldable pub title_at : List ℕ → ℕ → List Token → Option (List ℕ × List Token)
title_at word version tokens = do
  tokens ← after_word word tokens
  tokens ← version_at version tokens
  tokens ← letter_at tokens
  text_at tokens

-- the value, where there is no fault
abbrev pub value : {A E : Type 0} → Result A E → Option A
value (Ok x) = Some x
value (Err fault) = None

-- a value comes from a reading without a fault
pub value_some : {A E : Type 0} (o : Result A E) (x : A) → value o ≡ Some x → o ≡ Ok x
value_some (Ok y) x e = cc
value_some (Err fault) x e = cc

-- a part that must come
pub value_wanted : {K X : Type 0} (kind : K) (tokens : List Token) (o : Option (X × List Token)) → value (wanted kind tokens o) ≡ o
value_wanted kind tokens None = refl
value_wanted kind tokens (Some x) = refl

-- a mark and what follows
pub value_expected_mark : {K Y : Type 0} (kind : K) (tokens : List Token) (o : Option (List Token)) (f : Unit {0} × List Token → Result Y (K × List Token)) (g : List Token → Option Y) → ((rest : List Token) → value (f (tt, rest)) ≡ g rest) → value (chain (expected_mark kind tokens o) f) ≡ (o >>= g)
value_expected_mark kind tokens None f g same = refl
value_expected_mark kind tokens (Some rest) f g same = same rest

-- a part and what follows
pub value_chain : {A B E : Type 0} (o : Result A E) (p : Option A) (f : A → Result B E) (g : A → Option B) → value o ≡ p → ((x : A) → value (f x) ≡ g x) → value (chain o f) ≡ (p >>= g)
value_chain (Ok x) p f g e same = rw (← e) (same x)
value_chain (Err fault) p f g e same = rw (← e) refl

-- one of two
pub value_if : {A E : Type 0} (b : Bool) (o p : Result A E) (q r : Option A) → value o ≡ q → value p ≡ r → value (if b then o else p) ≡ (if b then q else r)
value_if true o p q r e f = e
value_if false o p q r e f = f

-- many in a row
pub value_each : {K X : Type 0} (part : ℕ → List Token → Parsed K X) (other : ℕ → List Token → Option (X × List Token)) → ((i : ℕ) (tokens : List Token) → value (part i tokens) ≡ other i tokens) → (i n : ℕ) (tokens : List Token) → value (parse_each part i n tokens) ≡ repeat_at other i n tokens
value_each part other same i zero tokens = refl
value_each part other same i (suc n) tokens = value_chain (part i tokens) (other i tokens) _ _ (same i tokens) (λ one. value_chain (parse_each part (suc i) n one.1) (repeat_at other (suc i) n one.1) _ _ (value_each part other same (suc i) n one.1) (λ more. refl))

-- names
pub value_names : {K : Type 0} (kind : K) (tokens : List Token) → value (parse_names kind tokens) ≡ names_at tokens
unfolding parse_names names_at
value_names kind tokens = value_expected_mark kind tokens (opening_brace_at tokens) _ _ (λ inner.
    value_chain (if nat_eq (length (texts_at inner).0) 0 then Err (kind, (texts_at inner).1) else Ok (texts_at inner)) _ _ _ (value_if (nat_eq (length (texts_at inner).0) 0) (Err (kind, (texts_at inner).1)) (Ok (texts_at inner)) None (Some (texts_at inner)) refl refl) (λ names.
    value_expected_mark kind names.1 (closing_brace_at names.1) _ _ (λ rest. refl)))

-- payoffs
pub value_payoffs : {K : Type 0} (kind : K) (n : ℕ) (tokens : List Token) → value (parse_payoffs kind n tokens) ≡ payoffs_at n tokens
value_payoffs kind n tokens = value_each (parse_payoff kind) payoff_at (λ i tokens. value_wanted kind (payoff_start i tokens) (number_at (payoff_start i tokens))) 0 n tokens

-- the title
pub value_title : {K : Type 0} (kind : K) (word : List ℕ) (version : ℕ) (tokens : List Token) → value (parse_title kind word version tokens) ≡ title_at word version tokens
unfolding parse_title title_at
value_title kind word version tokens = value_expected_mark kind tokens (after_word word tokens) _ _ (λ one. value_expected_mark kind one (version_at version one) _ _ (λ two. value_expected_mark kind two (letter_at two) _ _ (λ three. value_wanted kind three (text_at three))))
