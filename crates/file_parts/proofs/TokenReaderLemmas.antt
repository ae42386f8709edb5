-- Single tokens that must come are readers.
use Rattle.std.proofs.Common.{◌≡◌, ℕ, List, [], ◌∷◌, Bool, if◌then◌else◌, nat_eq, nat_le, Option, Some, None, ◌⊎◌, inl, inr, refl, sym, ap, arith}
use Rattle.std.specs.Prelude.{Result, Ok, Err, codes}
use Rattle.std.specs.Str.{bytes_eq}
use Rattle.std.specs.Option.{option_or}
use Rattle.std.proofs.lemmas.Bool.{cases_Bool}
use Rattle.lists.specs.Options.{◌>>=◌}
use Rattle.rational.specs.Rational.{ℚ}
use Rattle.game_core.specs.declared.token.Token.{Token}
use Rattle.game_core.specs.declared.token.Token.TheVariants.{Left, Right, Text, Word, Number}
use Rattle.file_parts.specs.Parts.{whole_number}
use Rattle.file_parts.specs.Reading.{opening_brace_at, closing_brace_at, text_at, word_at, number_at, natural_of, whole_at, count_at, after_word, version_at, letter_at, opens}
use Rattle.file_parts.specs.Parsing.{wanted, expected_mark}
use Rattle.file_parts.proofs.TokenLaws.{count_again, expected_again}
use Rattle.file_parts.proofs.HeaderLaws.{version_again, letter_again}
use Rattle.file_parts.proofs.ReaderLemmas.{IsReader, token_reader, FaultsAre, ok_err, err_same}

-- ---- one token
-- what is read of a first token hangs on it alone
pub record IsHead {X : Type 0} (h : List Token → Option (X × List Token)) : Type 0 where
  pub none : h [] ≡ None
  pub by_token : (t : Token) → ((x : X) × ((rest : List Token) → h (t ∷ rest) ≡ Some (x, rest))) ⊎ ((rest : List Token) → h (t ∷ rest) ≡ None)

-- whether a first token is passed hangs on it alone
pub record IsMark (h : List Token → Option (List Token)) : Type 0 where
  pub none : h [] ≡ None
  pub by_token : (t : Token) → ((rest : List Token) → h (t ∷ rest) ≡ Some rest) ⊎ ((rest : List Token) → h (t ∷ rest) ≡ None)

-- a token that must come
pub wanted_reader : {K X : Type 0} (kind : K) (h : List Token → Option (X × List Token)) → IsHead h → (t : Token) (x : X) → ((rest : List Token) → h (t ∷ rest) ≡ Some (x, rest)) → IsReader (λ tokens. wanted kind tokens (h tokens))
wanted_reader kind h H t x is = token_reader _ (record {
  token = t;
  value = x;
  is_read = λ rest. rw (is rest) refl;
  kind = kind;
  at_end = rw H.none refl;
  by_token = λ u. elim (H.by_token u) [
    | inl y ↦ inl (y.0, λ rest. rw (y.1 rest) refl)
    | inr n ↦ inr (kind, λ rest. rw (n rest) refl)
  ];
})

-- a mark that must come
pub expected_mark_reader : {K : Type 0} (kind : K) (h : List Token → Option (List Token)) → IsMark h → (t : Token) → ((rest : List Token) → h (t ∷ rest) ≡ Some rest) → IsReader (λ tokens. expected_mark kind tokens (h tokens))
expected_mark_reader kind h H t is = token_reader _ (record {
  token = t;
  value = tt;
  is_read = λ rest. rw (is rest) refl;
  kind = kind;
  at_end = rw H.none refl;
  by_token = λ u. elim (H.by_token u) [
    | inl y ↦ inl (tt, λ rest. rw (y rest) refl)
    | inr n ↦ inr (kind, λ rest. rw (n rest) refl)
  ];
})

opening_brace_mark : (t : Token) → ((rest : List Token) → opening_brace_at (t ∷ rest) ≡ Some rest) ⊎ ((rest : List Token) → opening_brace_at (t ∷ rest) ≡ None)
opening_brace_mark Left = inl (λ rest. refl)
opening_brace_mark _ = inr (λ rest. refl)

-- an opening brace
pub opening_brace_reader : {K : Type 0} (kind : K) → IsReader (λ tokens. expected_mark kind tokens (opening_brace_at tokens))
opening_brace_reader kind = expected_mark_reader kind opening_brace_at (record { none = refl; by_token = opening_brace_mark }) Left (λ rest. refl)

closing_brace_mark : (t : Token) → ((rest : List Token) → closing_brace_at (t ∷ rest) ≡ Some rest) ⊎ ((rest : List Token) → closing_brace_at (t ∷ rest) ≡ None)
closing_brace_mark Right = inl (λ rest. refl)
closing_brace_mark _ = inr (λ rest. refl)

-- a closing brace
pub closing_brace_reader : {K : Type 0} (kind : K) → IsReader (λ tokens. expected_mark kind tokens (closing_brace_at tokens))
closing_brace_reader kind = expected_mark_reader kind closing_brace_at (record { none = refl; by_token = closing_brace_mark }) Right (λ rest. refl)

text_head : (t : Token) → ((x : List ℕ) × ((rest : List Token) → text_at (t ∷ rest) ≡ Some (x, rest))) ⊎ ((rest : List Token) → text_at (t ∷ rest) ≡ None)
text_head (Text text) = inl (text, λ rest. refl)
text_head _ = inr (λ rest. refl)

-- a text
pub text_reader : {K : Type 0} (kind : K) → IsReader (λ tokens. wanted kind tokens (text_at tokens))
text_reader kind = wanted_reader kind text_at (record { none = refl; by_token = text_head }) (Text []) [] (λ rest. refl)

word_head : (t : Token) → ((x : List ℕ) × ((rest : List Token) → word_at (t ∷ rest) ≡ Some (x, rest))) ⊎ ((rest : List Token) → word_at (t ∷ rest) ≡ None)
word_head (Word text) = inl (text, λ rest. refl)
word_head _ = inr (λ rest. refl)

pub number_head : (t : Token) → ((x : ℚ) × ((rest : List Token) → number_at (t ∷ rest) ≡ Some (x, rest))) ⊎ ((rest : List Token) → number_at (t ∷ rest) ≡ None)
number_head (Number value) = inl (value, λ rest. refl)
number_head _ = inr (λ rest. refl)

-- a value or nothing
pub some_or_none : {A : Type 0} (o : Option A) → ((x : A) × (o ≡ Some x)) ⊎ (o ≡ None)
some_or_none (Some x) = inl (x, refl)
some_or_none None = inr refl

whole_head : (t : Token) → ((x : ℕ) × ((rest : List Token) → whole_at (t ∷ rest) ≡ Some (x, rest))) ⊎ ((rest : List Token) → whole_at (t ∷ rest) ≡ None)
unfolding whole_at
whole_head (Number value) = elim (some_or_none (natural_of value)) [
  | inl n ↦ inl (n.0, λ rest. rw n.1 refl)
  | inr n ↦ inr (λ rest. rw n refl)
]
whole_head _ = inr (λ rest. refl)

-- the first token as a whole number
pub whole_is_head : IsHead whole_at
unfolding whole_at
whole_is_head = record { none = refl; by_token = whole_head }

-- a first token that must also pass a test
pub tested_head : {X : Type 0} (h : List Token → Option (X × List Token)) → IsHead h → (test : X → Bool) → IsHead (λ tokens. h tokens >>= λ x. if test x.0 then Some x else None)
tested_head h H test = record {
  none = rw H.none refl;
  by_token = λ t. elim (H.by_token t) [
    | inl y ↦ elim (cases_Bool (test y.0)) [
      | inl b ↦ inl (y.0, λ rest. rw (y.1 rest, b) refl)
      | inr b ↦ inr (λ rest. rw (y.1 rest, b) refl)
    ]
    | inr n ↦ inr (λ rest. rw (n rest) refl)
  ];
}

-- a mark that is a first token which passes a test
tested_mark : {X : Type 0} (h : List Token → Option (X × List Token)) → IsHead h → (test : X → Bool) → IsMark (λ tokens. h tokens >>= λ x. if test x.0 then Some x.1 else None)
tested_mark h H test = record {
  none = rw H.none refl;
  by_token = λ t. elim (H.by_token t) [
    | inl y ↦ elim (cases_Bool (test y.0)) [
      | inl b ↦ inl (λ rest. rw (y.1 rest, b) refl)
      | inr b ↦ inr (λ rest. rw (y.1 rest, b) refl)
    ]
    | inr n ↦ inr (λ rest. rw (n rest) refl)
  ];
}

-- a count
pub count_reader : {K : Type 0} (kind : K) → IsReader (λ tokens. wanted kind tokens (count_at tokens))
unfolding count_at
count_reader kind = wanted_reader kind count_at (tested_head whole_at whole_is_head (λ n. nat_le 1 n)) (whole_number 1) 1 (λ rest. count_again 1 rest (omega arith))

after_mark : (expected : List ℕ) → IsMark (after_word expected)
unfolding after_word
after_mark expected = tested_mark word_at (record { none = refl; by_token = word_head }) (λ word. bytes_eq word expected)

-- a word
pub word_reader : {K : Type 0} (kind : K) (expected : List ℕ) → IsReader (λ tokens. expected_mark kind tokens (after_word expected tokens))
word_reader kind expected = expected_mark_reader kind (after_word expected) (after_mark expected) (Word expected) (expected_again expected)

version_mark : (version : ℕ) → IsMark (version_at version)
unfolding version_at
version_mark version = tested_mark whole_at whole_is_head (λ n. nat_eq n version)

-- a version
pub version_reader : {K : Type 0} (kind : K) (version : ℕ) → IsReader (λ tokens. expected_mark kind tokens (version_at version tokens))
version_reader kind version = expected_mark_reader kind (version_at version) (version_mark version) (whole_number version) (version_again version)

-- one mark or another
either_mark : (g h : List Token → Option (List Token)) → IsMark g → IsMark h → IsMark (λ tokens. option_or (g tokens) (h tokens))
either_mark g h G H = record {
  none = rw (G.none, H.none) refl;
  by_token = λ t. elim (G.by_token t) [
    | inl y ↦ inl (λ rest. rw (y rest) refl)
    | inr n ↦ elim (H.by_token t) [
      | inl y ↦ inl (λ rest. rw (n rest, y rest) refl)
      | inr m ↦ inr (λ rest. rw (n rest, m rest) refl)
    ]
  ];
}

-- `R` or `D`
pub letter_reader : {K : Type 0} (kind : K) → IsReader (λ tokens. expected_mark kind tokens (letter_at tokens))
letter_reader kind = expected_mark_reader kind letter_at (either_mark (after_word (codes "R")) (after_word (codes "D")) (after_mark (codes "R")) (after_mark (codes "D"))) (Word (codes "R")) (λ rest. letter_again (codes "R") rest (inl refl))

-- ---- kinds of faults
-- the faults of a part that must come have its kind
pub wanted_faults : {K X : Type 0} (kind : K) (h : List Token → Option (X × List Token)) → FaultsAre (λ k _. k ≡ kind) (λ tokens. wanted kind tokens (h tokens))
wanted_faults {K} {X} kind h tokens fault e = elim (some_or_none (h tokens)) [
  | inl y ↦ let o : ◌≡◌ {A = Result (X × List Token) (K × List Token)} (Ok y.0) (Err fault) = rw y.1 at e in absurd (ok_err y.0 fault o)
  | inr n ↦ let o : ◌≡◌ {A = Result (X × List Token) (K × List Token)} (Err (kind, tokens)) (Err fault) = rw n at e in sym (ap (λ (f : K × List Token). f.0) (err_same (kind, tokens) fault o))
]

-- and of a mark
pub expected_mark_faults : {K : Type 0} (kind : K) (h : List Token → Option (List Token)) → FaultsAre (λ k _. k ≡ kind) (λ tokens. expected_mark kind tokens (h tokens))
expected_mark_faults {K} kind h tokens fault e = elim (some_or_none (h tokens)) [
  | inl y ↦ let o : ◌≡◌ {A = Result (Unit {0} × List Token) (K × List Token)} (Ok (tt, y.0)) (Err fault) = rw y.1 at e in absurd (ok_err (tt, y.0) fault o)
  | inr n ↦ let o : ◌≡◌ {A = Result (Unit {0} × List Token) (K × List Token)} (Err (kind, tokens)) (Err fault) = rw n at e in sym (ap (λ (f : K × List Token). f.0) (err_same (kind, tokens) fault o))
]

-- whether a brace comes hangs on the first token
pub opens_first : (t : Token) (r s : List Token) → opens (t ∷ r) ≡ opens (t ∷ s)
opens_first Left r s = refl
opens_first _ r s = refl
