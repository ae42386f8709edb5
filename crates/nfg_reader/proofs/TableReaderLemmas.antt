-- The parts of a table's file are read token by token.
use Rattle.std.proofs.Common.{◌≡◌, ℕ, zero, suc, ◌+◌, ◌*◌, ◌<◌, ◌≤◌, List, [], ◌∷◌, length, map, Bool, true, false, if◌then◌else◌, nat_le, ◌⊎◌, inl, inr, refl, sym, ap, ◌∙◌, length-append, arith}
use Rattle.std.specs.Prelude.{Ok, Err, codes}
use Rattle.std.specs.List.{flat_map}
use Rattle.std.proofs.lemmas.Bool.{cases_Bool}
use Rattle.rational.specs.Rational.{ℚ}
use Rattle.game_core.specs.Table.{GameTable}
use Rattle.game_core.specs.declared.token.Token.{Token}
use Rattle.game_core.specs.declared.token.Token.TheVariants.{Left, Right, Text}
use Rattle.file_parts.specs.Parts.{whole_number}
use Rattle.file_parts.specs.Reading.{opening_brace_at, closing_brace_at, text_at, after_text, opens, whole_at, count_at}
use Rattle.file_parts.specs.Parsing.{Parsed, ◌>>=◌, wanted, expected_mark, parse_each, parse_names, parse_payoffs, parse_title}
use Rattle.file_parts.proofs.ReaderLemmas.{ReadsAs, IsReader, bind_reader, pure_reader, each_reader, choose, choose_reader, choose_at, bind_at, same_at, same_reader, token_reader, Chooses, LooksAhead, HasSample, bind_ok, ok_err, result_of, reads_alone}
use Rattle.file_parts.proofs.ValueLemmas.{value, value_names}
use Rattle.file_parts.proofs.TokenLaws.{names_is, whole_again, le_passes}
use Rattle.file_parts.proofs.TokenReaderLemmas.{whole_is_head, opening_brace_reader, closing_brace_reader, text_reader, count_reader, opens_first}
use Rattle.file_parts.proofs.PartReaderLemmas.{title_reader, names_reader, payoffs_reader}
use Rattle.nfg_reader.specs.TableFile.{counted_names, outcome_payoffs}
use Rattle.nfg_reader.specs.Fronts.{FrontPart, profiles, table_of}
use Rattle.nfg_reader.specs.TableParsing.{parse_count, parse_counted, parse_named, parse_strategies, parse_front, parse_outcome, parse_outcomes, parse_number, parse_outcome_body, parse_body}
use Rattle.nfg_reader.proofs.FileLaws.{front_some}
use Rattle.nfg_reader.proofs.ProductLemmas.{some_profile}
use Rattle.nfg_reader.proofs.TableValueLemmas.{value_front}
use Rattle.nfg_reader.specs.declared.reading.NfgKind.{NfgKind}
use Rattle.nfg_reader.specs.declared.reading.NfgKind.TheVariants.{Header, Players, Strategies, Outcome, PayoffCount}

-- ---- strategies
counted_reader : (n : ℕ) → IsReader (parse_counted n)
unfolding parse_counted
counted_reader n = bind_reader (λ tokens. parse_each parse_count 0 n tokens) (λ counts tokens. expected_mark Strategies tokens (closing_brace_at tokens) >>= λ rest. Ok (map counted_names counts, rest.1)) (each_reader parse_count (λ _. count_reader Strategies) 0 n)
    (λ _ counts _. bind_reader (λ tokens. expected_mark Strategies tokens (closing_brace_at tokens)) (λ _ tokens. Ok (map counted_names counts, tokens)) (closing_brace_reader Strategies) (λ _ _ _. pure_reader (map counted_names counts)))

named_reader : (n : ℕ) → IsReader (parse_named n)
unfolding parse_named
named_reader n = bind_reader (λ tokens. parse_each (λ _. parse_names Strategies) 0 n tokens) (λ lists tokens. expected_mark Strategies tokens (closing_brace_at tokens) >>= λ rest. Ok (lists, rest.1)) (each_reader (λ _. parse_names Strategies) (λ _. names_reader Strategies) 0 n)
    (λ _ lists _. bind_reader (λ tokens. expected_mark Strategies tokens (closing_brace_at tokens)) (λ _ tokens. Ok (lists, tokens)) (closing_brace_reader Strategies) (λ _ _ _. pure_reader lists))

-- no count opens
counted_closed : (n : ℕ) (tokens : List Token) (y : List (List (List ℕ)) × List Token) → opens tokens ≡ true → parse_counted n tokens ≡ Ok y → ⊥
unfolding parse_counted whole_at count_at
counted_closed zero (Left ∷ tokens) y o e = ok_err y (Strategies, Left ∷ tokens) (sym e)
counted_closed (suc n) (Left ∷ tokens) y o e = ok_err y (Strategies, Left ∷ tokens) (sym e)
counted_closed n _ y o e = cc

-- lists of names open
named_open : (n : ℕ) (tokens : List Token) (y : List (List (List ℕ)) × List Token) → 1 ≤ n → opens tokens ≡ false → parse_named n tokens ≡ Ok y → ⊥
unfolding parse_named parse_names
named_open zero tokens y h o e = absurd (omega arith)
named_open (suc n) (Left ∷ tokens) y h o e = cc
named_open (suc n) tokens y h o e = ok_err y (Strategies, tokens) (sym e)

-- strategies
pub strategies_reader : (n : ℕ) → 1 ≤ n → IsReader (parse_strategies n)
unfolding parse_strategies
strategies_reader n h = bind_reader (λ tokens. expected_mark Strategies tokens (opening_brace_at tokens)) (λ _ tokens. if opens tokens then parse_named n tokens else parse_counted n tokens) (opening_brace_reader Strategies)
    (λ _ _ _. choose_reader opens (parse_named n) (parse_counted n) (record { heads = opens_first; only_p = λ tokens y. named_open n tokens y h; only_q = counted_closed n }) (named_reader n) (counted_reader n))

-- ---- the front
-- names that are read are some
pub names_some : (front : List Token) (players : List (List ℕ)) → ReadsAs (parse_names Players) front players → 1 ≤ length players
names_some front players r = (names_is front (players, []) (sym (value_names Players front) ∙ ap value (reads_alone (parse_names Players) front players r))).0

-- the front
pub front_reader : IsReader parse_front
unfolding parse_front
front_reader =
    bind_reader (parse_title Header (codes "NFG") 1) (λ title tokens. parse_names Players tokens >>= λ players. parse_strategies (length players.0) players.1 >>= λ strategies. Ok (record { title = title; players = players.0; strategies = strategies.0 }, strategies.1)) (title_reader Header (codes "NFG") 1)
    (λ _ title _. bind_reader (parse_names Players) (λ players tokens. parse_strategies (length players) tokens >>= λ strategies. Ok (record { title = title; players = players; strategies = strategies.0 }, strategies.1)) (names_reader Players)
    (λ front players r. bind_reader (parse_strategies (length players)) (λ strategies tokens. Ok (record { title = title; players = players; strategies = strategies }, tokens)) (strategies_reader (length players) (names_some front players r))
    (λ _ strategies _. pure_reader (record { title = title; players = players; strategies = strategies }))))

-- ---- outcomes
pub outcome_reader : (n : ℕ) → IsReader (parse_outcome n)
unfolding parse_outcome
outcome_reader n =
    bind_reader (λ tokens. expected_mark Outcome tokens (opening_brace_at tokens)) (λ _ tokens. wanted Outcome tokens (text_at tokens) >>= λ name. parse_payoffs Outcome n name.1 >>= λ payoffs. expected_mark Outcome payoffs.1 (closing_brace_at payoffs.1) >>= λ rest. Ok (payoffs.0, rest.1)) (opening_brace_reader Outcome)
    (λ _ _ _. bind_reader (λ tokens. wanted Outcome tokens (text_at tokens)) (λ _ tokens. parse_payoffs Outcome n tokens >>= λ payoffs. expected_mark Outcome payoffs.1 (closing_brace_at payoffs.1) >>= λ rest. Ok (payoffs.0, rest.1)) (text_reader Outcome)
    (λ _ _ _. bind_reader (parse_payoffs Outcome n) (λ payoffs tokens. expected_mark Outcome tokens (closing_brace_at tokens) >>= λ rest. Ok (payoffs, rest.1)) (payoffs_reader Outcome n)
    (λ _ payoffs _. bind_reader (λ tokens. expected_mark Outcome tokens (closing_brace_at tokens)) (λ _ tokens. Ok (payoffs, tokens)) (closing_brace_reader Outcome) (λ _ _ _. pure_reader payoffs))))

-- an outcome opens
outcome_open : (n : ℕ) (tokens : List Token) (y : List ℚ × List Token) → opens tokens ≡ false → parse_outcome n tokens ≡ Ok y → ⊥
unfolding parse_outcome
outcome_open n (Left ∷ tokens) y o e = cc
outcome_open n tokens y o e = ok_err y (Outcome, tokens) (sym e)

-- an outcome takes tokens
outcome_takes : (n : ℕ) (front : List Token) (x : List ℚ) → ReadsAs (parse_outcome n) front x → 1 ≤ length front
unfolding parse_outcome
outcome_takes n [] x r = absurd (ok_err (x, []) (Outcome, []) (sym (r [])))
outcome_takes n (t ∷ front) x r = omega arith

-- with more than enough, the number of outcomes that may come does not matter
enough : (n m k : ℕ) (tokens : List Token) → length tokens ≤ m → length tokens ≤ k → parse_outcomes n m tokens ≡ parse_outcomes n k tokens
enough n zero zero tokens a b = refl
enough n zero (suc k) [] a b = refl
enough n zero (suc k) (t ∷ tokens) a b = absurd (omega (arith, a))
enough n (suc m) zero [] a b = refl
enough n (suc m) zero (t ∷ tokens) a b = absurd (omega (arith, b))
enough n (suc m) (suc k) tokens a b = elim (result_of (parse_outcome n tokens)) [
  | inl y ↦
      let one = ((outcome_reader n).at tokens).reads y.0.0 y.0.1 y.1 in
      let takes = outcome_takes n one.0 y.0.0 one.2 in
      let size : length tokens ≡ length one.0 + length y.0.1 = ap length one.1 ∙ length-append one.0 y.0.1 in
      let more = enough n m k y.0.1 (omega arith) (omega arith) in
      rw (y.1, more) refl
  | inr f ↦ rw f.1 refl
]

-- outcomes up to a closing brace, seen by f
abbrev pub closed_outcomes : {X : Type 0} → ℕ → (List (List ℚ) → X) → List Token → Parsed NfgKind X
closed_outcomes n f tokens = parse_outcomes n (length tokens) tokens >>= λ outcomes. expected_mark Outcome outcomes.1 (closing_brace_at outcomes.1) >>= λ rest. Ok (f outcomes.0, rest.1)

-- one outcome, and others
one_outcome : {X : Type 0} → ℕ → (List (List ℚ) → X) → List Token → Parsed NfgKind X
one_outcome n f tokens = parse_outcome n tokens >>= λ one. closed_outcomes n (λ outcomes. f (one.0 ∷ outcomes)) one.1

-- no outcome
no_outcome : {X : Type 0} → (List (List ℚ) → X) → List Token → Parsed NfgKind X
no_outcome f tokens = expected_mark Outcome tokens (closing_brace_at tokens) >>= λ rest. Ok (f [], rest.1)

-- one before the others
abbrev and_one : List ℚ → Parsed NfgKind (List (List ℚ)) → Parsed NfgKind (List (List ℚ))
and_one one o = o >>= λ more. Ok (one ∷ more.0, more.1)

-- the closing brace
abbrev close : {X : Type 0} → (List (List ℚ) → X) → Parsed NfgKind (List (List ℚ)) → Parsed NfgKind X
close f o = o >>= λ outcomes. expected_mark Outcome outcomes.1 (closing_brace_at outcomes.1) >>= λ rest. Ok (f outcomes.0, rest.1)

after_one : {X : Type 0} (o : Parsed NfgKind (List (List ℚ))) (one : List ℚ) (f : List (List ℚ) → X) → close f (and_one one o) ≡ close (λ outcomes. f (one ∷ outcomes)) o
after_one (Ok x) one f = refl
after_one (Err fault) one f = refl

-- a list of outcomes is one and others, or none
outcomes_are_closed : {X : Type 0} (n : ℕ) (f : List (List ℚ) → X) (tokens : List Token) → closed_outcomes n f tokens ≡ choose opens (one_outcome n f) (no_outcome f) tokens
unfolding one_outcome no_outcome
outcomes_are_closed n f [] = refl
outcomes_are_closed n f (Left ∷ tokens) = elim (result_of (parse_outcome n (Left ∷ tokens))) [
  | inl y ↦
      let one = ((outcome_reader n).at (Left ∷ tokens)).reads y.0.0 y.0.1 y.1 in
      let takes = outcome_takes n one.0 y.0.0 one.2 in
      let size : length (Left ∷ tokens) ≡ length one.0 + length y.0.1 = ap length one.1 ∙ length-append one.0 y.0.1 in
      let more = enough n (length tokens) (length y.0.1) y.0.1 (omega arith) (omega arith) in
      rw (y.1, more) (after_one (parse_outcomes n (length y.0.1) y.0.1) y.0.0 f)
  | inr g ↦ rw g.1 refl
]
outcomes_are_closed n f (t ∷ tokens) = refl

-- the closing brace comes alone
none_reader : {X : Type 0} (f : List (List ℚ) → X) → IsReader (no_outcome f)
unfolding no_outcome
none_reader f = bind_reader (λ tokens. expected_mark Outcome tokens (closing_brace_at tokens)) (λ _ tokens. Ok (f [], tokens)) (closing_brace_reader Outcome) (λ _ _ _. pure_reader (f []))

-- and does not open
not_closed : {X : Type 0} (f : List (List ℚ) → X) (tokens : List Token) (y : X × List Token) → opens tokens ≡ true → no_outcome f tokens ≡ Ok y → ⊥
unfolding no_outcome
not_closed f (Left ∷ tokens) y o e = ok_err y (Outcome, Left ∷ tokens) (sym e)
not_closed f _ y o e = cc

-- which of both is chosen
outcomes_choose : {X : Type 0} (n : ℕ) (f : List (List ℚ) → X) → Chooses opens (one_outcome n f) (no_outcome f)
unfolding one_outcome
outcomes_choose n f = record {
  heads = opens_first;
  only_p = λ tokens y o e. let a = bind_ok (parse_outcome n tokens) _ y e in outcome_open n tokens a.0 o a.1;
  only_q = not_closed f;
}

-- the empty list
closed_some : {X : Type 0} (n : ℕ) (f : List (List ℚ) → X) → HasSample (closed_outcomes n f)
unfolding no_outcome
closed_some n f = record { sample = Right ∷ []; value = f []; is_sample = λ rest. outcomes_are_closed n f (Right ∷ rest) }

-- outcomes at these tokens, where they are read of fewer
outcomes_at : {X : Type 0} (n : ℕ) (f : List (List ℚ) → X) (tokens : List Token) → ((g : List (List ℚ) → X) (rest : List Token) → length rest < length tokens → LooksAhead (closed_outcomes n g) rest) → LooksAhead (closed_outcomes n f) tokens
unfolding one_outcome
outcomes_at n f tokens fewer =
    let one : LooksAhead (one_outcome n f) tokens = bind_at (parse_outcome n) (λ one tokens. closed_outcomes n (λ outcomes. f (one ∷ outcomes)) tokens) tokens ((outcome_reader n).at tokens) (λ _ one _. closed_some n (λ outcomes. f (one ∷ outcomes)))
    (λ front one rest r is.
    let takes = outcome_takes n front one r in
    let size : length tokens ≡ length front + length rest = ap length is ∙ length-append front rest in
    fewer (λ outcomes. f (one ∷ outcomes)) rest (omega arith)) in
    same_at (closed_outcomes n f) (choose opens (one_outcome n f) (no_outcome f)) tokens (outcomes_are_closed n f) (choose_at opens (one_outcome n f) (no_outcome f) tokens (outcomes_choose n f) one ((none_reader f).at tokens))

-- outcomes at tokens up to a number
outcomes_at_most : {X : Type 0} (n most : ℕ) (f : List (List ℚ) → X) (tokens : List Token) → length tokens ≤ most → LooksAhead (closed_outcomes n f) tokens
outcomes_at_most n zero f tokens le = outcomes_at n f tokens (λ g rest lt. absurd (omega arith))
outcomes_at_most n (suc most) f tokens le = outcomes_at n f tokens (λ g rest lt. outcomes_at_most n most g rest (omega arith))

-- outcomes and their closing brace
pub outcomes_reader : (n : ℕ) → IsReader (closed_outcomes n (λ outcomes. outcomes))
outcomes_reader n = record { some = closed_some n (λ outcomes. outcomes); at = λ tokens. outcomes_at_most n (length tokens) (λ outcomes. outcomes) tokens (omega arith) }

-- ---- numbers of outcomes
number_token : (outcomes : ℕ) (t : Token) → ((x : ℕ) × ((rest : List Token) → parse_number outcomes 0 (t ∷ rest) ≡ Ok (x, rest))) ⊎ ((k : NfgKind) × ((rest : List Token) → parse_number outcomes 0 (t ∷ rest) ≡ Err (k, t ∷ rest)))
unfolding parse_number
number_token outcomes t = elim (whole_is_head.by_token t) [
  | inl n ↦ elim (cases_Bool (nat_le n.0 outcomes)) [
    | inl y ↦ inl (n.0, λ rest. rw (n.1 rest, y) refl)
    | inr m ↦ inr (Outcome, λ rest. rw (n.1 rest, m) refl)
  ]
  | inr n ↦ inr (PayoffCount, λ rest. rw (n rest) refl)
]

number_end : (outcomes i : ℕ) → parse_number outcomes i [] ≡ Err (PayoffCount, [])
unfolding parse_number
number_end outcomes i = rw whole_is_head.none refl

number_zero : (outcomes i : ℕ) (rest : List Token) → parse_number outcomes i (whole_number 0 ∷ rest) ≡ Ok (0, rest)
unfolding parse_number
number_zero outcomes i rest = rw (whole_again 0 rest, le_passes 0 outcomes (omega arith)) refl

pub number_reader : (outcomes i : ℕ) → IsReader (parse_number outcomes i)
unfolding parse_number
number_reader outcomes i = token_reader (parse_number outcomes i) (record { token = whole_number 0; value = 0; is_read = number_zero outcomes i; kind = PayoffCount; at_end = number_end outcomes i; by_token = number_token outcomes })

-- ---- the body
-- numbers after outcomes
abbrev pub numbers_of : ℕ → ℕ → List (List ℚ) × List Token → Parsed NfgKind (List ℚ)
numbers_of n profiles outcomes = parse_each (parse_number (length outcomes.0)) 0 profiles outcomes.1 >>= λ numbers. Ok (flat_map (outcome_payoffs n outcomes.0) numbers.0, numbers.1)

numbers_after : (n profiles : ℕ) (o : Parsed NfgKind (List (List ℚ))) → (o >>= λ outcomes. expected_mark Outcome outcomes.1 (closing_brace_at outcomes.1) >>= λ rest. numbers_of n profiles (outcomes.0, rest.1)) ≡ close (λ outcomes. outcomes) o >>= numbers_of n profiles
numbers_after n profiles (Err fault) = refl
numbers_after n profiles (Ok x) = elim (result_of (expected_mark Outcome x.1 (closing_brace_at x.1))) [
  | inl y ↦ rw y.1 refl
  | inr f ↦ rw f.1 refl
]

pub numbers_beyond : (n profiles : ℕ) (tokens : List Token) → (parse_outcomes n (length tokens) tokens >>= λ outcomes. expected_mark Outcome outcomes.1 (closing_brace_at outcomes.1) >>= λ rest. numbers_of n profiles (outcomes.0, rest.1)) ≡ (closed_outcomes n (λ outcomes. outcomes) tokens >>= λ outcomes. numbers_of n profiles (outcomes.0, outcomes.1))
numbers_beyond n profiles tokens = numbers_after n profiles (parse_outcomes n (length tokens) tokens)

pub outcome_body_reader : (n profiles : ℕ) → IsReader (parse_outcome_body n profiles)
unfolding parse_outcome_body
outcome_body_reader n profiles =
    bind_reader (λ tokens. expected_mark PayoffCount tokens (opening_brace_at tokens)) (λ _ tokens. parse_outcomes n (length tokens) tokens >>= λ outcomes. expected_mark Outcome outcomes.1 (closing_brace_at outcomes.1) >>= λ rest. parse_each (parse_number (length outcomes.0)) 0 profiles rest.1 >>= λ numbers. Ok (flat_map (outcome_payoffs n outcomes.0) numbers.0, numbers.1)) (opening_brace_reader PayoffCount)
    (λ _ _ _. same_reader _ _ (numbers_beyond n profiles) (bind_reader (closed_outcomes n (λ outcomes. outcomes)) (λ outcomes tokens. parse_each (parse_number (length outcomes)) 0 profiles tokens >>= λ numbers. Ok (flat_map (outcome_payoffs n outcomes) numbers.0, numbers.1)) (outcomes_reader n)
    (λ _ outcomes _. bind_reader (λ tokens. parse_each (parse_number (length outcomes)) 0 profiles tokens) (λ numbers tokens. Ok (flat_map (outcome_payoffs n outcomes) numbers, tokens)) (each_reader (parse_number (length outcomes)) (number_reader (length outcomes)) 0 profiles)
    (λ _ numbers _. pure_reader (flat_map (outcome_payoffs n outcomes) numbers)))))

-- payoffs do not open
payoffs_closed : (n : ℕ) (tokens : List Token) (y : List ℚ × List Token) → 1 ≤ n → opens tokens ≡ true → parse_payoffs PayoffCount n tokens ≡ Ok y → ⊥
payoffs_closed zero tokens y h o e = absurd (omega arith)
payoffs_closed (suc n) (Left ∷ tokens) y h o e = ok_err y (PayoffCount, Left ∷ tokens) (sym e)
payoffs_closed (suc n) _ y h o e = cc

-- a list of outcomes opens
outcome_body_open : (n count : ℕ) (tokens : List Token) (y : List ℚ × List Token) → opens tokens ≡ false → parse_outcome_body n count tokens ≡ Ok y → ⊥
unfolding parse_outcome_body
outcome_body_open n count (Left ∷ tokens) y o e = cc
outcome_body_open n count tokens y o e = ok_err y (PayoffCount, tokens) (sym e)

-- the body
pub body_reader : (n count : ℕ) → 1 ≤ n * count → IsReader (parse_body n count)
unfolding parse_body
body_reader n count h = choose_reader opens (parse_outcome_body n count) (parse_payoffs PayoffCount (n * count)) (record { heads = opens_first; only_p = outcome_body_open n count; only_q = λ tokens y. payoffs_closed (n * count) tokens y h }) (outcome_body_reader n count) (payoffs_reader PayoffCount (n * count))

-- whether a text comes
abbrev pub begins_text : List Token → Bool
begins_text (Text t ∷ tokens) = true
begins_text _ = false

-- a comment and the body
comment_body : ℕ → ℕ → List Token → Parsed NfgKind (List ℚ)
comment_body n count tokens = wanted PayoffCount tokens (text_at tokens) >>= λ comment. parse_body n count comment.1

-- what follows the strategies
abbrev pub after_strategies : ℕ → ℕ → List Token → Parsed NfgKind (List ℚ)
after_strategies n count tokens = parse_body n count (after_text tokens)

after_is : (n count : ℕ) (tokens : List Token) → after_strategies n count tokens ≡ choose begins_text (comment_body n count) (parse_body n count) tokens
unfolding comment_body
after_is n count (Text t ∷ tokens) = refl
after_is n count _ = refl

text_first : (t : Token) (r s : List Token) → begins_text (t ∷ r) ≡ begins_text (t ∷ s)
text_first (Text t) r s = refl
text_first _ r s = refl

no_comment : (n count : ℕ) (tokens : List Token) (y : List ℚ × List Token) → begins_text tokens ≡ false → comment_body n count tokens ≡ Ok y → ⊥
unfolding comment_body
no_comment n count (Text t ∷ tokens) y o e = cc
no_comment n count tokens y o e = ok_err y (PayoffCount, tokens) (sym e)

no_text : (m : ℕ) (t : List ℕ) (tokens : List Token) (y : List ℚ × List Token) → 1 ≤ m → parse_payoffs PayoffCount m (Text t ∷ tokens) ≡ Ok y → ⊥
no_text zero t tokens y h e = absurd (omega arith)
no_text (suc m) t tokens y h e = ok_err y (PayoffCount, Text t ∷ tokens) (sym e)

body_bare : (n count : ℕ) (tokens : List Token) (y : List ℚ × List Token) → 1 ≤ n * count → begins_text tokens ≡ true → parse_body n count tokens ≡ Ok y → ⊥
unfolding parse_body
body_bare n count (Text t ∷ tokens) y h o e = no_text (n * count) t tokens y h e
body_bare n count _ y h o e = cc

-- what follows the strategies
pub after_reader : (n count : ℕ) → 1 ≤ n * count → IsReader (after_strategies n count)
unfolding comment_body
after_reader n count h =
    same_reader (after_strategies n count) (choose begins_text (comment_body n count) (parse_body n count)) (after_is n count) (choose_reader begins_text (comment_body n count) (parse_body n count) (record { heads = text_first; only_p = no_comment n count; only_q = λ tokens y. body_bare n count tokens y h })
    (bind_reader (λ tokens. wanted PayoffCount tokens (text_at tokens)) (λ _ tokens. parse_body n count tokens) (text_reader PayoffCount) (λ _ _ _. body_reader n count h)) (body_reader n count h))

-- ---- the table
-- the table, before the end is seen
abbrev pub parse_all : List Token → Parsed NfgKind GameTable
parse_all tokens = parse_front tokens >>= λ front. after_strategies (length front.0.players) (profiles front.0) front.1 >>= λ payoffs. Ok (table_of front.0 payoffs.0, payoffs.1)

-- a product of some
pub some_product : (a b : ℕ) → 1 ≤ a → 1 ≤ b → 1 ≤ a * b
some_product zero b h k = absurd (omega arith)
some_product (suc a) b h k = omega arith

-- a front has some payoffs
pub some_payoffs : (front : List Token) (x : FrontPart) → ReadsAs parse_front front x → 1 ≤ length x.players * profiles x
some_payoffs front x r =
    let some = front_some front (x, []) (sym (value_front front) ∙ ap value (reads_alone parse_front front x r)) in
    let count = some_profile (map length x.strategies) some.1 in
    some_product (length x.players) (profiles x) some.0 count

-- the table
pub all_reader : IsReader parse_all
all_reader = bind_reader parse_front (λ front tokens. after_strategies (length front.players) (profiles front) tokens >>= λ payoffs. Ok (table_of front payoffs.0, payoffs.1)) front_reader (λ part front r. bind_reader (after_strategies (length front.players) (profiles front)) (λ payoffs tokens. Ok (table_of front payoffs, tokens)) (after_reader (length front.players) (profiles front) (some_payoffs part front r)) (λ _ payoffs _. pure_reader (table_of front payoffs)))
