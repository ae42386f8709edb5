-- Reading a table with places of faults gives what reading it without them does.
use Rattle.std.proofs.Common.{◌≡◌, ℕ, zero, suc, ◌*◌, nat_le, List, [], ◌∷◌, length, Some, None, refl}
use Rattle.std.specs.Prelude.{Ok, Err, codes, ◌<◌, if◌then◌else◌, map, Option}
use Rattle.game_core.specs.declared.token.Token.{Token}
use Rattle.file_parts.specs.Reading.{opening_brace_at, closing_brace_at, text_at, after_text, opens, ends, whole_at, count_at}
use Rattle.file_parts.proofs.ValueLemmas.{names_at, payoffs_at, repeat_at, title_at}
use Rattle.file_parts.specs.Parsing.{wanted, parse_each, parse_names, parse_payoffs, parse_title}
use Rattle.file_parts.proofs.ReaderLemmas.{chain}
use Rattle.file_parts.proofs.ValueLemmas.{value, value_wanted, value_expected_mark, value_chain, value_if, value_each, value_names, value_payoffs, value_title}
use Rattle.nfg_reader.specs.Fronts.{profiles, FrontPart, table_of}
use Rattle.nfg_reader.specs.TableParsing.{parse_count, parse_counted, parse_named, parse_strategies, parse_front, parse_outcome, parse_outcomes, parse_number, parse_outcome_body, parse_body, parse_rest, parse_table}
use Rattle.nfg_reader.specs.declared.reading.NfgKind.TheVariants.{Header, Players, Strategies, Outcome, PayoffCount, Trailing}
use Rattle.std.specs.List.{flat_map}
use Rattle.lists.specs.Options.{◌>>=◌}
use Rattle.rational.specs.Rational.{ℚ}
use Rattle.game_core.specs.Table.{GameTable, most_payoffs}
use Rattle.nfg_reader.specs.TableFile.{counted_names, outcome_payoffs}

-- the number of an outcome, or 0, where there are so many outcomes
unfoldable pub outcome_number_at : ℕ → List Token → Option (ℕ × List Token)
outcome_number_at outcomes tokens = do
  number ← whole_at tokens
  if nat_le number.0 outcomes then Some number else None

-- counts, closed by a brace
unfoldable pub counted_at : ℕ → List Token → Option (List (List (List ℕ)) × List Token)
counted_at players tokens = do
  counts ← repeat_at (λ _. count_at) 0 players tokens
  rest ← closing_brace_at counts.1
  Some (map counted_names counts.0, rest)

-- lists of names, closed by a brace
unfoldable pub named_at : ℕ → List Token → Option (List (List (List ℕ)) × List Token)
named_at players tokens = do
  lists ← repeat_at (λ _. names_at) 0 players tokens
  rest ← closing_brace_at lists.1
  Some (lists.0, rest)

-- the strategies of this many players
unfoldable pub strategies_at : ℕ → List Token → Option (List (List (List ℕ)) × List Token)
strategies_at players tokens = do
  inner ← opening_brace_at tokens
  if opens inner then named_at players inner else counted_at players inner

-- an outcome for this many players
unfoldable pub outcome_at : ℕ → List Token → Option (List ℚ × List Token)
outcome_at players tokens = do
  inner ← opening_brace_at tokens
  name ← text_at inner
  payoffs ← payoffs_at players name.1
  rest ← closing_brace_at payoffs.1
  Some (payoffs.0, rest)

-- as many outcomes as come, and at most so many
abbrev pub outcomes_at : ℕ → ℕ → List Token → Option (List (List ℚ) × List Token)
outcomes_at players zero tokens = Some ([], tokens)
outcomes_at players (suc most) tokens = if opens tokens then (outcome_at players tokens >>= λ one. outcomes_at players most one.1 >>= λ more. Some (one.0 ∷ more.0, more.1)) else Some ([], tokens)

-- outcomes in braces, and the number of one for each of this many profiles
unfoldable pub outcome_body_at : ℕ → ℕ → List Token → Option (List ℚ × List Token)
outcome_body_at players profiles tokens = do
  inner ← opening_brace_at tokens
  outcomes ← outcomes_at players (length inner) inner
  rest ← closing_brace_at outcomes.1
  numbers ← repeat_at (λ _. outcome_number_at (length outcomes.0)) 0 profiles rest
  Some (flat_map (outcome_payoffs players outcomes.0) numbers.0, numbers.1)

-- the payoffs of this many players at each of this many profiles
unfoldable pub body_at : ℕ → ℕ → List Token → Option (List ℚ × List Token)
body_at players profiles tokens = if opens tokens then outcome_body_at players profiles tokens else payoffs_at (players * profiles) tokens

-- more payoffs than a table may have
abbrev pub IsTooLong : FrontPart → Type 0
IsTooLong front = most_payoffs < length front.players * profiles front

-- the part up to the strategies
unfoldable pub front_at : List Token → Option (FrontPart × List Token)
front_at tokens = do
  title ← title_at (codes "NFG") 1 tokens
  players ← names_at title.1
  strategies ← strategies_at (length players.0) players.1
  Some (record { title = title.0; players = players.0; strategies = strategies.0 }, strategies.1)

-- the payoffs, with which the file ends, after an optional comment
unfoldable pub rest_at : ℕ → ℕ → List Token → Option (List ℚ)
rest_at players profiles tokens = do
  payoffs ← body_at players profiles (after_text tokens)
  if ends payoffs.1 then Some payoffs.0 else None

-- the table of a file
unfoldable pub table_at : List Token → Option GameTable
table_at tokens = do
  front ← front_at tokens
  payoffs ← rest_at (length front.0.players) (profiles front.0) front.1
  Some (table_of front.0 payoffs)

value_counted : (n : ℕ) (tokens : List Token) → value (parse_counted n tokens) ≡ counted_at n tokens
unfolding parse_counted counted_at
value_counted n tokens = value_chain (parse_each parse_count 0 n tokens) _ _ _ (value_each parse_count (λ _. count_at) (λ i tokens. value_wanted Strategies tokens (count_at tokens)) 0 n tokens) (λ counts. value_expected_mark Strategies counts.1 (closing_brace_at counts.1) _ _ (λ rest. refl))

value_named : (n : ℕ) (tokens : List Token) → value (parse_named n tokens) ≡ named_at n tokens
unfolding parse_named named_at
value_named n tokens = value_chain (parse_each (λ _. parse_names Strategies) 0 n tokens) _ _ _ (value_each (λ _. parse_names Strategies) (λ _. names_at) (λ i tokens. value_names Strategies tokens) 0 n tokens) (λ lists. value_expected_mark Strategies lists.1 (closing_brace_at lists.1) _ _ (λ rest. refl))

pub value_strategies : (n : ℕ) (tokens : List Token) → value (parse_strategies n tokens) ≡ strategies_at n tokens
unfolding parse_strategies strategies_at
value_strategies n tokens = value_expected_mark Strategies tokens (opening_brace_at tokens) _ _ (λ inner. value_if (opens inner) (parse_named n inner) (parse_counted n inner) (named_at n inner) (counted_at n inner) (value_named n inner) (value_counted n inner))

-- the front
pub value_front : (tokens : List Token) → value (parse_front tokens) ≡ front_at tokens
unfolding parse_front front_at
value_front tokens =
    value_chain (parse_title Header (codes "NFG") 1 tokens) _ _ _ (value_title Header (codes "NFG") 1 tokens) (λ title.
    value_chain (parse_names Players title.1) _ _ _ (value_names Players title.1) (λ players.
    value_chain (parse_strategies (length players.0) players.1) _ _ _ (value_strategies (length players.0) players.1) (λ strategies. refl)))

-- an outcome
pub value_outcome : (n : ℕ) (tokens : List Token) → value (parse_outcome n tokens) ≡ outcome_at n tokens
unfolding parse_outcome outcome_at
value_outcome n tokens = value_expected_mark Outcome tokens (opening_brace_at tokens) _ _ (λ inner.
    value_chain (wanted Outcome inner (text_at inner)) _ _ _ (value_wanted Outcome inner (text_at inner)) (λ name.
    value_chain (parse_payoffs Outcome n name.1) _ _ _ (value_payoffs Outcome n name.1) (λ payoffs. value_expected_mark Outcome payoffs.1 (closing_brace_at payoffs.1) _ _ (λ rest. refl))))

-- outcomes
pub value_outcomes : (n most : ℕ) (tokens : List Token) → value (parse_outcomes n most tokens) ≡ outcomes_at n most tokens
value_outcomes n zero tokens = refl
value_outcomes n (suc most) tokens = value_if (opens tokens) (chain (parse_outcome n tokens) (λ one. chain (parse_outcomes n most one.1) (λ more. Ok (one.0 ∷ more.0, more.1)))) (Ok ([], tokens)) _ (Some ([], tokens)) (value_chain (parse_outcome n tokens) _ _ _ (value_outcome n tokens) (λ one. value_chain (parse_outcomes n most one.1) _ _ _ (value_outcomes n most one.1) (λ more. refl))) refl

pub value_number : (outcomes i : ℕ) (tokens : List Token) → value (parse_number outcomes i tokens) ≡ outcome_number_at outcomes tokens
unfolding parse_number outcome_number_at
value_number outcomes i tokens = value_chain (wanted PayoffCount tokens (whole_at tokens)) _ _ _ (value_wanted PayoffCount tokens (whole_at tokens)) (λ number. value_if (nat_le number.0 outcomes) (Ok number) (Err (Outcome, tokens)) (Some number) None refl refl)

value_outcome_body : (n count : ℕ) (tokens : List Token) → value (parse_outcome_body n count tokens) ≡ outcome_body_at n count tokens
unfolding parse_outcome_body outcome_body_at
value_outcome_body n count tokens = value_expected_mark PayoffCount tokens (opening_brace_at tokens) _ _ (λ inner.
    value_chain (parse_outcomes n (length inner) inner) _ _ _ (value_outcomes n (length inner) inner) (λ outcomes.
    value_expected_mark Outcome outcomes.1 (closing_brace_at outcomes.1) _ _ (λ rest.
    value_chain (parse_each (parse_number (length outcomes.0)) 0 count rest) _ _ _ (value_each (parse_number (length outcomes.0)) (λ _. outcome_number_at (length outcomes.0)) (value_number (length outcomes.0)) 0 count rest) (λ numbers. refl))))

-- the body
pub value_body : (n count : ℕ) (tokens : List Token) → value (parse_body n count tokens) ≡ body_at n count tokens
unfolding parse_body body_at
value_body n count tokens = value_if (opens tokens) (parse_outcome_body n count tokens) (parse_payoffs PayoffCount (n * count) tokens) (outcome_body_at n count tokens) (payoffs_at (n * count) tokens) (value_outcome_body n count tokens) (value_payoffs PayoffCount (n * count) tokens)

-- the body and the end
pub value_rest : (n count : ℕ) (tokens : List Token) → value (parse_rest n count tokens) ≡ rest_at n count tokens
unfolding parse_rest rest_at
value_rest n count tokens = value_chain (parse_body n count (after_text tokens)) _ _ _ (value_body n count (after_text tokens)) (λ payoffs. value_if (ends payoffs.1) (Ok payoffs.0) (Err (Trailing, payoffs.1)) (Some payoffs.0) None refl refl)

-- the table
pub value_table : (tokens : List Token) → value (parse_table tokens) ≡ table_at tokens
unfolding parse_table table_at
value_table tokens = value_chain (parse_front tokens) _ _ _ (value_front tokens) (λ front. value_chain (parse_rest (length front.0.players) (profiles front.0) front.1) _ _ _ (value_rest (length front.0.players) (profiles front.0) front.1) (λ payoffs. refl))
