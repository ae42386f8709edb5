-- What is read is the table of a file, and such a file is read.
use Rattle.std.proofs.Common.{◌≡◌, ℕ, zero, suc, ◌*◌, ◌≤◌, ◌<◌, List, [], ◌∷◌, ◌++◌, length, map, get_or, Some, None, ◌⊎◌, inl, inr, refl, sym, ap, ◌∙◌, subst, append_assoc, length-append, arith}
use Rattle.std.proofs.Math.Nat.{mul-suc}
use Rattle.std.proofs.lemmas.Bool.{cases_lt}
use Rattle.std.proofs.lemmas.List.{append-nil, length-replicate}
use Rattle.std.proofs.lemmas.List.Elements.{All-nil, All-cons}
use Rattle.std.specs.Prelude.{All}
use Rattle.std.specs.List.{AllByRecursion, flat_map}
use Rattle.std.proofs.lemmas.Option.{same_Some}
use Rattle.rational.specs.Rational.{ℚ, zero_ℚ}
use Rattle.game_theory.specs.Profiles.{profile_count}
use Rattle.game_core.specs.Table.{GameTable, IsTable, most_payoffs, strategy_counts}
use Rattle.game_core.specs.declared.token.Token.{Token}
use Rattle.nfg_reader.specs.TableFile.{AreStrategyTokens, AreOutcomes, outcome_payoffs, IsPayoffBody, IsOutcomeBody, IsTableFile, HasTooManyPayoffs}
use Rattle.nfg_reader.specs.Fronts.{FrontPart, profiles, table_of}
use Rattle.nfg_reader.proofs.TableValueLemmas.{front_at, rest_at, table_at, IsTooLong}
use Rattle.nfg_reader.proofs.CountedNameLemmas.{lengths_counted}
use Rattle.nfg_reader.proofs.FrontLaws.{front_is, front_again}
use Rattle.nfg_reader.proofs.BodyLaws.{rest_is, rest_again}

-- ---- the table
-- what is read is the table of a file
pub table_next : (tokens : List Token) (front : FrontPart × List Token) (payoffs : List ℚ) → front_at tokens ≡ Some front → rest_at (length front.0.players) (profiles front.0) front.1 ≡ Some payoffs → IsTableFile tokens (table_of front.0 payoffs)
table_next tokens front payoffs e r =
    let f = front_is tokens front e in
    let l = rest_is front.0 front.1 payoffs r in
    record {
      front = f.0;
      is_front = f.1;
      comment = l.comment;
      is_comment = l.is_comment;
      body = l.body;
      is_body = l.is_body;
      are_tokens = f.2 ∙ ap (λ (q : List Token). f.0 ++ q) (l.is ∙ ap (λ (q : List Token). l.comment ++ q) (append-nil l.body)) ∙ sym (append_assoc f.0 l.comment l.body);
    }

-- the parts of a file are read
record AreRead (tokens : List Token) (table : GameTable) : Type 0 where
  rest : List Token
  is_front : front_at tokens ≡ Some (record { title = table.title; players = table.players; strategies = table.strategies }, rest)
  is_rest : rest_at (length table.players) (profile_count (map length table.strategies)) rest ≡ Some table.payoffs

-- a file of a table is read, part by part
parts_again : (tokens : List Token) (table : GameTable) → IsTableFile tokens table → AreRead tokens table
parts_again tokens table f =
    let front : FrontPart = record { title = table.title; players = table.players; strategies = table.strategies } in
    let rest : List Token = f.comment ++ f.body in
    record {
      rest = rest;
      is_front = rw (f.are_tokens, append_assoc f.front f.comment f.body) (front_again f.front rest table.title table.players table.strategies f.is_front);
      is_rest = rest_again front rest table.payoffs (record { comment = f.comment; is_comment = f.is_comment; body = f.body; is_body = f.is_body; is = ap (λ (q : List Token). f.comment ++ q) (sym (append-nil f.body)) });
    }

-- a file of a table is read
pub table_again : (tokens : List Token) (table : GameTable) → IsTableFile tokens table → table_at tokens ≡ Some table
unfolding table_at
table_again tokens table f =
    let p = parts_again tokens table f in
    rw (p.is_front, p.is_rest) refl

-- tokens stand for at most one table
pub one_table : (tokens : List Token) (one other : GameTable) → IsTableFile tokens one → IsTableFile tokens other → one ≡ other
one_table tokens one other f g = same_Some one other (sym (table_again tokens one f) ∙ table_again tokens other g)

-- ---- too many payoffs
pub too_many_next : (tokens : List Token) (front : FrontPart × List Token) → front_at tokens ≡ Some front → IsTooLong front.0 → HasTooManyPayoffs tokens
too_many_next tokens front e long =
    let f = front_is tokens front e in
    record { title = front.0.title; players = front.0.players; strategies = front.0.strategies; front = f.0; rest = front.1; is_front = f.1; too_many = long; are_tokens = f.2 }

-- and the other way
too_many_again : (tokens : List Token) → HasTooManyPayoffs tokens → (front : FrontPart × List Token) × (front_at tokens ≡ Some front) × IsTooLong front.0
too_many_again tokens h =
    let front : FrontPart = record { title = h.title; players = h.players; strategies = h.strategies } in
    ((front, h.rest), rw h.are_tokens (front_again h.front h.rest h.title h.players h.strategies h.is_front), h.too_many)

-- a file of a table within the limit has not too many
pub not_too_many : (tokens : List Token) (table : GameTable) → IsTableFile tokens table → length table.players * profile_count (strategy_counts table) ≤ most_payoffs → ¬ (HasTooManyPayoffs tokens)
not_too_many tokens table f few h =
    let p = parts_again tokens table f in
    let q = too_many_again tokens h in
    let same = same_Some _ q.0 (sym p.is_front ∙ q.1) in
    let le : length q.0.0.players * profiles q.0.0 ≤ most_payoffs = subst (λ (x : FrontPart × List Token). length x.0.players * profiles x.0 ≤ most_payoffs) same few in
    absurd (omega (arith, le, q.2))

-- ---- stops
-- no table, and not too many payoffs
abbrev pub IsNoTable : List Token → Type 0
IsNoTable tokens = ((table : GameTable) → IsTableFile tokens table → ⊥) × ¬ (HasTooManyPayoffs tokens)

-- where no front is read
pub no_front : (tokens : List Token) → front_at tokens ≡ None → IsNoTable tokens
no_front tokens e = (λ table f. let p = parts_again tokens table f in let q = p.is_front in cc, λ h. let p = too_many_again tokens h in let q = p.1 in cc)

-- where a front of few payoffs is read, and no payoffs
pub no_rest : (tokens : List Token) (front : FrontPart × List Token) → front_at tokens ≡ Some front → length front.0.players * profiles front.0 ≤ most_payoffs → rest_at (length front.0.players) (profiles front.0) front.1 ≡ None → IsNoTable tokens
no_rest tokens front e few r =
    let by : (other : FrontPart × List Token) → front_at tokens ≡ Some other → front ≡ other = λ other o. same_Some front other (sym e ∙ o) in (
      λ table f.
          let p = parts_again tokens table f in
          let same = by _ p.is_front in
          let none = subst (λ (x : FrontPart × List Token). rest_at (length x.0.players) (profiles x.0) x.1 ≡ None) same r in
          let some = p.is_rest in
          cc,
      λ h.
          let p = too_many_again tokens h in
          let le = subst (λ (x : FrontPart × List Token). length x.0.players * profiles x.0 ≤ most_payoffs) (by p.0 p.1) few in
          absurd (omega (arith, le, p.2)),
    )

-- the same by counts that equal these
pub no_rest_of : (tokens : List Token) (front : FrontPart × List Token) (players count : ℕ) → front_at tokens ≡ Some front → players ≡ length front.0.players → count ≡ profiles front.0 → players * count ≤ most_payoffs → rest_at players count front.1 ≡ None → IsNoTable tokens
no_rest_of tokens front players count e p c few r = no_rest tokens front e (rw (p, c) at few) (rw (p, c) at r)

-- ---- what was read is a table
-- lists with a name each have positive lengths
all_lengths : (lists : List (List (List ℕ))) → AllByRecursion (λ names. 1 ≤ length names) lists → AllByRecursion (λ n. 1 ≤ n) (map length lists)
all_lengths [] h = tt
all_lengths (names ∷ lists) h = (h.0, all_lengths lists h.1)

-- each of the strategies' lists has a name
lengths_some : (part : List Token) (strategies : List (List (List ℕ))) → AreStrategyTokens part strategies → AllByRecursion (λ n. 1 ≤ n) (map length strategies)
lengths_some part strategies (inl h) = rw (h.2, lengths_counted h.0) h.1
lengths_some part strategies (inr h) = all_lengths strategies h.0

-- each player of a front has a strategy, and there is a player
pub front_some : (tokens : List Token) (front : FrontPart × List Token) → front_at tokens ≡ Some front → (1 ≤ length front.0.players) × AllByRecursion (λ n. 1 ≤ n) (map length front.0.strategies) × (length front.0.strategies ≡ length front.0.players)
front_some tokens front e =
    let f = front_is tokens front e in
    (f.1.some_player, lengths_some f.1.strategy_part front.0.strategies f.1.are_strategies, f.1.strategies_of_each)

-- the same by std's word
all_some : (lists : List (List (List ℕ))) → AllByRecursion (λ n. 1 ≤ n) (map length lists) → All (λ names. 0 < length names) lists
all_some [] h = All-nil _
all_some (names ∷ lists) h = All-cons (λ names. 0 < length names) names lists (omega (arith, h.0)) (all_some lists h.1)

-- an outcome pays each player
outcome_length : (players : ℕ) (list : List Token) (outcomes : List (List ℚ)) (n : ℕ) → AreOutcomes players list outcomes → n < length outcomes → length (get_or outcomes n []) ≡ players
outcome_length players list [] n h lt = absurd (omega arith)
outcome_length players list (payoffs ∷ outcomes) zero h lt = h.3.4
outcome_length players list (payoffs ∷ outcomes) (suc n) h lt = outcome_length players h.1 outcomes n h.4 (omega arith)

-- each number of an outcome pays each player once
paid_each : (players : ℕ) (list : List Token) (outcomes : List (List ℚ)) (n : ℕ) → AreOutcomes players list outcomes → n ≤ length outcomes → length (outcome_payoffs players outcomes n) ≡ players
paid_each players list outcomes zero h le = length-replicate players zero_ℚ
paid_each players list outcomes (suc n) h le = outcome_length players list outcomes n h (omega arith)

-- numbers of outcomes pay each player once at each profile
paid_all : (players : ℕ) (list : List Token) (outcomes : List (List ℚ)) (numbers : List ℕ) → AreOutcomes players list outcomes → AllByRecursion (λ n. n ≤ length outcomes) numbers → length (flat_map (outcome_payoffs players outcomes) numbers) ≡ players * length numbers
paid_all players list outcomes [] h all = omega arith
paid_all players list outcomes (n ∷ numbers) h all =
    let one = paid_each players list outcomes n h all.0 in
    let more = paid_all players list outcomes numbers h all.1 in
    let both = length-append (outcome_payoffs players outcomes n) (flat_map (outcome_payoffs players outcomes) numbers) in
    let product = mul-suc players (length numbers) in
    omega (arith, both, one, more, product)

-- a body pays each player once at each profile
body_length : (front : FrontPart) (body : List Token) (payoffs : List ℚ) → IsPayoffBody body (table_of front payoffs) ⊎ IsOutcomeBody body (table_of front payoffs) → length payoffs ≡ length front.players * profiles front
body_length front body payoffs (inl h) = h.1
body_length front body payoffs (inr h) = ap length h.7 ∙ paid_all (length front.players) h.0 h.1 h.2 h.4 h.6 ∙ ap (λ (n : ℕ). length front.players * n) h.5

-- what was read is a table
pub read_is_table : (tokens : List Token) (front : FrontPart × List Token) (payoffs : List ℚ) → front_at tokens ≡ Some front → rest_at (length front.0.players) (profiles front.0) front.1 ≡ Some payoffs → length front.0.players * profiles front.0 ≤ most_payoffs → IsTable (table_of front.0 payoffs)
read_is_table tokens front payoffs e r few =
    let some = front_some tokens front e in
    let l = rest_is front.0 front.1 payoffs r in
    let n = body_length front.0 l.body payoffs l.is_body in
    record { strategies_of_each = some.2; some_strategy = all_some front.0.strategies some.1; payoffs_of_each = n; few_payoffs = rw n few }

-- a table, and the table of the file
pub finished : (tokens : List Token) (front : FrontPart × List Token) (payoffs : List ℚ) (players count : ℕ) → front_at tokens ≡ Some front → players ≡ length front.0.players → count ≡ profiles front.0 → players * count ≤ most_payoffs → rest_at players count front.1 ≡ Some payoffs
    → IsTable (table_of front.0 payoffs) × IsTableFile tokens (table_of front.0 payoffs)
finished tokens front payoffs players count e p c few r =
    let rest : rest_at (length front.0.players) (profiles front.0) front.1 ≡ Some payoffs = rw (p, c) at r in
    (read_is_table tokens front payoffs e rest (rw (p, c) at few), table_next tokens front payoffs e rest)

-- a table within the limit does not pass it
pub within : (tokens : List Token) (table : GameTable) → IsTableFile tokens table → IsTable table → ¬ (HasTooManyPayoffs tokens)
within tokens table f t = not_too_many tokens table f (omega (arith, t.payoffs_of_each, t.few_payoffs))

-- a file of a table that has not too many payoffs is that of a table
pub file_is_table : (tokens : List Token) (table : GameTable) → IsTableFile tokens table → ¬ (HasTooManyPayoffs tokens) → IsTable table
file_is_table tokens table f few =
    let p = parts_again tokens table f in
    let front : FrontPart × List Token = (record { title = table.title; players = table.players; strategies = table.strategies }, p.rest) in
    elim (cases_lt most_payoffs (length table.players * profiles front.0)) [
      | inl long ↦ absurd (few (too_many_next tokens front p.is_front long))
      | inr short ↦ read_is_table tokens front table.payoffs p.is_front p.is_rest (omega (arith, short))
    ]
