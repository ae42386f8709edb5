-- Payoffs that repeat others, as the code reads them.
use Rattle.std.proofs.Common.{◌≡◌, ℕ, suc, ◌+◌, ◌<◌, ◌≤◌, true, false, if◌then◌else◌, List, length, drop, get_or, Some, None, refl, sym, ◌∙◌, arith}
use Rattle.std.proofs.Math.Seq.{drop-cons}
use Rattle.std.proofs.lemmas.List.{drop_all}
use Rattle.std.specs.Prelude.{Ok, Err}
use Rattle.rational.specs.Rational.{ℚ, zero_ℚ}
use Rattle.file_parts.specs.declared.stop.Unexpected.{Unexpected}
use Rattle.file_parts.specs.Reading.{payoff_start, payoff_at}
use Rattle.file_parts.specs.Parsing.{Parsed, ◌>>=◌, unexpected_at, IsFaultOf}
use Rattle.tree_grammar.specs.TreeParsing.{closes, parse_same_payoff, parse_same_payoffs}
use Rattle.tree_grammar.specs.declared.kinds.EfgKind.{EfgKind}
use Rattle.tree_grammar.specs.declared.kinds.EfgKind.TheVariants.{Node, OutcomeMismatch}
use Rattle.rational.specs.Tests.{eq_ℚ}
use Rattle.game_core.specs.declared.token.Token.{Token}

-- a reading that goes on, or stops
abbrev Passed : Type 0
Passed = Parsed EfgKind (Unit {0})

-- the next and the others
one_repeated : (payoffs : List ℚ) (i : ℕ) (tokens : List Token) (own : ℚ) → i < length payoffs → parse_same_payoffs i (drop i payoffs) tokens ≡ (parse_same_payoff i (get_or payoffs i own) tokens >>= λ rest. parse_same_payoffs (i + 1) (drop (i + 1) payoffs) rest.1)
one_repeated payoffs i tokens own lt =
    let s : i + 1 ≡ suc i = omega arith in
    rw (drop-cons payoffs i own lt, s) refl

-- one was repeated
pub repeated_goes_on : (payoffs : List ℚ) (i : ℕ) (tokens : List Token) (own one : ℚ) (after : List Token) (total : Passed) → i < length payoffs → payoff_at i tokens ≡ Some (one, after) → eq_ℚ one (get_or payoffs i own) ≡ true
    → parse_same_payoffs i (drop i payoffs) tokens ≡ total → parse_same_payoffs (i + 1) (drop (i + 1) payoffs) after ≡ total
unfolding parse_same_payoff
repeated_goes_on payoffs i tokens own one after total lt h same so_far =
    let next : parse_same_payoffs i (drop i payoffs) tokens ≡ parse_same_payoffs (i + 1) (drop (i + 1) payoffs) after = rw (one_repeated payoffs i tokens own lt, h, same) refl in
    sym next ∙ so_far

-- none comes next
pub repeated_ends : (payoffs : List ℚ) (i : ℕ) (tokens : List Token) (fault : Unexpected EfgKind) (total : Passed) → i < length payoffs → payoff_at i tokens ≡ None → fault ≡ unexpected_at (if closes (payoff_start i tokens) then OutcomeMismatch else Node) (payoff_start i tokens)
    → parse_same_payoffs i (drop i payoffs) tokens ≡ total → IsFaultOf fault total
unfolding parse_same_payoff
repeated_ends payoffs i tokens fault total lt h u so_far =
    let next : parse_same_payoffs i (drop i payoffs) tokens ≡ Err ((if closes (payoff_start i tokens) then OutcomeMismatch else Node), payoff_start i tokens) = rw (one_repeated payoffs i tokens zero_ℚ lt, h) refl in
    rw (u, ← so_far, next) refl

-- another one comes next
pub repeated_differs : (payoffs : List ℚ) (i : ℕ) (tokens : List Token) (own one : ℚ) (after : List Token) (fault : Unexpected EfgKind) (total : Passed) → i < length payoffs → payoff_at i tokens ≡ Some (one, after) → eq_ℚ one (get_or payoffs i own) ≡ false
    → fault ≡ unexpected_at OutcomeMismatch (payoff_start i tokens) → parse_same_payoffs i (drop i payoffs) tokens ≡ total → IsFaultOf fault total
unfolding parse_same_payoff
repeated_differs payoffs i tokens own one after fault total lt h other u so_far =
    let next : parse_same_payoffs i (drop i payoffs) tokens ≡ Err (OutcomeMismatch, payoff_start i tokens) = rw (one_repeated payoffs i tokens own lt, h, other) refl in
    rw (u, ← so_far, next) refl

-- all were repeated
pub repeated_done : (payoffs : List ℚ) (i : ℕ) (tokens : List Token) (total : Passed) → length payoffs ≤ i → parse_same_payoffs i (drop i payoffs) tokens ≡ total → total ≡ Ok (tt, tokens)
repeated_done payoffs i tokens total le so_far =
    let next : parse_same_payoffs i (drop i payoffs) tokens ≡ Ok (tt, tokens) = rw (drop_all i payoffs le) refl in
    sym so_far ∙ next

pub ruleset repeated_steps = (repeated_goes_on, repeated_ends, repeated_differs, repeated_done)
