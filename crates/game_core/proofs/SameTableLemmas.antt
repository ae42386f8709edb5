-- Tables with the same parts are the same.
use Rattle.std.proofs.Common.{ℕ, ◌+◌, ◌*◌, ◌/◌, ◌%◌, ◌<◌, ◌≡◌, List, length, get_or, sym, ap, ◌∙◌, subst, arith}
use Rattle.std.proofs.Math.Nat.{mod-lt, mul_comm}
use Rattle.std.proofs.lemmas.Nat.{div_below, div-add-mod'}
use Rattle.std.proofs.lemmas.List.{ext_get_or}
use Rattle.lists.proofs.NumberLemmas.{positive_factor}
use Rattle.rational.specs.Rational.{ℚ, zero_ℚ}
use Rattle.game_core.specs.Table.{GameTable}

-- payoffs are told by profile and player
pub payoffs-same : (players profiles : ℕ) (one other : List ℚ) → length one ≡ players * profiles → length other ≡ players * profiles
    → ((i k : ℕ) → i < players → k < profiles → get_or one (k * players + i) zero_ℚ ≡ get_or other (k * players + i) zero_ℚ) → one ≡ other
payoffs-same players profiles one other long short same = ext_get_or zero_ℚ one other (long ∙ sym short) (λ j l.
    let inside : j < players * profiles = omega (arith, long) in
    let some : 0 < players = positive_factor players profiles j inside in
    let profile : j / players < profiles = div_below j players profiles some (rw (mul_comm profiles players) inside) in
    let at : j / players * players + j % players ≡ j = div-add-mod' j players in
    subst (λ x. get_or one x zero_ℚ ≡ get_or other x zero_ℚ) at (same (j % players) (j / players) (mod-lt j some) profile))

-- tables with the same parts
abbrev table_of : List ℕ → List (List ℕ) → List (List (List ℕ)) → List ℚ → GameTable
table_of title players strategies payoffs = record { title = title; players = players; strategies = strategies; payoffs = payoffs }

pub tables-same : (one other : GameTable) → one.title ≡ other.title → one.players ≡ other.players → one.strategies ≡ other.strategies → one.payoffs ≡ other.payoffs → one ≡ other
tables-same one other a b c d =
    ap (λ x. table_of x one.players one.strategies one.payoffs) a ∙ ap (λ x. table_of other.title x one.strategies one.payoffs) b
    ∙ ap (λ x. table_of other.title other.players x one.payoffs) c ∙ ap (table_of other.title other.players other.strategies) d
