use Rattle.std.proofs.Common.{ℕ, ◌<◌, ◌≡◌, ◌≢◌, Bool, true, false, List, length, get_or, MatchBool, rules, tests}
use Rattle.std.specs.List.{All, Any, HoldsAt, AllWithin}
use Rattle.std.proofs.lemmas.Iterator.{cases_from_any, YieldsList-from_slice}
use Rattle.std.proofs.lemmas.List.{get_or_default}
use Rattle.std.proofs.lemmas.List.Elements.{All-from_all_within}
use Rattle.rational.specs.Rational.{ℚ, zero_ℚ}
use Rattle.basis_enum.proofs.marking.is_nonzero.Goals as goal

cases : (b : Bool) (xs : List ℚ)
    → MatchBool b ((k : ℕ) × (k < length xs) × HoldsAt (λ q. q ≢ zero_ℚ) xs k)
    (AllWithin (λ q. q ≡ zero_ℚ) xs 0 (length xs))
    → MatchBool b (Any (λ q. q ≢ zero_ℚ) xs) (All (λ q. q ≡ zero_ℚ) xs)
cases true xs h = (h.0, get_or xs h.0 zero_ℚ, h.1, same xs h.0 h.1, h.2 zero_ℚ)
  where
    same : (xs : List ℚ) (k : ℕ) → k < length xs → get_or xs k (get_or xs k zero_ℚ) ≡ get_or xs k zero_ℚ
    same xs k l = get_or_default xs k (get_or xs k zero_ℚ) zero_ℚ l
cases false xs h = All-from_all_within (λ q. q ≡ zero_ℚ) xs h

pub returns : goal.returns
returns c =
    let xs = c.args.values.now in
    cases _ xs
    (cases_from_any _ _ _ (λ q. q ≢ zero_ℚ) (λ q. q ≡ zero_ℚ) c.any.ensures.ran
    (YieldsList-from_slice xs (cc)) (λ x q k. search (rules, tests)) (λ x q k. search (rules, tests)))
