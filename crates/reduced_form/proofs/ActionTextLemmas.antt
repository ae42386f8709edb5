-- The texts of actions in the names of strategies.
use Rattle.std.proofs.Common.{ℕ, ◌+◌, ◌≤◌, ◌≡◌, ◌≢◌, [], ◌∷◌, arith}
use Rattle.std.proofs.lemmas.Fmt.{decimal_digit}
use Rattle.std.proofs.lemmas.Bool.Decides.{nat_tests}
use Rattle.reduced_form.specs.ReducedForm.{action_text}

-- an action with one digit
pub action_text-digit : (n : ℕ) → n ≢ 0 → n ≤ 9 → action_text n ≡ (48 + n) ∷ []
action_text-digit n h l = grind (arith, nat_tests, decimal_digit n (omega arith))
