-- Results whose error is mapped.
use Rattle.std.proofs.Common.{◌≡◌, Ok, Err, Result, refl, subst}
use Rattle.std.specs.Prelude.{MatchResult}
use Rattle.std.specs.Result.{IsErrAnd}

module _ {X E D : Type 0} (maps : E → D → Type 0) where
  -- an error comes from an error
  pub was_error : (was : Result X E) (mapped : Result X D) (d : D) → MatchResult was (λ x. mapped ≡ Ok x) (λ e. IsErrAnd mapped (maps e)) → mapped ≡ Err d → (e : E) × (was ≡ Err e) × maps e d
  was_error (Ok x) mapped d h e = cc
  was_error (Err x) mapped d h e = (x, refl, subst (λ r. IsErrAnd r (maps x)) e h)

  -- a value stays
  pub was_value : (was : Result X E) (mapped : Result X D) (x : X) → MatchResult was (λ x. mapped ≡ Ok x) (λ e. IsErrAnd mapped (maps e)) → mapped ≡ Ok x → was ≡ Ok x
  was_value (Ok y) mapped x h e = cc
  was_value (Err y) mapped x h e = absurd (subst (λ r. IsErrAnd r (maps y)) e h)
