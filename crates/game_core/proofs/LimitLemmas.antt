-- Counts within their limits.
use Rattle.std.proofs.Common.{ℕ, ◌≡◌, ◌<◌, ◌≤◌, List, length, Ok, Err, inl, refl, arith}
use Rattle.answers.specs.Answers.{IsSingle}
use Rattle.answers.proofs.AnswerLemmas.{bind-single, only-single, refuse_where-single}
use Rattle.game_core.specs.Limits.{first_above, limited_text, most_text}
use Rattle.game_core.specs.declared.too_large.TooLarge.{TooLarge}
use Rattle.game_core.specs.declared.too_large.What.TheVariants as what

-- a text is within its limit or not
pub limited_text-single : (text : List ℕ) → IsSingle (limited_text text)
limited_text-single text = bind-single _ _ (refuse_where-single _ _) (λ _ _. only-single text)

-- it is
pub text-short : (text : List ℕ) → length text ≤ most_text → limited_text text (Ok text)
text-short text h = (tt, (λ long. absurd (omega (arith, h, long))), refl)

-- it is not
pub text-long : (text : List ℕ) (stop : TooLarge) → most_text < length text → stop ≡ first_above what.Text most_text → limited_text text (Err stop)
text-long text stop h is = inl (h, is)

-- what it is, where it is within the limit
pub text-same : (text kept : List ℕ) → limited_text text (Ok kept) → kept ≡ text
text-same text kept h = cc
