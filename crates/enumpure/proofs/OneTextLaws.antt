-- A game has at most one text of pure equilibria.
use Rattle.std.proofs.Common.{ℕ, ◌≡◌, ◌<◌, ◌≤◌, ◌∙◌, List, length, Ok, Err, inr, refl, sym, ap, subst}
use Rattle.answers.specs.Answers.{IsSingle, refused_by, such_that}
use Rattle.answers.proofs.AnswerLemmas.{bind-single, refused_by-single, such_that-single}
use Rattle.game_theory.specs.Profiles.{Game}
use Rattle.game_theory.specs.Lines.{lines_text}
use Rattle.game_theory.proofs.LineOrderLemmas.{pure_equilibria-determined}
use Rattle.game_core.specs.Limits.{first_above, limited_text, most_text}
use Rattle.game_core.specs.declared.too_large.TooLarge.{TooLarge}
use Rattle.game_core.specs.declared.too_large.What.TheVariants as what
use Rattle.game_core.proofs.LimitLemmas.{limited_text-single, text-long, text-same, text-short}
use Rattle.enumpure.specs.Text.{IsPureEquilibriaText}
use Rattle.enumpure.specs.Stops.{within_text_limit, pure_text}
use Rattle.enumpure.specs.declared.listing.ListStop.TheVariants as stops

-- where a text is determined, so is the answer within the limit
pub within_text_limit-single : (P : List ℕ → Type 0) → ((one other : List ℕ) → P one → P other → one ≡ other) → IsSingle (within_text_limit P)
within_text_limit-single P same =
    bind-single (such_that P) (λ text. refused_by stops.TooLarge (limited_text text)) (such_that-single P same) (λ text _. refused_by-single stops.TooLarge (limited_text text) (limited_text-single text))

-- the answer of a text
pub text-kept : (P : List ℕ → Type 0) (text : List ℕ) → P text → length text ≤ most_text → within_text_limit P (Ok text)
text-kept P text is few = (text, is, text-short text few)

-- that of a text that is too long
pub text-refused : (P : List ℕ → Type 0) (text : List ℕ) (limit : TooLarge) → P text → most_text < length text → limit ≡ first_above what.Text most_text → within_text_limit P (Err (stops.TooLarge limit))
text-refused P text limit is many told = inr (text, is, (limit, text-long text limit many told, refl))

-- what is said of the text that is answered
pub text-is : (P : List ℕ → Type 0) (text : List ℕ) → within_text_limit P (Ok text) → P text
text-is P text h = subst P (sym (text-same h.0 text h.2)) h.1

-- the text of a game is determined
lines-same : (game : Game) (one other : List ℕ) → IsPureEquilibriaText game one → IsPureEquilibriaText game other → one ≡ other
lines-same game one other h k = h.is_text ∙ ap lines_text (pure_equilibria-determined game h.lines k.lines h.are_lines k.are_lines) ∙ sym k.is_text

pub pure_text-single : (game : Game) → IsSingle (pure_text game)
pure_text-single game = within_text_limit-single (IsPureEquilibriaText game) (lines-same game)
