-- A game has a text of pure equilibria, or one that is too long.
use Rattle.std.proofs.Common.{ℕ, ◌<◌, List, length, refl}
use Rattle.answers.specs.Answers.{refused_by, such_that}
use Rattle.answers.specs.Answered.{IsAnswered}
use Rattle.answers.proofs.AnsweredLemmas.{bind-answered, refused_by-answered, such_that-answered}
use Rattle.lists.proofs.DeniedLemmas.{flags_below}
use Rattle.game_theory.specs.Profiles.{Game, profile_count}
use Rattle.game_theory.specs.Lines.{lines_text}
use Rattle.game_core.specs.Limits.{limited_text}
use Rattle.game_core.proofs.AnsweredLimitLemmas.{limited_text-answered}
use Rattle.enumpure.specs.Ranks.{lines_below}
use Rattle.enumpure.specs.Replies.{PlaysBestReply}
use Rattle.enumpure.specs.Stops.{within_text_limit, pure_text}
use Rattle.enumpure.specs.Text.{IsPureEquilibriaText}
use Rattle.enumpure.specs.declared.listing.ListStop.TheVariants as stops
use Rattle.enumpure.proofs.ListedProfileLemmas.{IsPureEquilibriaText-listed}

-- where there is a text, there is an answer within the limit
pub within_text_limit-answered : (P : List ℕ → Type 0) → ¬ ((text : List ℕ) → ¬ (P text)) → IsAnswered (within_text_limit P)
within_text_limit-answered P some =
    bind-answered (such_that P) (λ text. refused_by stops.TooLarge (limited_text text)) (such_that-answered P some) (λ text _. refused_by-answered stops.TooLarge (limited_text text) (limited_text-answered text))

-- a game has a text: that of the profiles at which all play best replies
some_text : (game : Game) → ¬ ((text : List ℕ) → ¬ (IsPureEquilibriaText game text))
some_text game none =
    flags_below (λ k. (i : ℕ) → i < length game.strategies → PlaysBestReply game i k) (profile_count game.strategies) (λ passes.
    none (lines_text (lines_below game.strategies passes.0 (length passes.0)))
    (IsPureEquilibriaText-listed game passes.0 game.strategies _ refl (record { of_each = passes.1.0; all_best = passes.1.1 }) refl))

pub pure_text-answered : (game : Game) → IsAnswered (pure_text game)
pure_text-answered game = within_text_limit-answered (IsPureEquilibriaText game) (some_text game)
