-- A use of an outcome with a number, as the code reads it.
use Rattle.std.proofs.Common.{◌≡◌, ℕ, inl, inr, if◌then◌else◌, List, [], ◌∷◌, ◌++◌, slice_get, slice_set, Option, Some, None, refl, ◌∙◌}
use Rattle.std.proofs.lemmas.Bool.{cases_Bool}
use Rattle.rational.specs.Rational.{ℚ}
use Rattle.file_parts.specs.Reading.{optional_text_at}
use Rattle.written_trees.specs.Written.{OutcomeUse}
use Rattle.written_trees.specs.Building.{PartialOutcome, outcome_place, repeats_payoffs, used_outcome}
use Rattle.tree_grammar.proofs.PartValueLemmas.{optional_at, payoff_list_at, named_outcome_at, later_payoffs_at, with_outcome, named_part_at}
use Rattle.tree_grammar.proofs.RepeatedPayoffLemmas.{came}
use Rattle.std.specs.Option.{option_or}
use Rattle.lists.specs.Options.{◌>>=◌}
use Rattle.game_core.specs.declared.token.Token.{Token}
use Rattle.game_core.specs.declared.token.Token.TheVariants.{Left}

-- what a step gives
abbrev Stepped : Type 0
Stepped = Option ((List PartialOutcome × Option ℕ) × List Token)

module _ (outcomes : List PartialOutcome) (label : ℕ) (name : Option (List ℕ)) where
  -- the outcome's place
  abbrev place : ℕ
  place = outcome_place outcomes label

  -- a use with these payoffs, and one that was read
  abbrev used : Option (List ℚ) → OutcomeUse
  used payoffs = record { label = label; name = name; payoffs = payoffs }

  abbrev named : Option (List ℚ) × List Token → Option (Option OutcomeUse × List Token)
  named x = Some (Some (used x.0), x.1)

  -- what a use makes of the outcomes
  abbrev taken : Option OutcomeUse × List Token → Stepped
  taken x = with_outcome outcomes x.0 >>= λ more. Some (more, x.1)

  -- the same of the payoffs
  abbrev stepped : Option (List ℚ) × List Token → Stepped
  stepped x = taken (Some (used x.0), x.1)

  -- a step by the payoffs that may come
  step_by_payoffs : (players : ℕ) (tokens following : List Token) → (name, following) ≡ optional_text_at tokens → named_part_at players label outcomes tokens ≡ (optional_at (payoff_list_at players) following >>= stepped)
  unfolding named_part_at named_outcome_at
  step_by_payoffs players tokens following e = rw (← e) (through (optional_at (payoff_list_at players) following))
    where
      through : (o : Option (Option (List ℚ) × List Token)) → ((o >>= named) >>= taken) ≡ (o >>= stepped)
      through None = refl
      through (Some x) = refl

  -- ---- a first use
  -- the outcomes with a new one
  abbrev pub partial : List ℚ × List Token → Stepped
  partial x = Some ((outcomes ++ record { label = label; name = name; payoffs = x.0 } ∷ [], Some place), x.1)

  module _ (none : slice_get outcomes place ≡ None) where
    -- a first use has payoffs
    first_bare : (rest : List Token) → stepped (None, rest) ≡ None
    first_bare rest = rw none refl

    -- with payoffs it begins an outcome
    first_partial : (o : Option (List ℚ × List Token)) → ((o >>= came) >>= stepped) ≡ (o >>= partial)
    first_partial None = refl
    first_partial (Some x) = rw none refl

    -- payoffs in braces come, or nothing is read
    first_step : (players : ℕ) (tokens : List Token) → (optional_at (payoff_list_at players) tokens >>= stepped) ≡ (payoff_list_at players tokens >>= partial)
    unfolding payoff_list_at
    first_step players (Left ∷ tokens) = first_partial (payoff_list_at players (Left ∷ tokens))
    first_step players tokens = first_bare tokens

  -- ---- a later use
  module _ (outcome : PartialOutcome) (known : slice_get outcomes place ≡ Some outcome) where
    -- the outcomes with the one that goes on
    abbrev gone_on : List Token → Stepped
    gone_on rest = Some ((slice_set outcomes place (used_outcome (used None) outcome), Some place), rest)

    -- the payoffs that are kept up
    abbrev kept_up : Option (List ℚ) × List Token → Option (List Token)
    kept_up x = if repeats_payoffs outcome.payoffs x.0 then Some x.1 else None

    -- the outcome goes on where the payoffs repeat the first
    later_taken : (x : Option (List ℚ) × List Token) → stepped x ≡ (kept_up x >>= gone_on)
    later_taken x = elim (cases_Bool (repeats_payoffs outcome.payoffs x.0)) [ inl e ↦ rw (known, e) refl | inr e ↦ rw (known, e) refl ]

    -- the same of the payoffs that may come
    later_step : (players : ℕ) (tokens : List Token) → (optional_at (payoff_list_at players) tokens >>= stepped) ≡ (later_payoffs_at players outcome.payoffs tokens >>= gone_on)
    unfolding later_payoffs_at
    later_step players tokens = by (optional_at (payoff_list_at players) tokens)
      where
        by : (o : Option (Option (List ℚ) × List Token)) → (o >>= stepped) ≡ ((o >>= kept_up) >>= gone_on)
        by None = refl
        by (Some x) = later_taken x

-- ---- what is read
module _ (players label : ℕ) (outcomes : List PartialOutcome) (name : Option (List ℕ)) (tokens following : List Token) (text : (name, following) ≡ optional_text_at tokens) where
  -- the place of the outcome
  abbrev own_place : ℕ
  own_place = outcome_place outcomes label

  -- a first use
  pub first_is : slice_get outcomes own_place ≡ None → named_part_at players label outcomes tokens ≡ (payoff_list_at players following >>= partial outcomes label name)
  first_is none = step_by_payoffs outcomes label name players tokens following text ∙ first_step outcomes label name none players following

  -- a later use
  pub later_is : (outcome : PartialOutcome) → slice_get outcomes own_place ≡ Some outcome → named_part_at players label outcomes tokens ≡ (later_payoffs_at players outcome.payoffs following >>= λ rest. Some ((slice_set outcomes own_place (record { label = outcome.label; name = option_or outcome.name name; payoffs = outcome.payoffs }), Some own_place), rest))
  later_is outcome known = step_by_payoffs outcomes label name players tokens following text ∙ later_step outcomes label name outcome known players following
