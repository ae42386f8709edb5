-- The costs of cells, one after another.
use Rattle.std.proofs.Common.{ℕ, suc, ◌<◌, ◌≡◌, ◌+◌, List, [], ◌∷◌, ◌++◌, All, Result, length, take, drop, get_or, sym, ap, ◌∙◌, subst, append_assoc, add-one}
use Rattle.std.specs.Prelude.{IfOk, IfErr, OnOk, OnErr}
use Rattle.std.proofs.Math.Seq.{take-suc}
use Rattle.std.proofs.lemmas.Grind.{flat_map-append}
use Rattle.std.proofs.lemmas.List.Elements.{All-nil, All-cons, All-append}
use Rattle.rational.specs.Rational.{ℚ, ◌-ℚ◌, ◌*ℚ◌}
use Rattle.frac128.specs.Steps.{MulFits, SubFits, step_of, Step, IsFirstUnfit, StepsGive}
use Rattle.frac128.specs.declared.steps.Op.TheVariants.{Sub, Mul}
use Rattle.frac128.specs.FirstUnfit.{StepsFit, IsFirstUnfitOf}
use Rattle.frac128.proofs.FirstUnfitLemmas.{split_here}
use Rattle.frac128.proofs.StepRunLemmas.{one-fits, subtracted-gives, following-gives}
use Rattle.sequence_data.specs.declared.types.Cell.{Cell}
use Rattle.sequence_forms.specs.Prices.{cost_at}
use Rattle.lemke_pivot.specs.FormProblems.{PlayersCell, both_costs, cost_steps, steps_at}

-- ---- a cost
pub difference_gives : (most weight payoff part : ℚ) (r : Result ℚ Step) → part ≡ most *ℚ weight → MulFits most weight
    → IfOk r (λ v. v ≡ part -ℚ payoff) → OnOk r (SubFits part payoff) → IfErr r (λ e. e ≡ step_of Sub part payoff) → OnErr r (SubFits part payoff → ⊥)
    → StepsGive (cost_steps most weight payoff) (cost_at most weight payoff) r
difference_gives most weight payoff part r is product value fits step refused =
    following-gives (step_of Mul most weight ∷ []) (step_of Sub (most *ℚ weight) payoff ∷ []) (cost_at most weight payoff) r (one-fits (step_of Mul most weight) product)
    (subst (λ p. StepsGive (step_of Sub p payoff ∷ []) (p -ℚ payoff) r) is (subtracted-gives part payoff r value fits step refused))

-- ---- both players' costs
both_append : (xs ys : List Cell) → both_costs (xs ++ ys) ≡ both_costs xs ++ both_costs ys
both_append = flat_map-append (λ (c : Cell). record { player = 0; cell = c } ∷ record { player = 1; cell = c } ∷ [])

module _ (greatest_one greatest_two : ℚ) (cells : List Cell) (k : ℕ) (c : Cell) (l : k < length cells) (is : c ≡ get_or cells k c) where
  abbrev steps : PlayersCell → List Step
  steps = steps_at greatest_one greatest_two

  abbrev first : PlayersCell
  first = record { player = 0; cell = c }

  abbrev second : PlayersCell
  second = record { player = 1; cell = c }

  both_split : both_costs cells ≡ both_costs (take k cells) ++ first ∷ second ∷ both_costs (drop (suc k) cells)
  both_split = ap both_costs (split_here (λ (x : Cell). []) cells k c l is) ∙ both_append (take k cells) (c ∷ drop (suc k) cells)

  module _ (fit : All (StepsFit steps) (both_costs (take k cells))) where
    pub unfit_one : (e : Step) → IsFirstUnfit (cost_steps greatest_one c.weight c.one) e → IsFirstUnfitOf steps (both_costs cells) first e
    unfit_one e h = record { before = both_costs (take k cells); after = second ∷ both_costs (drop (suc k) cells); is_there = both_split; earlier_fit = fit; first_unfit = h }

    first_fits : StepsFit steps first → All (StepsFit steps) (both_costs (take k cells) ++ first ∷ [])
    first_fits h = All-append (StepsFit steps) (both_costs (take k cells)) (first ∷ []) fit (All-cons (StepsFit steps) first [] h (All-nil (StepsFit steps)))

    pub unfit_two : (e : Step) → StepsFit steps first → IsFirstUnfit (cost_steps greatest_two c.weight c.two) e → IsFirstUnfitOf steps (both_costs cells) second e
    unfit_two e h g =
        record {
          before = both_costs (take k cells) ++ first ∷ [];
          after = both_costs (drop (suc k) cells);
          is_there = both_split ∙ sym (append_assoc (both_costs (take k cells)) (first ∷ []) (second ∷ both_costs (drop (suc k) cells)));
          earlier_fit = first_fits h;
          first_unfit = g;
        }

    taken : both_costs (take (k + 1) cells) ≡ (both_costs (take k cells) ++ first ∷ []) ++ second ∷ []
    taken =
        ap (λ n. both_costs (take n cells)) (add-one k) ∙ ap both_costs (take-suc cells k c l ∙ ap (λ y. take k cells ++ y ∷ []) (sym is)) ∙ both_append (take k cells) (c ∷ [])
        ∙ sym (append_assoc (both_costs (take k cells)) (first ∷ []) (second ∷ []))

    pub both_fit : StepsFit steps first → StepsFit steps second → All (StepsFit steps) (both_costs (take (k + 1) cells))
    both_fit h g =
        subst (All (StepsFit steps)) (sym taken) (All-append (StepsFit steps) (both_costs (take k cells) ++ first ∷ []) (second ∷ []) (first_fits h) (All-cons (StepsFit steps) second [] g (All-nil (StepsFit steps))))
