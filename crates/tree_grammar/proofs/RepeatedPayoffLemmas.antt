-- Payoffs of a later use are compared with the first when all are read, or one by one.
use Rattle.std.proofs.Common.{◌≡◌, ℕ, suc, inl, inr, if◌then◌else◌, List, [], ◌∷◌, length, Option, Some, None, refl, ◌∙◌}
use Rattle.std.proofs.lemmas.Bool.{cases_Bool}
use Rattle.std.specs.Cmp.Lexicographic.{pointwise}
use Rattle.rational.specs.Rational.{ℚ}
use Rattle.game_core.specs.declared.token.Token.{Token}
use Rattle.game_core.specs.declared.token.Token.TheVariants.{Left}
use Rattle.file_parts.specs.Reading.{opening_brace_at, closing_brace_at, payoff_at}
use Rattle.file_parts.proofs.ValueLemmas.{payoffs_at, repeat_at}
use Rattle.file_parts.proofs.TokenLaws.{opening_brace_is}
use Rattle.written_trees.specs.Building.{repeats_payoffs}
use Rattle.tree_grammar.proofs.PartValueLemmas.{payoff_list_at, payoffs_repeated_at, later_payoffs_at}
use Rattle.lists.specs.Options.{◌>>=◌}
use Rattle.lists.proofs.OptionLemmas.{bind_last}
use Rattle.rational.specs.Tests.{eq_ℚ}

-- the tokens after the brace that closes these payoffs, where they repeat the others
abbrev closed_repeating : List ℚ → List ℚ × List Token → Option (List Token)
closed_repeating payoffs x = closing_brace_at x.1 >>= λ rest. if pointwise eq_ℚ x.0 payoffs then Some rest else None

-- what is given up in any case
abbrev nothing : List Token → Option (List Token)
nothing rest = None

given_up : (o : Option (List Token)) → (o >>= nothing) ≡ None
given_up None = refl
given_up (Some rest) = refl

-- one more payoff in front
one_compared : (one own : ℚ) (payoffs : List ℚ) (reading : Option (List ℚ × List Token)) (repeated : Option (List Token)) → (reading >>= closed_repeating payoffs) ≡ (repeated >>= closing_brace_at)
    → ((reading >>= λ y. Some (one ∷ y.0, y.1)) >>= closed_repeating (own ∷ payoffs)) ≡ ((if eq_ℚ one own then repeated else None) >>= closing_brace_at)
one_compared one own payoffs None repeated h = elim (cases_Bool (eq_ℚ one own)) [ inl e ↦ rw e h | inr e ↦ rw e refl ]
one_compared one own payoffs (Some y) repeated h = elim (cases_Bool (eq_ℚ one own)) [ inl e ↦ rw e h | inr e ↦ rw e (given_up (closing_brace_at y.1)) ]

-- payoffs that are compared when all are read, or one by one
compared : (i : ℕ) (payoffs : List ℚ) (tokens : List Token) → (repeat_at payoff_at i (length payoffs) tokens >>= closed_repeating payoffs) ≡ (payoffs_repeated_at i payoffs tokens >>= closing_brace_at)
compared i [] tokens = bind_last (closing_brace_at tokens)
compared i (own ∷ payoffs) tokens = by (payoff_at i tokens) (compared (suc i) payoffs)
  where
    by : (next : Option (ℚ × List Token)) → ((after : List Token) → (repeat_at payoff_at (suc i) (length payoffs) after >>= closed_repeating payoffs) ≡ (payoffs_repeated_at (suc i) payoffs after >>= closing_brace_at))
        → ((next >>= λ x. repeat_at payoff_at (suc i) (length payoffs) x.1 >>= λ y. Some (x.0 ∷ y.0, y.1)) >>= closed_repeating (own ∷ payoffs)) ≡ ((next >>= λ x. if eq_ℚ x.0 own then payoffs_repeated_at (suc i) payoffs x.1 else None) >>= closing_brace_at)
    by None h = refl
    by (Some x) h = one_compared x.0 own payoffs (repeat_at payoff_at (suc i) (length payoffs) x.1) (payoffs_repeated_at (suc i) payoffs x.1) (h x.1)

-- payoffs in braces that came, and what is left after them
abbrev pub came : List ℚ × List Token → Option (Option (List ℚ) × List Token)
came x = Some (Some x.0, x.1)

abbrev after_brace : List ℚ → List Token → Option (List ℚ × List Token)
after_brace list rest = Some (list, rest)

-- payoffs that are compared after the brace, or at once
list_compared : (payoffs list : List ℚ) (o : Option (List Token)) → (((o >>= after_brace list) >>= came) >>= λ x. if repeats_payoffs payoffs x.0 then Some x.1 else None) ≡ (o >>= λ rest. if pointwise eq_ℚ list payoffs then Some rest else None)
list_compared payoffs list None = refl
list_compared payoffs list (Some rest) = refl

-- the same after the opening brace
opened_compared : (payoffs : List ℚ) (tokens : List Token) → later_payoffs_at (length payoffs) payoffs (Left ∷ tokens) ≡ (payoffs_at (length payoffs) tokens >>= closed_repeating payoffs)
unfolding later_payoffs_at payoff_list_at
opened_compared payoffs tokens = by (payoffs_at (length payoffs) tokens)
  where
    by : (reading : Option (List ℚ × List Token)) → (((reading >>= λ p. closing_brace_at p.1 >>= after_brace p.0) >>= came) >>= λ x. if repeats_payoffs payoffs x.0 then Some x.1 else None) ≡ (reading >>= closed_repeating payoffs)
    by None = refl
    by (Some p) = list_compared payoffs p.0 (closing_brace_at p.1)

-- later payoffs are those that repeat the first one by one
pub later_opened : (payoffs : List ℚ) (tokens inner : List Token) → opening_brace_at tokens ≡ Some inner → later_payoffs_at (length payoffs) payoffs tokens ≡ (payoffs_repeated_at 0 payoffs inner >>= closing_brace_at)
later_opened payoffs tokens inner opened = rw (opening_brace_is tokens inner opened) (opened_compared payoffs inner ∙ compared 0 payoffs inner)
