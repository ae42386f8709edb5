-- What is read as an outcome is one, and outcomes are read.
use Rattle.std.proofs.Common.{◌≡◌, ℕ, ◌≤◌, false, List, [], ◌∷◌, ◌++◌, length, Option, Some, None, inl, inr, nat_eq, refl, sym, ap, ◌∙◌, subst, append_assoc}
use Rattle.std.proofs.lemmas.Bool.Decides.{Decides-eqb}
use Rattle.rational.specs.Rational.{ℚ}
use Rattle.file_parts.specs.Parts.{whole_number, AreNumbers, optional_text}
use Rattle.file_parts.specs.Reading.{opening_brace_at, closing_brace_at, whole_at, optional_text_at, opens}
use Rattle.file_parts.proofs.ValueLemmas.{payoffs_at}
use Rattle.file_parts.proofs.TokenLaws.{opening_brace_is, closing_brace_is, whole_is, whole_again, optional_text_is}
use Rattle.file_parts.proofs.NumberLaws.{payoffs_are, payoffs_again}
use Rattle.written_trees.specs.Written.{OutcomeUse}
use Rattle.tree_grammar.specs.TreeFile.{ArePayoffs, IsOutcomePart}
use Rattle.tree_grammar.proofs.PartValueLemmas.{optional_at, payoff_list_at, named_outcome_at, outcome_use_at}
use Rattle.tree_grammar.proofs.SetLaws.{IsBare, optional_text_again, optional_is, optional_again, no_list_again}
use Rattle.std.proofs.lemmas.Option.{same_Some}
use Rattle.lists.proofs.NumberLemmas.{positive, not_zero}
use Rattle.lists.proofs.OptionLemmas.{bind_some, either}
use Rattle.game_core.specs.declared.token.Token.{Token}
use Rattle.game_core.specs.declared.token.Token.TheVariants.{Left, Right}

-- ---- payoffs in braces
-- payoffs in braces that may come come first
abbrev pub MayBeginWithPayoffs : ℕ → List Token → Option (List ℚ) × List Token → Type 0
MayBeginWithPayoffs players tokens x = (list : List Token) × ArePayoffs players list x.0 × (tokens ≡ list ++ x.1)

-- what is read as payoffs in braces is such
pub payoff_list_is : (players : ℕ) (tokens : List Token) (x : List ℚ × List Token) → payoff_list_at players tokens ≡ Some x → MayBeginWithPayoffs players tokens (Some x.0, x.1)
unfolding payoff_list_at
payoff_list_is players tokens x e =
    let a = bind_some (opening_brace_at tokens) _ x e in
    let b = bind_some (payoffs_at players a.0) _ x a.2 in
    let c = bind_some (closing_brace_at b.0.1) _ x b.2 in
    let p = payoffs_are players a.0 b.0 b.1 in
    let inner : a.0 ≡ (p.front ++ Right ∷ []) ++ c.0 = p.is ∙ ap (λ (r : List Token). p.front ++ r) (closing_brace_is b.0.1 c.0 c.1) ∙ sym (append_assoc p.front (Right ∷ []) c.0) in
    let all : tokens ≡ (Left ∷ p.front ++ Right ∷ []) ++ c.0 = opening_brace_is tokens a.0 a.1 ∙ ap (λ (r : List Token). Left ∷ r) inner in
    subst (λ (y : List ℚ × List Token). MayBeginWithPayoffs players tokens (Some y.0, y.1)) (same_Some _ _ c.2) (Left ∷ p.front ++ Right ∷ [], (p.front, refl, p.are_numbers, p.all), all)

-- payoffs in braces are read
pub payoff_list_again : (players : ℕ) (numbers rest : List Token) (payoffs : List ℚ) → AreNumbers numbers payoffs → length payoffs ≡ players → payoff_list_at players ((Left ∷ numbers ++ Right ∷ []) ++ rest) ≡ Some (payoffs, rest)
unfolding payoff_list_at
payoff_list_again players numbers rest payoffs are all =
    let read : payoffs_at players (numbers ++ (Right ∷ rest)) ≡ Some (payoffs, Right ∷ rest) = rw (← all) (payoffs_again numbers payoffs (Right ∷ rest) are) in
    rw (append_assoc numbers (Right ∷ []) rest, read) refl

-- what is read where payoffs may come
optional_payoffs_are : (players : ℕ) (tokens : List Token) (x : Option (List ℚ) × List Token) → optional_at (payoff_list_at players) tokens ≡ Some x → MayBeginWithPayoffs players tokens x
optional_payoffs_are players tokens x e = elim (optional_is (payoff_list_at players) tokens x e) [
  | inl a ↦ subst (MayBeginWithPayoffs players tokens) a.2 (payoff_list_is players tokens a.0 a.1)
  | inr n ↦ subst (MayBeginWithPayoffs players tokens) n ([], refl, refl)
]

-- payoffs that may come are read
optional_payoffs_again : (players : ℕ) (list rest : List Token) (payoffs : Option (List ℚ)) → ArePayoffs players list payoffs → opens rest ≡ false → optional_at (payoff_list_at players) (list ++ rest) ≡ Some (payoffs, rest)
optional_payoffs_again players list rest None h o = rw h (no_list_again (payoff_list_at players) rest o)
optional_payoffs_again players list rest (Some payoffs) h o =
    rw h.1 (optional_again (payoff_list_at players) ((Left ∷ h.0 ++ Right ∷ []) ++ rest) (payoffs, rest) refl (payoff_list_again players h.0 rest payoffs h.2 h.3))

-- payoffs that may come begin with no text
payoffs_bare : (players : ℕ) (list rest : List Token) (payoffs : Option (List ℚ)) → ArePayoffs players list payoffs → optional_text_at rest ≡ (None, rest) → optional_text_at (list ++ rest) ≡ (None, list ++ rest)
payoffs_bare players list rest None h e = rw h e
payoffs_bare players list rest (Some payoffs) h e = rw h.1 refl

-- ---- an outcome
-- an outcome comes first
abbrev pub BeginsWithOutcome : ℕ → List Token → Option OutcomeUse × List Token → Type 0
BeginsWithOutcome players tokens x = (part : List Token) × IsOutcomePart players part x.0 × (tokens ≡ part ++ x.1)

-- what is read after a positive number is an outcome
named_outcome_is : (players label : ℕ) (tokens : List Token) (x : Option OutcomeUse × List Token) → 1 ≤ label → named_outcome_at players label tokens ≡ Some x → BeginsWithOutcome players (whole_number label ∷ tokens) x
unfolding named_outcome_at
named_outcome_is players label tokens x some e =
    let following : List Token = (optional_text_at tokens).1 in
    let a = bind_some (optional_at (payoff_list_at players) following) _ x e in
    let p = optional_payoffs_are players following a.0 a.1 in
    let name : List Token = optional_text (optional_text_at tokens).0 in
    let after : tokens ≡ (name ++ p.0) ++ a.0.1 = optional_text_is tokens ∙ ap (λ (r : List Token). name ++ r) p.2 ∙ sym (append_assoc name p.0 a.0.1) in
    let part : List Token = whole_number label ∷ (name ++ p.0) in
    subst (BeginsWithOutcome players (whole_number label ∷ tokens)) (same_Some _ _ a.2) (part, (some, p.0, refl, p.1), ap (λ (r : List Token). whole_number label ∷ r) after)

-- what is read as an outcome is one
pub outcome_is : (players : ℕ) (tokens : List Token) (x : Option OutcomeUse × List Token) → outcome_use_at players tokens ≡ Some x → BeginsWithOutcome players tokens x
unfolding outcome_use_at
outcome_is players tokens x e =
    let a = bind_some (whole_at tokens) _ x e in
    let first : tokens ≡ whole_number a.0.0 ∷ a.0.1 = whole_is tokens a.0 a.1 in
    elim (either (nat_eq a.0.0 0) (Some (None, a.0.1)) (named_outcome_at players a.0.0 a.0.1) (Some x) a.2) [
      | inl p ↦
          let zero : a.0.0 ≡ 0 = (Decides-eqb a.0.0 0).0 p.0 in
          let all : tokens ≡ whole_number 0 ∷ a.0.1 = first ∙ ap (λ (n : ℕ). whole_number n ∷ a.0.1) zero in
          subst (BeginsWithOutcome players tokens) (same_Some _ _ p.1) (whole_number 0 ∷ [], refl, all)
      | inr p ↦ let o = named_outcome_is players a.0.0 a.0.1 x (positive a.0.0 p.0) p.1 in (o.0, o.1, first ∙ o.2)
    ]

-- what stands after a positive number is read
named_outcome_again : (players : ℕ) (list rest : List Token) (used : OutcomeUse) → ArePayoffs players list used.payoffs → IsBare rest → named_outcome_at players used.label (optional_text used.name ++ (list ++ rest)) ≡ Some (Some used, rest)
unfolding named_outcome_at
named_outcome_again players list rest used h bare =
    let text = optional_text_again used.name (list ++ rest) (payoffs_bare players list rest used.payoffs h bare.no_text) in
    rw (text, optional_payoffs_again players list rest used.payoffs h bare.no_list) refl

-- an outcome is read
pub outcome_again : (players : ℕ) (part rest : List Token) (used : Option OutcomeUse) → IsOutcomePart players part used → IsBare rest → outcome_use_at players (part ++ rest) ≡ Some (used, rest)
unfolding outcome_use_at
outcome_again players part rest None h bare = rw (h, whole_again 0 rest) refl
outcome_again players part rest (Some used) h bare =
    let list = h.1 in
    let name : List Token = optional_text used.name in
    let tokens : part ++ rest ≡ whole_number used.label ∷ (name ++ (list ++ rest)) = rw h.2 (ap (λ (r : List Token). whole_number used.label ∷ r) (append_assoc name list rest)) in
    let label = whole_again used.label (name ++ (list ++ rest)) in
    rw (tokens, label, not_zero used.label h.0) (named_outcome_again players list rest used h.3 bare)

-- an outcome begins with a number
pub outcome_bare : (players : ℕ) (part rest : List Token) (used : Option OutcomeUse) → IsOutcomePart players part used → IsBare (part ++ rest)
outcome_bare players part rest None h = rw h (record { no_text = refl; no_list = refl })
outcome_bare players part rest (Some used) h = rw h.2 (record { no_text = refl; no_list = refl })
