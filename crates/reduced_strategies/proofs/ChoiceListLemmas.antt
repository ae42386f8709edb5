-- What lists of choices give their sets: lists one after another, an exchanged choice, and all of a list.
use Rattle.std.proofs.Common.{ℕ, zero, suc, ◌<◌, ◌≡◌, inl, inr, List, [], ◌∷◌, ◌++◌, length, map, get_or, set, refl, sym, ap₂, subst, ◌∙◌, arith}
use Rattle.std.proofs.lemmas.Bool.{cases_eq}
use Rattle.game_theory.specs.Profiles.{IsProfile}
use Rattle.game_theory.proofs.OwnSetLemmas.{AreApart, IsAmong, among_at, map-among}
use Rattle.reduced_strategies.specs.Choices.{choice_at}
use Rattle.reduced_strategies.proofs.SetLemmas.{choice_at-first, choice_at-later}

-- a set of the first list
pub choice_at-left : (xs ys ps qs : List ℕ) (s : ℕ) → length ps ≡ length xs → IsAmong xs s → choice_at (xs ++ ys) (ps ++ qs) s ≡ choice_at xs ps s
choice_at-left [] ys ps qs s e h = absurd h
choice_at-left (x ∷ xs) ys [] qs s e h = absurd (omega (arith, e))
choice_at-left (x ∷ xs) ys (p ∷ ps) qs s e h = elim (cases_eq x s) [
  | inl same ↦ choice_at-first x p s (xs ++ ys) (ps ++ qs) same ∙ sym (choice_at-first x p s xs ps same)
  | inr other ↦
      let there : IsAmong xs s = elim h [ inl same ↦ absurd (other same) | inr later ↦ later ] in
      choice_at-later x p s (xs ++ ys) (ps ++ qs) other ∙ choice_at-left xs ys ps qs s (omega (arith, e)) there ∙ sym (choice_at-later x p s xs ps other)
]

-- a set that is not in the first list
pub choice_at-right : (xs ys ps qs : List ℕ) (s : ℕ) → length ps ≡ length xs → (IsAmong xs s → ⊥) → choice_at (xs ++ ys) (ps ++ qs) s ≡ choice_at ys qs s
choice_at-right [] ys [] qs s e absent = refl
choice_at-right [] ys (p ∷ ps) qs s e absent = absurd (omega (arith, e))
choice_at-right (x ∷ xs) ys [] qs s e absent = absurd (omega (arith, e))
choice_at-right (x ∷ xs) ys (p ∷ ps) qs s e absent =
    choice_at-later x p s (xs ++ ys) (ps ++ qs) (λ same. absent (inl same)) ∙ choice_at-right xs ys ps qs s (omega (arith, e)) (λ later. absent (inr later))

-- the set at a place whose choice is exchanged
pub choice_at-exchanged : (sets choices : List ℕ) (j a : ℕ) → length choices ≡ length sets → j < length sets → AreApart sets → choice_at sets (set choices j a) (get_or sets j 0) ≡ a
choice_at-exchanged [] choices j a e below apart = absurd (omega (arith, below))
choice_at-exchanged (x ∷ sets) [] j a e below apart = absurd (omega (arith, e))
choice_at-exchanged (x ∷ sets) (c ∷ choices) zero a e below apart = choice_at-first x a x sets choices refl
choice_at-exchanged (x ∷ sets) (c ∷ choices) (suc j) a e below apart =
    let inside : j < length sets = omega (arith, below) in
    let s = get_or sets j 0 in
    choice_at-later x c s sets (set choices j a) (λ same. apart.0 (subst (IsAmong sets) (sym same) (among_at sets j 0 inside))) ∙ choice_at-exchanged sets choices j a (omega (arith, e)) inside apart.1

-- any other set
pub choice_at-kept : (sets choices : List ℕ) (j a s : ℕ) → length choices ≡ length sets → j < length sets → (get_or sets j 0 ≡ s → ⊥) → choice_at sets (set choices j a) s ≡ choice_at sets choices s
choice_at-kept [] choices j a s e below other = absurd (omega (arith, below))
choice_at-kept (x ∷ sets) [] j a s e below other = absurd (omega (arith, e))
choice_at-kept (x ∷ sets) (c ∷ choices) zero a s e below other = choice_at-later x a s sets choices other ∙ sym (choice_at-later x c s sets choices other)
choice_at-kept (x ∷ sets) (c ∷ choices) (suc j) a s e below other = elim (cases_eq x s) [
  | inl same ↦ choice_at-first x c s sets (set choices j a) same ∙ sym (choice_at-first x c s sets choices same)
  | inr apart ↦ choice_at-later x c s sets (set choices j a) apart ∙ choice_at-kept sets choices j a s (omega (arith, e)) (omega (arith, below)) other ∙ sym (choice_at-later x c s sets choices apart)
]

-- a choice from a profile is one of the set's actions
pub choice_at-within : (f : ℕ → ℕ) (sets choices : List ℕ) (s : ℕ) → IsProfile (map f sets) choices → IsAmong sets s → choice_at sets choices s < f s
choice_at-within f [] choices s h among = absurd among
choice_at-within f (x ∷ sets) [] s h among = absurd h
choice_at-within f (x ∷ sets) (c ∷ choices) s h among = elim (cases_eq x s) [
  | inl same ↦ subst (λ v. v < f s) (sym (choice_at-first x c s sets choices same)) (subst (λ y. c < f y) same h.0)
  | inr other ↦
      let there : IsAmong sets s = elim among [ inl same ↦ absurd (other same) | inr later ↦ later ] in
      subst (λ v. v < f s) (sym (choice_at-later x c s sets choices other)) (choice_at-within f sets choices s h.1 there)
]

-- what a list gives its sets, set by set, is the list
pub map-choice_at : (sets choices : List ℕ) → AreApart sets → length choices ≡ length sets → map (choice_at sets choices) sets ≡ choices
map-choice_at [] [] a e = refl
map-choice_at [] (choice ∷ choices) a e = absurd (omega arith)
map-choice_at (set ∷ sets) [] a e = absurd (omega arith)
map-choice_at (set ∷ sets) (choice ∷ choices) a e =
    ap₂ (λ x xs. x ∷ xs) (choice_at-first set choice set sets choices refl) (map-among _ (choice_at sets choices) sets (λ s m. choice_at-later set choice s sets choices (λ q. a.0 (subst (IsAmong sets) (sym q) m))) ∙ map-choice_at sets choices a.1 (omega arith))
