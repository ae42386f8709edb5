-- The order of lines: a list in order is determined by its members.
use Rattle.std.proofs.Common.{zero, suc, ◌≡◌, ◌⊎◌, inl, inr, List, [], ◌∷◌, ◌++◌, length, get_or, All, Contains, refl, sym, ap₂, ◌∙◌, subst, arith}
use Rattle.std.specs.List.{AllPairs}
use Rattle.std.proofs.lemmas.List.Kept.{AllPairs-cons}
use Rattle.lists.proofs.ElementLemmas.{determined_by-members}
use Rattle.rational.specs.Rational.{ℚ, ◌<ℚ◌}
use Rattle.rational.proofs.Field.{le_or_lt, le_antisymm, lt_irrefl, lt_trans}
use Rattle.game_theory.specs.Profiles.{Game}
use Rattle.game_theory.specs.Lines.{StandsBefore, AreInOrder, ArePureEquilibria, IsPureEquilibriumLine}
use Rattle.game_theory.specs.Laws.{OneListOfPureEquilibria}

-- no line stands before itself
pub StandsBefore-irrefl : (x : List ℚ) → StandsBefore x x → ⊥
StandsBefore-irrefl [] h = h
StandsBefore-irrefl (a ∷ x) (inl l) = lt_irrefl a l
StandsBefore-irrefl (a ∷ x) (inr p) = StandsBefore-irrefl x p.1

-- a line before a second that is before a third stands before the third
pub StandsBefore-trans : (x y z : List ℚ) → StandsBefore x y → StandsBefore y z → StandsBefore x z
StandsBefore-trans [] y z h g = absurd h
StandsBefore-trans (a ∷ x) [] z h g = absurd h
StandsBefore-trans (a ∷ x) (b ∷ y) [] h g = absurd g
StandsBefore-trans (a ∷ x) (b ∷ y) (c ∷ z) (inl l) (inl k) = inl (lt_trans c b a k l)
StandsBefore-trans (a ∷ x) (b ∷ y) (c ∷ z) (inl l) (inr q) = inl (subst (λ v. v <ℚ a) q.0 l)
StandsBefore-trans (a ∷ x) (b ∷ y) (c ∷ z) (inr p) (inl k) = inl (subst (λ v. c <ℚ v) (sym p.0) k)
StandsBefore-trans (a ∷ x) (b ∷ y) (c ∷ z) (inr p) (inr q) = inr (p.0 ∙ q.0, StandsBefore-trans x y z p.1 q.1)

-- of two numbers one is less, or they are equal
order-cases : (a b : ℚ) → (a ≡ b) ⊎ ((a <ℚ b) ⊎ (b <ℚ a))
order-cases a b =
    elim (le_or_lt a b) [
      | inl l ↦ elim (le_or_lt b a) [ inl k ↦ inl (le_antisymm a b l k) | inr k ↦ inr (inl k) ]
      | inr k ↦ inr (inr k)
    ]

-- of two lines of one length one stands before the other, or they are equal
pub StandsBefore-cases : (x y : List ℚ) → length x ≡ length y → (x ≡ y) ⊎ (StandsBefore x y ⊎ StandsBefore y x)
StandsBefore-cases [] [] e = inl refl
StandsBefore-cases [] (b ∷ y) e = absurd (omega arith)
StandsBefore-cases (a ∷ x) [] e = absurd (omega arith)
StandsBefore-cases (a ∷ x) (b ∷ y) e = go (order-cases a b) (StandsBefore-cases x y (omega arith))
  where
    go : (a ≡ b) ⊎ ((a <ℚ b) ⊎ (b <ℚ a)) → (x ≡ y) ⊎ (StandsBefore x y ⊎ StandsBefore y x) → (a ∷ x ≡ b ∷ y) ⊎ (StandsBefore (a ∷ x) (b ∷ y) ⊎ StandsBefore (b ∷ y) (a ∷ x))
    go (inr (inl l)) c = inr (inr (inl l))
    go (inr (inr l)) c = inr (inl (inl l))
    go (inl d) (inl f) = inl (ap₂ (λ v w. v ∷ w) d f)
    go (inl d) (inr (inl k)) = inr (inl (inr (d, k)))
    go (inl d) (inr (inr k)) = inr (inr (inr (sym d, k)))

-- lines that begin alike
pub StandsBefore-append : (zs xs ys : List ℚ) → StandsBefore xs ys → StandsBefore (zs ++ xs) (zs ++ ys)
StandsBefore-append [] xs ys h = h
StandsBefore-append (z ∷ zs) xs ys h = inr (refl, StandsBefore-append zs xs ys h)

-- the lines after the first are in order
pub AreInOrder-rest : (x : List ℚ) (lines : List (List ℚ)) → AreInOrder (x ∷ lines) → AreInOrder lines
AreInOrder-rest x [] h = tt
AreInOrder-rest x (y ∷ lines) h = h.1

-- the first line stands before each later one
pub AreInOrder-first : (x : List ℚ) (lines : List (List ℚ)) → AreInOrder (x ∷ lines) → All (StandsBefore x) lines
AreInOrder-first x [] h k d l = absurd (omega arith)
AreInOrder-first x (y ∷ lines) h zero d l = h.0
AreInOrder-first x (y ∷ lines) h (suc k) d l = StandsBefore-trans x y (get_or lines k d) h.0 (AreInOrder-first y lines h.1 k d (omega arith))

-- a line after each of the others may be put at the end
pub AreInOrder-push : (lines : List (List ℚ)) (x : List ℚ) → AreInOrder lines → All (λ y. StandsBefore y x) lines → AreInOrder (lines ++ x ∷ [])
AreInOrder-push [] x o h = tt
AreInOrder-push (y ∷ []) x o h = (h 0 y (omega arith), tt)
AreInOrder-push (y ∷ z ∷ lines) x o h = (o.0, AreInOrder-push (z ∷ lines) x o.1 (λ k d l. h (suc k) d (omega arith)))

-- each line stands before all later ones
AllPairs-from_order : (lines : List (List ℚ)) → AreInOrder lines → AllPairs StandsBefore lines
AllPairs-from_order [] h = λ i j d l k. absurd (omega arith)
AllPairs-from_order (x ∷ lines) h = AllPairs-cons StandsBefore x lines (AreInOrder-first x lines h) (AllPairs-from_order lines (AreInOrder-rest x lines h))

-- two lists in order with the same members are equal
pub AreInOrder-determined : (a b : List (List ℚ)) → AreInOrder a → AreInOrder b → ((z : List ℚ) → Contains a z → Contains b z) → ((z : List ℚ) → Contains b z → Contains a z) → a ≡ b
AreInOrder-determined a b o p = determined_by-members StandsBefore a b (λ x y l k. StandsBefore-irrefl x (StandsBefore-trans x y x l k)) (AllPairs-from_order a o) (AllPairs-from_order b p)

-- each line of one list of pure equilibria stands in any other
pure_equilibria-within : (g : Game) (a b : List (List ℚ)) → ArePureEquilibria g a → ArePureEquilibria g b → (z : List ℚ) → Contains a z → Contains b z
pure_equilibria-within g a b p q z c =
    let w : IsPureEquilibriumLine g z = subst (IsPureEquilibriumLine g) c.2 (p.sound c.0 z c.1) in
    subst (λ v. Contains b v) (sym w.is_line) (q.complete w.profile w.is_profile w.is_equilibrium)

-- a game has one list of pure equilibria
pub pure_equilibria-determined : OneListOfPureEquilibria
pure_equilibria-determined g a b p q =
    AreInOrder-determined a b p.in_order q.in_order (pure_equilibria-within g a b p q) (pure_equilibria-within g b a q p)
