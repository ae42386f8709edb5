-- The order of lists of numbers, where the first number counts most.
use Rattle.std.specs.Prelude.{ℕ, ◌<◌, ◌≡◌, ◌⊎◌, List, [], ◌∷◌}

-- the first list comes before the second: at the first place where they differ it has the smaller
-- number
abbrev pub ComesBefore : List ℕ → List ℕ → Type 0
ComesBefore (a ∷ rest) (b ∷ others) = (a < b) ⊎ ((a ≡ b) × ComesBefore rest others)
ComesBefore _ _ = ⊥

-- each list comes before the next, so that none stands twice
abbrev pub AreAscending : List (List ℕ) → Type 0
AreAscending [] = Unit {0}
AreAscending (a ∷ []) = Unit {0}
AreAscending (a ∷ b ∷ lists) = ComesBefore a b × AreAscending (b ∷ lists)
