-- A player's own sets.
use Rattle.std.proofs.Common.{ℕ, zero, suc, ◌+◌, ◌<◌, ◌≤◌, ◌≡◌, ◌⊎◌, inl, inr, Bool, true, false, Decides, Option, Some, None, List, [], ◌∷◌, ◌++◌, length, map, get_or, refl, sym, ap, ap₂, subst, ◌∙◌, add-one, arith}
use Rattle.std.specs.Prelude.{◌==◌, if◌then◌else◌, filter}
use Rattle.std.specs.List.{range_with_len}
use Rattle.std.proofs.lemmas.Bool.{cases_eq, cases_Bool}
use Rattle.std.proofs.lemmas.Bool.Decides.{Decides-eqb, Decides-like}
use Rattle.game_theory.specs.Trees.{Tree}
use Rattle.game_theory.specs.Behaviour.{is_index, is_own}
use Rattle.game_theory.specs.OwnSets.{own_sets}

-- whether there is a number, and it is i
pub is_index-decides : (o : Option ℕ) (i : ℕ) → Decides (is_index o i) (o ≡ Some i)
is_index-decides None i = (λ e. cc, λ e. cc)
is_index-decides (Some j) i = Decides-like (j == i) (λ e. ap Some e) (λ e. cc) (Decides-eqb j i)

-- whether a set is player i's own
pub is_own-decides : (t : Tree) (i s : ℕ) → Decides (is_own t i s) (t.owner s ≡ Some i)
is_own-decides t i s = is_index-decides (t.owner s) i

-- what such a test answered tells of the owner
pub is_own-told : (t : Tree) (i s : ℕ) (b : Bool) → b ≡ is_own t i s → Decides b (t.owner s ≡ Some i)
is_own-told t i s b e = subst (λ x. Decides x (t.owner s ≡ Some i)) (sym e) (is_own-decides t i s)

-- s is one of the sets
abbrev pub IsAmong : List ℕ → ℕ → Type 0
IsAmong [] s = ⊥
IsAmong (set ∷ sets) s = (set ≡ s) ⊎ IsAmong sets s

-- one of the first sets is one of all
pub IsAmong-left : (xs ys : List ℕ) (s : ℕ) → IsAmong xs s → IsAmong (xs ++ ys) s
IsAmong-left [] ys s m = absurd m
IsAmong-left (x ∷ xs) ys s (inl e) = inl e
IsAmong-left (x ∷ xs) ys s (inr m) = inr (IsAmong-left xs ys s m)

-- so is one of the last
pub IsAmong-right : (xs ys : List ℕ) (s : ℕ) → IsAmong ys s → IsAmong (xs ++ ys) s
IsAmong-right [] ys s m = m
IsAmong-right (x ∷ xs) ys s m = inr (IsAmong-right xs ys s m)

-- one of all is one of the first or of the last
pub IsAmong-parts : (xs ys : List ℕ) (s : ℕ) → IsAmong (xs ++ ys) s → IsAmong xs s ⊎ IsAmong ys s
IsAmong-parts [] ys s m = inr m
IsAmong-parts (x ∷ xs) ys s (inl e) = inl (inl e)
IsAmong-parts (x ∷ xs) ys s (inr m) = elim (IsAmong-parts xs ys s m) [ inl a ↦ inl (inr a) | inr b ↦ inr b ]

-- what has an index is among the sets
pub among_at : (sets : List ℕ) (k d : ℕ) → k < length sets → IsAmong sets (get_or sets k d)
among_at [] k d below = absurd (omega (arith, below))
among_at (s ∷ sets) zero d below = inl refl
among_at (s ∷ sets) (suc k) d below = inr (among_at sets k d (omega (arith, below)))

-- the index of one of the sets
pub index_of : (sets : List ℕ) (s : ℕ) → IsAmong sets s → (j : ℕ) × (j < length sets) × (get_or sets j 0 ≡ s)
index_of [] s h = absurd h
index_of (x ∷ sets) s (inl same) = (0, omega arith, same)
index_of (x ∷ sets) s (inr later) = let found = index_of sets s later in (suc found.0, omega (arith, found.1), found.2)

-- two functions that agree at the elements of a list make the same of it
pub map-among : (f g : ℕ → ℕ) (xs : List ℕ) → ((x : ℕ) → IsAmong xs x → f x ≡ g x) → map f xs ≡ map g xs
map-among f g [] h = refl
map-among f g (x ∷ xs) h = ap₂ (λ y ys. y ∷ ys) (h x (inl refl)) (map-among f g xs (λ y among. h y (inr among)))

-- each set is n or later, and later than those before it
abbrev pub AscendFrom : ℕ → List ℕ → Type 0
AscendFrom n [] = Unit {0}
AscendFrom n (set ∷ sets) = (n ≤ set) × AscendFrom (suc set) sets

-- sets from n on are sets from an earlier number on
AscendFrom-earlier : (m n : ℕ) (sets : List ℕ) → m ≤ n → AscendFrom n sets → AscendFrom m sets
AscendFrom-earlier m n [] h o = tt
AscendFrom-earlier m n (set ∷ sets) h o = (omega (arith, o.0), o.1)

-- no set is below the first number
pub IsAmong-from : (n : ℕ) (sets : List ℕ) (s : ℕ) → AscendFrom n sets → IsAmong sets s → n ≤ s
IsAmong-from n [] s o h = absurd h
IsAmong-from n (set ∷ sets) s o (inl e) = omega (arith, o.0)
IsAmong-from n (set ∷ sets) s o (inr h) = omega (arith, o.0, IsAmong-from (suc set) sets s o.1 h)

-- ---- each set once
-- no set stands twice
abbrev pub AreApart : List ℕ → Type 0
AreApart [] = Unit {0}
AreApart (s ∷ sets) = (IsAmong sets s → ⊥) × AreApart sets

-- two lists without a common set
pub AreApart-append : (xs ys : List ℕ) → AreApart xs → AreApart ys → ((s : ℕ) → IsAmong xs s → IsAmong ys s → ⊥) → AreApart (xs ++ ys)
AreApart-append [] ys one other apart = other
AreApart-append (x ∷ xs) ys one other apart = (
  λ h. elim (IsAmong-parts xs ys x h) [ inl first ↦ one.0 first | inr last ↦ apart x (inl refl) last ],
  AreApart-append xs ys one.1 other (λ s first last. apart s (inr first) last),
)

-- ascending sets
pub AreApart-ascending : (n : ℕ) (sets : List ℕ) → AscendFrom n sets → AreApart sets
AreApart-ascending n [] h = tt
AreApart-ascending n (s ∷ sets) h = (λ again. absurd (omega (arith, IsAmong-from (suc s) sets s h.1 again)), AreApart-ascending (suc s) sets h.1)

-- each stands at one index
pub AreApart-index : (sets : List ℕ) → AreApart sets → (j k : ℕ) → j < length sets → k < length sets → get_or sets j 0 ≡ get_or sets k 0 → j ≡ k
AreApart-index [] apart j k at other same = absurd (omega (arith, at))
AreApart-index (s ∷ sets) apart zero zero at other same = refl
AreApart-index (s ∷ sets) apart zero (suc k) at other same = absurd (apart.0 (subst (IsAmong sets) (sym same) (among_at sets k 0 (omega (arith, other)))))
AreApart-index (s ∷ sets) apart (suc j) zero at other same = absurd (apart.0 (subst (IsAmong sets) same (among_at sets j 0 (omega (arith, at)))))
AreApart-index (s ∷ sets) apart (suc j) (suc k) at other same = ap suc (AreApart-index sets apart.1 j k (omega (arith, at)) (omega (arith, other)) same)

-- ---- numbers that a test picks
-- one of the numbers that passes the test is among those that do
filter-has : (p : ℕ → Bool) (numbers : List ℕ) (s : ℕ) → IsAmong numbers s → p s ≡ true → IsAmong (filter p numbers) s
filter-has p [] s h passes = absurd h
filter-has p (n ∷ numbers) s (inl e) passes = rw (ap p e ∙ passes) (inl e)
filter-has p (n ∷ numbers) s (inr h) passes = elim (cases_Bool (p n)) [
  | inl e ↦ rw e (inr (filter-has p numbers s h passes))
  | inr e ↦ rw e (filter-has p numbers s h passes)
]

-- no other is
filter-tells : (p : ℕ → Bool) (numbers : List ℕ) (s : ℕ) → IsAmong (filter p numbers) s → IsAmong numbers s × (p s ≡ true)
filter-tells p [] s h = absurd h
filter-tells p (n ∷ numbers) s h = go (p n) refl h (filter-tells p numbers s)
  where
    go : (b : Bool) → p n ≡ b → IsAmong (if b then n ∷ filter p numbers else filter p numbers) s → (IsAmong (filter p numbers) s → IsAmong numbers s × (p s ≡ true)) → IsAmong (n ∷ numbers) s × (p s ≡ true)
    go true passes (inl e) later = (inl e, ap p (sym e) ∙ passes)
    go true passes (inr found) later = (inr (later found).0, (later found).1)
    go false fails found later = (inr (later found).0, (later found).1)

-- they ascend as the numbers do
filter-ascends : (p : ℕ → Bool) (m : ℕ) (numbers : List ℕ) → AscendFrom m numbers → AscendFrom m (filter p numbers)
filter-ascends p m [] o = o
filter-ascends p m (n ∷ numbers) o =
    let rest = filter-ascends p (suc n) numbers o.1 in
    elim (cases_Bool (p n)) [ inl e ↦ rw e (o.0, rest) | inr e ↦ rw e (AscendFrom-earlier m (suc n) (filter p numbers) (omega (arith, o.0)) rest) ]

-- ---- numbers one after another
-- a number in the range is among them
range-has : (m n s : ℕ) → m ≤ s → s < m + n → IsAmong (range_with_len m n) s
range-has m zero s from below = absurd (omega (arith, from, below))
range-has m (suc n) s from below = elim (cases_eq m s) [ inl e ↦ inl e | inr e ↦ inr (range-has (m + 1) n s (omega arith) (omega arith)) ]

-- no other is
range-tells : (m n s : ℕ) → IsAmong (range_with_len m n) s → s < m + n
range-tells m zero s h = absurd h
range-tells m (suc n) s (inl e) = omega arith
range-tells m (suc n) s (inr h) = omega (arith, range-tells (m + 1) n s h)

-- they ascend
range-ascends : (m n : ℕ) → AscendFrom m (range_with_len m n)
range-ascends m zero = tt
range-ascends m (suc n) = (omega arith, subst (λ k. AscendFrom k (range_with_len (m + 1) n)) (add-one m) (range-ascends (m + 1) n))

-- ---- the own sets
-- an own set is one of the own sets
pub own_sets-has : (t : Tree) (i s : ℕ) → s < t.sets → t.owner s ≡ Some i → IsAmong (own_sets t i) s
own_sets-has t i s l o = filter-has (is_own t i) (range_with_len 0 t.sets) s (range-has 0 t.sets s (omega arith) (omega arith)) ((is_own-decides t i s).1 o)

-- one of the own sets is an own set
pub own_sets-tell : (t : Tree) (i s : ℕ) → IsAmong (own_sets t i) s → (s < t.sets) × (t.owner s ≡ Some i)
own_sets-tell t i s h =
    let found = filter-tells (is_own t i) (range_with_len 0 t.sets) s h in
    (omega (arith, range-tells 0 t.sets s found.0), (is_own-decides t i s).0 found.1)

-- the own sets ascend
pub own_sets-ascend : (t : Tree) (i : ℕ) → AscendFrom 0 (own_sets t i)
own_sets-ascend t i = filter-ascends (is_own t i) 0 (range_with_len 0 t.sets) (range-ascends 0 t.sets)
