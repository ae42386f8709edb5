-- Elements of least rank, and lists of one element of each number: that there are such cannot be denied.
use Rattle.std.proofs.Common.{ℕ, suc, ◌+◌, ◌<◌, ◌≤◌, ◌≡◌, inl, inr, refl, sym, ap₂, ◌∙◌, subst, arith, List, [], ◌∷◌, map}
use Rattle.std.specs.List.{Contains}
use Rattle.std.specs.List.Sorted.{IsStrictlyIncreasing}
use Rattle.std.proofs.lemmas.Bool.{cases_lt}
use Rattle.lists.proofs.DeniedLemmas.{all_or_first_below, listed_below}
use Rattle.lists.proofs.ElementLemmas.{first_in, rest_in, in_cases}

-- of those that pass some one has the least rank
pub least_one : {X : Type 0} (rank : X → ℕ) (C : X → Type 0) (x : X) → C x → ¬ ¬ ((y : X) × C y × ((z : X) → C z → rank y ≤ rank z))
least_one {X} rank C x c none =
    all_or_first_below (λ k. (z : X) → C z → rank z ≡ k → ⊥) (suc (rank x)) (λ found. elim found [
      | inl all ↦ all (rank x) (omega arith) x c refl
      | inr first ↦ first.2 (λ z d e. none (
        z,
        d,
        λ w passes. elim (cases_lt (rank w) (rank z)) [
          | inl l ↦ absurd (first.3 (rank w) (subst (λ k. rank w < k) e l) w passes refl)
          | inr g ↦ g
        ],
      ))
    ])

module _ {X : Type 0} (f : X → ℕ) (B C : X → Type 0) where
  -- one element of the second kind for each number that the first kind has, in ascending order
  pub record AreOneOfEach (xs : List X) : Type 0 where
    pub each : (x : X) → Contains xs x → C x
    pub ascending : IsStrictlyIncreasing (map f xs)
    pub all : (x : X) → B x → Contains (map f xs) (f x)

  -- one element for each of these numbers
  chosen : (vs : List ℕ) → ((v : ℕ) → Contains vs v → ¬ ¬ ((x : X) × C x × (f x ≡ v))) → ¬ ¬ ((xs : List X) × ((x : X) → Contains xs x → C x) × (map f xs ≡ vs))
  chosen [] some none = none ([], (λ x c. absurd (omega (arith, c.1))), refl)
  chosen (v ∷ vs) some none =
      some v (first_in v vs) (λ here. chosen vs (λ w c. some w (rest_in v w vs c)) (λ rest.
      none (here.0 ∷ rest.0, (λ x c. elim (in_cases here.0 x rest.0 c) [ inl e ↦ subst C e here.1 | inr later ↦ rest.1 x later ]), ap₂ (λ y ys. y ∷ ys) here.2 rest.2)))

  -- there is such a list, where each of the first kind has one of the second with its number
  pub one_of_each : (n : ℕ) → ((x : X) → B x → f x < n) → ((x : X) → B x → ¬ ¬ ((y : X) × C y × (f y ≡ f x))) → ¬ ¬ ((xs : List X) × AreOneOfEach xs)
  one_of_each n below best none =
      listed_below (λ v. (x : X) × B x × (f x ≡ v)) n (λ listed.
      chosen listed.0 (λ v c. let of = (listed.1.sound v c).1 in λ denied. best of.0 of.1 (λ y. denied (y.0, y.1, y.2 ∙ of.2))) (λ xs.
      none (
        xs.0,
        record {
          each = xs.1;
          ascending = subst IsStrictlyIncreasing (sym xs.2) listed.1.ascending;
          all = λ x b. subst (λ vs. Contains vs (f x)) (sym xs.2) (listed.1.complete (f x) (below x b, (x, b, refl)));
        },
      )))

-- finitely many numbers have a bound
pub some_bound : {X : Type 0} (f : X → ℕ) (xs : List X) → (n : ℕ) × ((x : X) → Contains xs x → f x < n)
some_bound f [] = (0, λ x c. absurd (omega (arith, c.1)))
some_bound f (x ∷ xs) =
    let rest = some_bound f xs in
    (suc (f x) + rest.0, λ y c. elim (in_cases x y xs c) [ inl e ↦ subst (λ z. f z < suc (f x) + rest.0) e (omega arith) | inr later ↦ omega (arith, rest.1 y later) ])
