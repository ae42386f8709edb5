-- tableaux that agree wherever they have cells have the same basis
use Rattle.std.proofs.Common.{ℕ, zero, suc, ◌+◌, ◌<◌, ◌≡◌, eqb, Bool, ◌||◌, refl, ap, ap₂, ◌∙◌, subst, arith}
use Rattle.std.specs.List.{list_any, range_with_len}
use Rattle.linear_systems.specs.Tableau.{Tableau}
use Rattle.linear_systems.specs.Rows.{Alike}
use Rattle.lemke_pivot.specs.Values.{is_basic}

any-same : (a n : ℕ) (f g : ℕ → Bool) → ((i : ℕ) → i < a + n → f i ≡ g i) → list_any f (range_with_len a n) ≡ list_any g (range_with_len a n)
any-same a zero f g h = refl
any-same a (suc n) f g h = ap₂ (λ x y. x || y) (h a (omega arith)) (any-same (a + 1) n f g (λ i k. h i (omega arith)))

module _ (t s : Tableau) (a : Alike t s) where
  pub into_width : (j : ℕ) → j < t.width → j < s.width
  into_width j h = subst (λ n. j < n) a.width h

  pub alike_basic : (v : ℕ) → is_basic t v ≡ is_basic s v
  alike_basic v = any-same 0 t.rows _ (λ i. eqb (s.basic i) v) (λ i h. ap (λ u. eqb u v) (a.basic i (omega arith))) ∙ ap (λ n. list_any (λ i. eqb (s.basic i) v) (range_with_len 0 n)) a.rows
