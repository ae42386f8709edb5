-- The least of payoffs, one payoff at a time.
use Rattle.std.proofs.Common.{ℕ, ◌+◌, ◌<◌, ◌≡◌, inl, inr, Any, List, [], ◌∷◌, ◌++◌, length, map, refl, sym, ap, ◌∙◌, subst, arith}
use Rattle.std.specs.List.{range_with_len}
use Rattle.std.proofs.lemmas.List.{get_or_append_left, get_or_push, length_push}
use Rattle.std.proofs.lemmas.List.Elements.{All-cons, All-nil, All-push, All-weaker}
use Rattle.std.proofs.lemmas.List.FromFn.{get_or-map-range_with_len, length-map-range_with_len, map-range_with_len_more}
use Rattle.rational.specs.Rational.{ℚ, ◌≤ℚ◌}
use Rattle.rational.specs.Extremes.{IsLeast, IsLesser}
use Rattle.rational.proofs.Field.{le_refl, le_trans}
use Rattle.game_theory.specs.Profiles.{Game, profile_count}
use Rattle.reply_polytope.specs.Shifts.{payoffs_of}

-- ---- a further number
module _ (xs : List ℚ) (x y v : ℚ) (h : IsLeast xs x) (l : IsLesser x y v) where
  old-one : Any (λ z. z ≡ x) (xs ++ y ∷ [])
  old-one = (h.is_one.0, h.is_one.1, omega (arith, h.is_one.2, length_push xs y), get_or_append_left xs (y ∷ []) h.is_one.1 h.is_one.0 h.is_one.2 ∙ h.is_one.3, h.is_one.4)

  new-one : Any (λ z. z ≡ y) (xs ++ y ∷ [])
  new-one = (length xs, y, omega (arith, length_push xs y), get_or_push xs y y (length xs) refl, refl)

  -- the lesser of it and the least is the least
  lesser-last : IsLeast (xs ++ y ∷ []) v
  lesser-last =
      record {
        is_one = elim l.is_one [ inl e ↦ subst (λ u. Any (λ z. z ≡ u) (xs ++ y ∷ [])) (sym e) old-one | inr e ↦ subst (λ u. Any (λ z. z ≡ u) (xs ++ y ∷ [])) (sym e) new-one ];
        least = All-push (λ z. v ≤ℚ z) xs y (All-weaker (λ z. x ≤ℚ z) (λ z. v ≤ℚ z) (λ z b. le_trans v x z l.left b) xs h.least) l.right;
      }

-- ---- the first n payoffs
-- one number is the least of one
pub least_of_one : (u : ℕ → ℚ) (x : ℚ) → x ≡ u 0 → IsLeast (map u (range_with_len 0 1)) x
least_of_one u x e =
    record { is_one = (0, u 0, omega arith, refl, sym e); least = All-cons (λ z. x ≤ℚ z) (u 0) [] (subst (λ y. x ≤ℚ y) e (le_refl x)) (All-nil (λ z. x ≤ℚ z)) }

pub least_more : (n : ℕ) (u : ℕ → ℚ) (x y v : ℚ) → IsLeast (map u (range_with_len 0 n)) x → y ≡ u n → IsLesser x y v → IsLeast (map u (range_with_len 0 (n + 1))) v
least_more n u x y v h e l =
    let one_more : map u (range_with_len 0 n) ++ y ∷ [] ≡ map u (range_with_len 0 (n + 1)) = ap (λ z. map u (range_with_len 0 n) ++ z ∷ []) e ∙ sym (map-range_with_len_more u 0 n n (omega arith)) in
    subst (λ xs. IsLeast xs v) one_more (lesser-last (map u (range_with_len 0 n)) x y v h l)

-- ---- the payoffs of a player
module _ (g : Game) (i : ℕ) where
  -- the least is below each
  pub least_below : (x : ℚ) → IsLeast (payoffs_of g i) x → (k : ℕ) → k < profile_count g.strategies → x ≤ℚ g.pays i k
  least_below x h k l =
      subst (λ y. x ≤ℚ y) (get_or-map-range_with_len (g.pays i) 0 (profile_count g.strategies) k k x l (omega arith))
      (h.least k x (omega (arith, l, length-map-range_with_len (g.pays i) 0 (profile_count g.strategies))))
