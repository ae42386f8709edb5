-- Sums of natural numbers, and the best replies that are counted in another order.
use Rattle.std.proofs.Common.{ℕ, zero, suc, ◌+◌, ◌*◌, ◌/◌, ◌%◌, ◌<◌, ◌≤◌, ◌≡◌, Bool, true, false, cond, List, [], ◌∷◌, length, take, refl, sym, ap, ap₂, ◌∙◌, arith, add-one, add-zero, add-suc, add_assoc, zero-mul}
use Rattle.std.specs.List.{count_by}
use Rattle.std.proofs.lemmas.List.{take_all}
use Rattle.std.proofs.lemmas.List.Sums.{count_by_more_yes, count_by_more_no}
use Rattle.std.proofs.lemmas.Nat.{div-mul-add, mod-mul-add}
use Rattle.game_theory.specs.Profiles.{profile_count, number_of}
use Rattle.game_theory.specs.Ranks.{ranked}
use Rattle.enumpure.specs.Replies.{plays_best}

-- f 0 + .. + f (n - 1)
abbrev pub total : ℕ → (ℕ → ℕ) → ℕ
total zero f = 0
total (suc n) f = total n f + f n

-- equal terms have equal sums
pub total-same : (n : ℕ) (f g : ℕ → ℕ) → ((i : ℕ) → i < n → f i ≡ g i) → total n f ≡ total n g
total-same zero f g h = refl
total-same (suc n) f g h = ap₂ (λ x y. x + y) (total-same n f g (λ i l. h i (omega arith))) (h n (omega arith))

-- terms that are all 0 sum to 0
total-zero : (n : ℕ) → total n (λ i. 0) ≡ 0
total-zero zero = refl
total-zero (suc n) = omega (arith, total-zero n)

-- a sum of sums
total-add : (n : ℕ) (f g : ℕ → ℕ) → total n (λ i. f i + g i) ≡ total n f + total n g
total-add zero f g = refl
total-add (suc n) f g = omega (arith, total-add n f g)

-- the order of two sums does not matter
pub total-exchange : (n m : ℕ) (f : ℕ → ℕ → ℕ) → total n (λ i. total m (λ j. f i j)) ≡ total m (λ j. total n (λ i. f i j))
total-exchange zero m f = sym (total-zero m)
total-exchange (suc n) m f = ap (λ v. v + total m (λ j. f n j)) (total-exchange n m f) ∙ sym (total-add m (λ j. total n (λ i. f i j)) (λ j. f n j))

-- a sum in two parts
total-append : (m n : ℕ) (f : ℕ → ℕ) → total (m + n) f ≡ total m f + total n (λ i. f (m + i))
total-append m zero f = omega (arith, ap (λ v. total v f) (add-zero m))
total-append m (suc n) f = ap (λ v. total v f) (add-suc m n) ∙ ap (λ v. v + f (m + n)) (total-append m n f) ∙ add_assoc (total m f) (total n (λ i. f (m + i))) (f (m + n))

-- a sum in n parts of p terms
pub total-parts : (n p : ℕ) (f : ℕ → ℕ) → total (n * p) f ≡ total n (λ a. total p (λ q. f (a * p + q)))
total-parts zero p f = ap (λ v. total v f) (zero-mul p)
total-parts (suc n) p f =
    let e : suc n * p ≡ n * p + p = omega arith in
    ap (λ v. total v f) e ∙ total-append (n * p) p f ∙ ap (λ v. v + total p (λ q. f (n * p + q))) (total-parts n p f)

-- a sum over the profiles by their ranks is the sum by their numbers
pub total-ranked : (ns : List ℕ) (f : ℕ → ℕ) → total (profile_count ns) (λ r. f (number_of ns (ranked ns r))) ≡ total (profile_count ns) f
total-ranked [] f = refl
total-ranked (n ∷ ns) f =
    total-parts n p (λ r. f (r / p + n * number_of ns (ranked ns (r % p)))) ∙ total-same n _ _ (λ a l. part a (total-ranked ns (λ k. f (a + n * k)))) ∙ total-exchange n p (λ a q. f (a + n * q)) ∙ total-same p _ _ (λ q l. total-same n (λ a. f (a + n * q)) (λ a. f (q * n + a)) (λ a b. ap f (omega arith))) ∙ sym (total-parts p n f) ∙ ap (λ v. total v f) (omega arith)
  where
    p : ℕ
    p = profile_count ns

    place : (a q : ℕ) → q < p → f ((a * p + q) / p + n * number_of ns (ranked ns ((a * p + q) % p))) ≡ f (a + n * number_of ns (ranked ns q))
    place a q l = ap₂ (λ x y. f (x + n * number_of ns (ranked ns y))) (div-mul-add a p q l) (mod-mul-add a p q l)

    part : (a : ℕ) → total p (λ q. f (a + n * number_of ns (ranked ns q))) ≡ total p (λ q. f (a + n * q)) → total p (λ q. f ((a * p + q) / p + n * number_of ns (ranked ns ((a * p + q) % p)))) ≡ total p (λ q. f (a + n * q))
    part a e = total-same p _ _ (λ q l. place a q l) ∙ e

-- a entry counts 1
abbrev pub one_if : Bool → ℕ
one_if b = cond b 1 0

-- the best replies that are counted so far
total-best_replies_so_far : (best_replies : List Bool) (i : ℕ) → i ≤ length best_replies → total i (λ k. one_if (plays_best best_replies k)) ≡ count_by (λ b. b) (take i best_replies)
total-best_replies_so_far best_replies zero h = refl
total-best_replies_so_far best_replies (suc i) h = go (total-best_replies_so_far best_replies i (omega arith)) (plays_best best_replies i) refl
  where
    go : total i (λ k. one_if (plays_best best_replies k)) ≡ count_by (λ b. b) (take i best_replies) → (b : Bool) → plays_best best_replies i ≡ b → total (suc i) (λ k. one_if (plays_best best_replies k)) ≡ count_by (λ b. b) (take (suc i) best_replies)
    go e true f = ap₂ (λ x y. x + one_if y) e f ∙ sym (count_by_more_yes (λ b. b) best_replies i false (omega arith) f) ∙ ap (λ v. count_by (λ b. b) (take v best_replies)) (add-one i)
    go e false f = ap₂ (λ x y. x + one_if y) e f ∙ add-zero (count_by (λ b. b) (take i best_replies)) ∙ sym (count_by_more_no (λ b. b) best_replies i false (omega arith) f) ∙ ap (λ v. count_by (λ b. b) (take v best_replies)) (add-one i)

-- all best replies are counted
pub total-best_replies : (best_replies : List Bool) → total (length best_replies) (λ k. one_if (plays_best best_replies k)) ≡ count_by (λ b. b) best_replies
total-best_replies best_replies = total-best_replies_so_far best_replies (length best_replies) (omega arith) ∙ ap (count_by (λ b. b)) (take_all (length best_replies) best_replies (omega arith))
