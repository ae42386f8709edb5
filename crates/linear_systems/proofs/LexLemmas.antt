-- the lexicographic order: sums, multiples, transitivity, comparison, and the step of a pivot
use Rattle.std.proofs.Common.{ℕ, pos, suc, zero, ◌<◌, ◌≡◌, refl, sym, ap, ap₂, ◌∙◌, subst, [], ◌∷◌, arith, ◌⊎◌, inl, inr, eq-or-lt_of_le, le_of_suc-le-suc}
use Rattle.std.proofs.lemmas.Int.{ints}
use Rattle.std.proofs.lemmas.Bool.{cases_order}
use Rattle.rational.proofs.InverseLemmas.{ne_zero_of_pos, inv_pos}
use Rattle.rational.specs.Rational.{ℚ, ◌+ℚ◌, ◌*ℚ◌, ◌-ℚ◌, neg_ℚ, inv_ℚ, zero_ℚ, ◌≤ℚ◌, ◌<ℚ◌}
use Rattle.rational.proofs.RationalRing.{rational_ring}
use Rattle.rational.proofs.Ring.{ring, combine, ◌times◌is◌, num, ◌:+◌, ◌:*◌, ◌:-◌, :neg, A, B, C, D, E}
use Rattle.rational.proofs.Linear.{linear, minus, at, lit, ◌⟨+⟩◌, ◌⟨-⟩◌, ◌⟨<⟩◌, ◌⟨=⟩◌}
use Rattle.rational.proofs.Field.{lt_irrefl, le_or_lt, pos-mul, *ℚ-inv, eq_or_lt_of_le}
use Rattle.linear_systems.specs.Lex.{IsLexPositive, IsLexLess}

pub lex_same : (n : ℕ) (f g : ℕ → ℚ) → ((j : ℕ) → j < n → f j ≡ g j) → IsLexPositive n f → IsLexPositive n g
lex_same n f g e p =
    record {
      place = p.place;
      within = p.within;
      before = λ j h. sym (e j (let w : p.place < n = p.within in omega arith)) ∙ p.before j h;
      above = subst (λ x. zero_ℚ <ℚ x) (e p.place p.within) p.above;
    }

pub lex_scale : (n : ℕ) (c : ℚ) (f : ℕ → ℚ) → zero_ℚ <ℚ c → IsLexPositive n f → IsLexPositive n (λ j. c *ℚ f j)
lex_scale n c f h p =
    record {
      place = p.place;
      within = p.within;
      before = λ j k. ap (λ x. c *ℚ x) (p.before j k) ∙ ring rational_ring (c ∷ []) (A :* num 0) (num 0) refl;
      above = pos-mul c (f p.place) h p.above;
    }

pub lex_add : (n : ℕ) (f g : ℕ → ℚ) → IsLexPositive n f → IsLexPositive n g → IsLexPositive n (λ j. f j +ℚ g j)
lex_add n f g p q = go (cases_order p.place q.place)
  where
    zeros : (j : ℕ) → j < p.place → j < q.place → f j +ℚ g j ≡ zero_ℚ
    zeros j a b = ap₂ (λ x y. x +ℚ y) (p.before j a) (q.before j b) ∙ ring rational_ring [] (num 0 :+ num 0) (num 0) refl

    go : (p.place ≡ q.place) ⊎ ((p.place < q.place) ⊎ (q.place < p.place)) → IsLexPositive n (λ j. f j +ℚ g j)
    go (inl e) =
        record {
          place = p.place;
          within = p.within;
          before = λ j k. zeros j k (omega arith);
          above = linear (f p.place ∷ g p.place ∷ []) ((lit (pos 0) ⟨<⟩ at 0) ∷ (lit (pos 0) ⟨<⟩ at 1) ∷ []) (lit (pos 0) ⟨<⟩ (at 0 ⟨+⟩ at 1)) (λ one z u v. omega (arith, ints)) (p.above, (subst (λ x. zero_ℚ <ℚ g x) (sym e) q.above, tt));
        }
    go (inr (inl l)) =
        record {
          place = p.place;
          within = p.within;
          before = λ j k. zeros j k (omega arith);
          above = linear (f p.place ∷ g p.place ∷ []) ((lit (pos 0) ⟨<⟩ at 0) ∷ (at 1 ⟨=⟩ lit (pos 0)) ∷ []) (lit (pos 0) ⟨<⟩ (at 0 ⟨+⟩ at 1)) (λ one z u v. omega (arith, ints)) (p.above, (q.before p.place l, tt));
        }
    go (inr (inr l)) =
        record {
          place = q.place;
          within = q.within;
          before = λ j k. zeros j (omega arith) k;
          above = linear (f q.place ∷ g q.place ∷ []) ((at 0 ⟨=⟩ lit (pos 0)) ∷ (lit (pos 0) ⟨<⟩ at 1) ∷ []) (lit (pos 0) ⟨<⟩ (at 0 ⟨+⟩ at 1)) (λ one z u v. omega (arith, ints)) (p.before q.place l, (q.above, tt));
        }

-- the key of another row after the pivot
pub lex_kept : (n : ℕ) (a b : ℚ) (f g : ℕ → ℚ) → zero_ℚ <ℚ a → IsLexPositive n f → IsLexPositive n g → (zero_ℚ <ℚ b → IsLexPositive n (λ j. (g j *ℚ inv_ℚ b) -ℚ (f j *ℚ inv_ℚ a))) → IsLexPositive n (λ j. g j -ℚ (b *ℚ (f j *ℚ inv_ℚ a)))
lex_kept n a b f g h p q r = go (le_or_lt b zero_ℚ)
  where
    scaled : IsLexPositive n (λ j. inv_ℚ a *ℚ f j)
    scaled = lex_scale n (inv_ℚ a) f (inv_pos a h) p

    level : (b ≡ zero_ℚ) ⊎ (b <ℚ zero_ℚ) → IsLexPositive n (λ j. g j -ℚ (b *ℚ (f j *ℚ inv_ℚ a)))
    level (inl e) =
        lex_same n g _ (λ j _. ring rational_ring (g j ∷ f j ∷ inv_ℚ a ∷ []) A (A :- num 0 :* (B :* C)) refl ∙ ap (λ x. g j -ℚ (x *ℚ (f j *ℚ inv_ℚ a))) (sym e)) q
    level (inr l) =
        lex_same n (λ j. g j +ℚ (neg_ℚ b *ℚ (inv_ℚ a *ℚ f j))) _ (λ j _. ring rational_ring (g j ∷ b ∷ f j ∷ inv_ℚ a ∷ []) (A :+ :neg B :* (D :* C)) (A :- B :* (C :* D)) refl)
        (lex_add n g (λ j. neg_ℚ b *ℚ (inv_ℚ a *ℚ f j)) q (lex_scale n (neg_ℚ b) (λ j. inv_ℚ a *ℚ f j) (linear (b ∷ []) ((at 0 ⟨<⟩ lit (pos 0)) ∷ []) (lit (pos 0) ⟨<⟩ minus (at 0)) (λ one z u v. omega (arith, ints)) (l, tt)) scaled))

    go : (b ≤ℚ zero_ℚ) ⊎ (zero_ℚ <ℚ b) → IsLexPositive n (λ j. g j -ℚ (b *ℚ (f j *ℚ inv_ℚ a)))
    go (inl l) = level (eq_or_lt_of_le b zero_ℚ l)
    go (inr l) =
        lex_same n (λ j. b *ℚ ((g j *ℚ inv_ℚ b) -ℚ (f j *ℚ inv_ℚ a))) _ (λ j _. combine rational_ring (g j ∷ b ∷ f j ∷ inv_ℚ a ∷ inv_ℚ b ∷ []) ((A times B :* E is num 1) ∷ []) (B :* (A :* E :- C :* D)) (A :- B :* (C :* D)) refl (*ℚ-inv b (ne_zero_of_pos b l), tt)) (lex_scale n b _ l (r l))

-- ---- as an order
pub less_trans : (n : ℕ) (f g h : ℕ → ℚ) → IsLexLess n f g → IsLexLess n g h → IsLexLess n f h
less_trans n f g h p q =
    record { by = lex_same n (λ j. (g j -ℚ f j) +ℚ (h j -ℚ g j)) _ (λ j _. ring rational_ring (f j ∷ g j ∷ h j ∷ []) (B :- A :+ (C :- B)) (C :- A) refl) (lex_add n _ _ p.by q.by) }

pub less_apart : (n : ℕ) (f g : ℕ → ℚ) → IsLexLess n f g → ((j : ℕ) → j < n → f j ≡ g j) → ⊥
less_apart n f g p e =
    lt_irrefl zero_ℚ (linear (f p.by.place ∷ g p.by.place ∷ []) ((lit (pos 0) ⟨<⟩ (at 1 ⟨-⟩ at 0)) ∷ (at 0 ⟨=⟩ at 1) ∷ []) (lit (pos 0) ⟨<⟩ lit (pos 0)) (λ one z u v. omega (arith, ints)) (p.by.above, (e p.by.place p.by.within, tt)))

-- one of three: less, equal in every entry, or greater
pub compare : (n : ℕ) (f g : ℕ → ℚ) → IsLexLess n f g ⊎ (((j : ℕ) → j < n → f j ≡ g j) ⊎ IsLexLess n g f)
compare zero f g = inr (inl (λ j h. absurd (omega arith)))
compare (suc n) f g = go (compare n f g)
  where
    more : (f g : ℕ → ℚ) → IsLexLess n f g → IsLexLess (suc n) f g
    more f g p = record { by = record { place = p.by.place; within = (let w : p.by.place < n = p.by.within in omega arith); before = p.by.before; above = p.by.above } }

    at_end : (f g : ℕ → ℚ) → ((j : ℕ) → j < n → f j ≡ g j) → f n <ℚ g n → IsLexLess (suc n) f g
    at_end f g e l =
        record {
          by = record {
            place = n;
            within = omega arith;
            before = λ j h. ap (λ x. g j -ℚ x) (e j h) ∙ ring rational_ring (g j ∷ []) (A :- A) (num 0) refl;
            above = linear (f n ∷ g n ∷ []) ((at 0 ⟨<⟩ at 1) ∷ []) (lit (pos 0) ⟨<⟩ (at 1 ⟨-⟩ at 0)) (λ one z u v. omega (arith, ints)) (l, tt);
          };
        }

    last : ((j : ℕ) → j < n → f j ≡ g j) → f n ≡ g n → (j : ℕ) → j < suc n → f j ≡ g j
    last e l j h = elim (eq-or-lt_of_le (le_of_suc-le-suc h)) [ inl q ↦ subst (λ k. f k ≡ g k) (sym q) l | inr q ↦ e j q ]

    tie : ((j : ℕ) → j < n → f j ≡ g j) → (f n ≤ℚ g n) ⊎ (g n <ℚ f n) → IsLexLess (suc n) f g ⊎ (((j : ℕ) → j < suc n → f j ≡ g j) ⊎ IsLexLess (suc n) g f)
    tie e (inl l) = elim (eq_or_lt_of_le (f n) (g n) l) [ inl q ↦ inr (inl (last e q)) | inr q ↦ inl (at_end f g e q) ]
    tie e (inr l) = inr (inr (at_end g f (λ j h. sym (e j h)) l))

    go : IsLexLess n f g ⊎ (((j : ℕ) → j < n → f j ≡ g j) ⊎ IsLexLess n g f) → IsLexLess (suc n) f g ⊎ (((j : ℕ) → j < suc n → f j ≡ g j) ⊎ IsLexLess (suc n) g f)
    go (inl p) = inl (more f g p)
    go (inr (inr p)) = inr (inr (more g f p))
    go (inr (inl e)) = tie e (le_or_lt (f n) (g n))
