-- The two identities of a pivot, which hold for every valuation, and that a pivot keeps the solutions.
use Rattle.std.proofs.Common.{ℕ, ◌<◌, ◌≡◌, ◌≢◌, eqb, true, false, cond, refl, sym, ap, ap₂, ◌∙◌, subst, [], ◌∷◌, arith, ◌↔◌, tests, inl, inr}
use Rattle.rational.specs.Rational.{ℚ, ◌+ℚ◌, ◌*ℚ◌, ◌-ℚ◌, neg_ℚ, inv_ℚ, zero_ℚ}
use Rattle.std.proofs.lemmas.Bool.{cases_eq}
use Rattle.rational.specs.Sum.{sum_to, change}
use Rattle.linear_systems.specs.Rows.{Alike}
use Rattle.linear_systems.specs.Tableau.{Tableau, left, Solves, pivot}
use Rattle.rational.proofs.RationalRing.{rational_ring}
use Rattle.rational.proofs.Ring.{var, ◌times◌is◌, combine, ring, num, ◌:+◌, ◌:*◌, ◌:-◌, :neg, A, B, C, D, E, F, G, H}
use Rattle.rational.proofs.Field.{*ℚ-inv}
use Rattle.rational.proofs.SumLemmas.{sum_to-same, sum_to-add, sum_to-scale, sum_to-change}

-- a valuation read through changed nonbasic variables
read_change : (x : ℕ → ℚ) (f : ℕ → ℕ) (c b j : ℕ) → x (cond (eqb j c) b (f j)) ≡ change (λ j. x (f j)) c (x b) j
read_change x f c b j = elim (eqb j c) as (λ t. x (cond t b (f j)) ≡ cond t (x b) (x (f j))) [ true ↦ refl | false ↦ refl ]

-- the sum of a row whose cells are g but v in column c, over the variables after the pivot
new_sum : (t : Tableau) (x : ℕ → ℚ) (r c : ℕ) (g : ℕ → ℚ) (v : ℚ) → c < t.width → sum_to t.width (λ j. change g c v j *ℚ x ((pivot t r c).nonbasic j)) +ℚ (g c *ℚ x (t.nonbasic c)) ≡ sum_to t.width (λ j. g j *ℚ x (t.nonbasic j)) +ℚ (v *ℚ x (t.basic r))
new_sum t x r c g v h =
    ap (λ s. s +ℚ (g c *ℚ x (t.nonbasic c))) (sum_to-same t.width _ _ (λ j p. ap (λ y. change g c v j *ℚ y) (read_change x t.nonbasic c (t.basic r) j)))
    ∙ sum_to-change t.width c g (λ j. x (t.nonbasic j)) v (x (t.basic r)) h

pub eqb_same : (r : ℕ) → eqb r r ≡ true
eqb_same r = grind (arith, tests)

pub eqb_apart : (i r : ℕ) → i ≢ r → eqb i r ≡ false
eqb_apart i r h = grind (arith, tests)

-- the pivot's row is the old one divided by the entry
pub pivot_row : (t : Tableau) (x : ℕ → ℚ) (r c : ℕ) → c < t.width → t.cell r c ≢ zero_ℚ → left (pivot t r c) x r ≡ left t x r *ℚ inv_ℚ (t.cell r c)
unfolding left
pivot_row t x r c h ne = let q = inv_ℚ (t.cell r c) in let f = λ (j : ℕ). t.cell r j *ℚ q in let g = λ (j : ℕ). t.cell r j *ℚ x (t.nonbasic j) in
    let ρ = x (t.nonbasic c) ∷ sum_to t.width (λ j. change f c q j *ℚ x ((pivot t r c).nonbasic j)) ∷ x (t.basic r) ∷ sum_to t.width g ∷ q ∷ t.cell r c ∷ sum_to t.width (λ j. f j *ℚ x (t.nonbasic j)) ∷ [] in
    rw (eqb_same r) (combine rational_ring ρ ((num 1 times (B :+ F :* E :* A) is (G :+ E :* C)) ∷ (num 1 times G is (E :* D)) ∷ (:neg A times (F :* E) is num 1) ∷ []) (A :+ B) ((C :+ D) :* E) refl (new_sum t x r c f q h, (sum_to-same t.width (λ j. f j *ℚ x (t.nonbasic j)) (λ j. q *ℚ g j) (λ j p. ring rational_ring (t.cell r j ∷ q ∷ x (t.nonbasic j) ∷ []) (A :* B :* C) (B :* (A :* C)) refl) ∙ sum_to-scale t.width q g, (*ℚ-inv (t.cell r c) ne, tt))))

-- another row is the old one less a multiple of the new one
pub other_row : (t : Tableau) (x : ℕ → ℚ) (r c i : ℕ) → i ≢ r → c < t.width → t.cell r c ≢ zero_ℚ → left (pivot t r c) x i ≡ left t x i -ℚ (t.cell i c *ℚ (left t x r *ℚ inv_ℚ (t.cell r c)))
unfolding left
other_row t x r c i ir h ne = let q = inv_ℚ (t.cell r c) in let k = t.cell i c in let g = λ (j : ℕ). t.cell r j *ℚ x (t.nonbasic j) in let g' = λ (j : ℕ). t.cell i j *ℚ x (t.nonbasic j) in let f = λ (j : ℕ). t.cell i j -ℚ (k *ℚ (t.cell r j *ℚ q)) in
    let ρ = x (t.basic i) ∷ sum_to t.width (λ j. change f c (neg_ℚ (k *ℚ q)) j *ℚ x ((pivot t r c).nonbasic j)) ∷ x (t.basic r) ∷ sum_to t.width g ∷ q ∷ t.cell r c ∷ sum_to t.width g' ∷ k ∷ x (t.nonbasic c) ∷ sum_to t.width (λ j. f j *ℚ x (t.nonbasic j)) ∷ [] in
    rw (eqb_apart i r ir) (combine rational_ring ρ ((num 1 times (B :+ (H :- H :* (F :* E)) :* var 8) is (var 9 :+ :neg (H :* E) :* C)) ∷ (num 1 times var 9 is (G :+ :neg (H :* E) :* D)) ∷ (H :* var 8 times (F :* E) is num 1) ∷ []) (A :+ B) (A :+ G :- H :* ((C :+ D) :* E)) refl (new_sum t x r c f (neg_ℚ (k *ℚ q)) h, (sum_to-same t.width (λ j. f j *ℚ x (t.nonbasic j)) (λ j. g' j +ℚ (neg_ℚ (k *ℚ q) *ℚ g j)) (λ j p. ring rational_ring (t.cell i j ∷ k ∷ t.cell r j ∷ q ∷ x (t.nonbasic j) ∷ []) ((A :- B :* (C :* D)) :* E) (A :* E :+ :neg (B :* D) :* (C :* E)) refl) ∙ sum_to-add t.width g' (λ j. neg_ℚ (k *ℚ q) *ℚ g j) ∙ ap (λ y. sum_to t.width g' +ℚ y) (sum_to-scale t.width (neg_ℚ (k *ℚ q)) g), (*ℚ-inv (t.cell r c) ne, tt))))

-- a factor that is not 0 can be taken away
cancel_inv : (p a b : ℚ) → p ≢ zero_ℚ → a *ℚ inv_ℚ p ≡ b *ℚ inv_ℚ p → a ≡ b
cancel_inv p a b ne e =
    combine rational_ring (a ∷ b ∷ p ∷ inv_ℚ p ∷ []) ((C times A :* D is B :* D) ∷ (B :- A times C :* D is num 1) ∷ []) A B refl (e, (*ℚ-inv p ne, tt))

pub right_same : (t : Tableau) (r c : ℕ) → (pivot t r c).right r ≡ t.right r *ℚ inv_ℚ (t.cell r c)
right_same t r c = rw (eqb_same r)

pub right_other : (t : Tableau) (r c i : ℕ) → i ≢ r → (pivot t r c).right i ≡ t.right i -ℚ (t.cell i c *ℚ (t.right r *ℚ inv_ℚ (t.cell r c)))
right_other t r c i h = rw (eqb_apart i r h)

-- ---- the cells and the variables after a pivot
module _ (t : Tableau) (r c : ℕ) where
  pub cell_rc : (pivot t r c).cell r c ≡ inv_ℚ (t.cell r c)
  cell_rc = rw (eqb_same r, eqb_same c) refl

  pub cell_r : (j : ℕ) → j ≢ c → (pivot t r c).cell r j ≡ t.cell r j *ℚ inv_ℚ (t.cell r c)
  cell_r j n = rw (eqb_same r, eqb_apart j c n) refl

  pub cell_c : (i : ℕ) → i ≢ r → (pivot t r c).cell i c ≡ neg_ℚ (t.cell i c *ℚ inv_ℚ (t.cell r c))
  cell_c i n = rw (eqb_apart i r n, eqb_same c) refl

  pub cell_other : (i j : ℕ) → i ≢ r → j ≢ c → (pivot t r c).cell i j ≡ t.cell i j -ℚ (t.cell i c *ℚ (t.cell r j *ℚ inv_ℚ (t.cell r c)))
  cell_other i j n m = rw (eqb_apart i r n, eqb_apart j c m) refl

  pub basic_r : (pivot t r c).basic r ≡ t.nonbasic c
  basic_r = rw (eqb_same r) refl

  pub basic_other : (i : ℕ) → i ≢ r → (pivot t r c).basic i ≡ t.basic i
  basic_other i n = rw (eqb_apart i r n) refl

  pub nonbasic_c : (pivot t r c).nonbasic c ≡ t.basic r
  nonbasic_c = rw (eqb_same c) refl

  pub nonbasic_other : (j : ℕ) → j ≢ c → (pivot t r c).nonbasic j ≡ t.nonbasic j
  nonbasic_other j n = rw (eqb_apart j c n) refl

-- ---- what a pivot keeps

pub pivot_keeps : (t : Tableau) (x : ℕ → ℚ) (r c : ℕ) → r < t.rows → c < t.width → t.cell r c ≢ zero_ℚ → Solves t x ↔ Solves (pivot t r c) x
pivot_keeps t x r c hr hc ne = (to, from)
  where
    to : Solves t x → Solves (pivot t r c) x
    to s i hi =
        elim (cases_eq i r) [ inl e ↦ (subst (λ k. left (pivot t r c) x k ≡ (pivot t r c).right k) (sym e) (pivot_row t x r c hc ne ∙ ap (λ y. y *ℚ inv_ℚ (t.cell r c)) (s r hr) ∙ sym (right_same t r c))) | inr n ↦ (other_row t x r c i n hc ne ∙ ap₂ (λ y z. y -ℚ (t.cell i c *ℚ (z *ℚ inv_ℚ (t.cell r c)))) (s i hi) (s r hr) ∙ sym (right_other t r c i n)) ]

    from : Solves (pivot t r c) x → Solves t x
    from s i hi =
        let at_r : left t x r ≡ t.right r = cancel_inv (t.cell r c) (left t x r) (t.right r) ne (sym (pivot_row t x r c hc ne) ∙ s r hr ∙ right_same t r c) in
        elim (cases_eq i r) [ inl e ↦ (subst (λ k. left t x k ≡ t.right k) (sym e) at_r) | inr n ↦ (combine rational_ring (left t x i ∷ t.right i ∷ left t x r ∷ t.right r ∷ t.cell i c ∷ inv_ℚ (t.cell r c) ∷ []) ((num 1 times A :- E :* (C :* F) is B :- E :* (D :* F)) ∷ (E :* F times C is D) ∷ []) A B refl (sym (other_row t x r c i n hc ne) ∙ s i hi ∙ right_other t r c i n, (at_r, tt))) ]

-- tableaux that agree where they have cells have the same solutions
pub alike_solves : (t u : Tableau) (x : ℕ → ℚ) → Alike t u → Solves t x ↔ Solves u x
unfolding left
alike_solves t u x a = (λ s i hi. sym (same i (omega (arith, a.rows))) ∙ s i (omega (arith, a.rows)) ∙ a.right i (omega (arith, a.rows)), λ s i hi. same i hi ∙ s i (omega (arith, a.rows)) ∙ sym (a.right i hi))
  where
    same : (i : ℕ) → i < t.rows → left t x i ≡ left u x i
    same i hi =
        ap₂ (λ p q. p +ℚ q) (ap x (a.basic i hi)) (sum_to-same t.width _ _ (λ j k. ap₂ (λ p q. p *ℚ q) (a.cell i j hi k) (ap x (a.nonbasic j k))) ∙ ap (λ n. sum_to n (λ j. u.cell i j *ℚ x (u.nonbasic j))) a.width)

pub pivot_solves : (t u : Tableau) (x : ℕ → ℚ) (r c : ℕ) → r < t.rows → c < t.width → t.cell r c ≢ zero_ℚ → Alike (pivot t r c) u → Solves t x ↔ Solves u x
pivot_solves t u x r c hr hc ne a =
    let p = pivot_keeps t x r c hr hc ne in let q = alike_solves (pivot t r c) u x a in
    (λ s. q.0 (p.0 s), λ s. p.1 (q.1 s))
