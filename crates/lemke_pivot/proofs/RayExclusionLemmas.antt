-- the problem of two sides excludes rays where both have plans and no sum of both costs is negative
use Rattle.std.proofs.Common.{ℕ, suc, pos, ◌<◌, ◌≡◌, ◌+◌, [], ◌∷◌, refl, sym, ap, ap₂, ◌∙◌, subst, arith}
use Rattle.std.proofs.lemmas.Int.{ints}
use Rattle.rational.specs.Rational.{ℚ, ◌+ℚ◌, ◌*ℚ◌, ◌-ℚ◌, neg_ℚ, zero_ℚ, ◌≤ℚ◌}
use Rattle.rational.proofs.RationalRing.{rational_ring}
use Rattle.rational.proofs.Ring.{ring, combine, ◌times◌is◌, var, num, ◌:+◌, ◌:-◌, :neg, A, B, C, D, E, F, G, H}
use Rattle.rational.proofs.Linear.{linear, minus, at, lit, ◌⟨+⟩◌, ◌⟨-⟩◌, ◌⟨≤⟩◌, ◌⟨=⟩◌}
use Rattle.sequence_forms.specs.Sides.{Side, sequences}
use Rattle.sequence_forms.specs.Matrices.{AreNotNegative, set_row, right_side}
use Rattle.sequence_forms.specs.PriceLaws.{HasFlow}
use Rattle.sequence_forms.proofs.MatrixLemmas.{plans_solve}
use Rattle.lemke_pivot.specs.Vectors.{dot, image, bilinear, zeros}
use Rattle.lemke_pivot.proofs.VectorLemmas.{transpose, dot-nonneg, dot-zeros, dot-neg, dot-neg_right, dot-three, dot-two, dot_right, dot_none, dot_comm, bilinear_swap}
use Rattle.lemke_pivot.specs.Problems.{Costs, costs_of, size, at_y, at_p, at_p', at_q, at_q', matrix, right_sides, ExcludesRays}
use Rattle.lemke_pivot.specs.ProblemLaws.{CostSumsAreNotNegative, NoRay}
use Rattle.lemke_pivot.proofs.ProblemBlockLemmas.{sum-six, six-dot, row-x, row-y, row-p, row-p', row-q, row-q'}
use Rattle.lemke_pivot.proofs.NoRayLemmas.{no_ray}

-- weights that are not negative and meet rows
record IsPlanOf (n h : ℕ) (E : ℕ → ℕ → ℚ) (e x : ℕ → ℚ) : Type 0 where
  pub sign : AreNotNegative n x
  pub rows : (r : ℕ) → r < h → image n E x r ≡ e r

-- there is a plan, and only 0 flows from nothing
record HasFlowOf (n h : ℕ) (E : ℕ → ℕ → ℚ) (e : ℕ → ℚ) : Type 0 where
  pub only_zero : (x : ℕ → ℚ) → AreNotNegative n x → ((r : ℕ) → r < h → image n E x r ≡ zero_ℚ) → (i : ℕ) → i < n → x i ≡ zero_ℚ
  pub plan : ℕ → ℚ
  pub is_plan : IsPlanOf n h E e plan

-- t M z, by the blocks
form : (s : Costs) (t z : ℕ → ℚ) → bilinear (size s) (size s) (matrix s) t z ≡ ((bilinear s.X s.Y s.one t (at_y s z) -ℚ bilinear s.h s.X s.E (at_p s z) t) +ℚ bilinear s.h s.X s.E (at_p' s z) t) +ℚ (((bilinear s.X s.Y s.two z (at_y s t) -ℚ bilinear s.k s.Y s.F (at_q s z) (at_y s t)) +ℚ bilinear s.k s.Y s.F (at_q' s z) (at_y s t)) +ℚ (bilinear s.h s.X s.E (at_p s t) z +ℚ (neg_ℚ (bilinear s.h s.X s.E (at_p' s t) z) +ℚ (bilinear s.k s.Y s.F (at_q s t) (at_y s z) +ℚ neg_ℚ (bilinear s.k s.Y s.F (at_q' s t) (at_y s z))))))
form s t z = sum-six s (λ i. t i *ℚ image (size s) (matrix s) z i) ∙ ap₂ (λ a b. a +ℚ b) x_block (ap₂ (λ a b. a +ℚ b) y_block (ap₂ (λ a b. a +ℚ b) p_block (ap₂ (λ a b. a +ℚ b) p'_block (ap₂ (λ a b. a +ℚ b) q_block q'_block))))
  where
    x_block : dot s.X t (image (size s) (matrix s) z) ≡ (bilinear s.X s.Y s.one t (at_y s z) -ℚ bilinear s.h s.X s.E (at_p s z) t) +ℚ bilinear s.h s.X s.E (at_p' s z) t
    x_block =
        dot_right s.X t _ _ (row-x s z) ∙ dot-three s.X t (image s.Y s.one (at_y s z)) (image s.h (transpose s.E) (at_p s z)) (image s.h (transpose s.E) (at_p' s z)) ∙ ap₂ (λ a b. (bilinear s.X s.Y s.one t (at_y s z) -ℚ a) +ℚ b) (bilinear_swap s.X s.h (transpose s.E) t (at_p s z)) (bilinear_swap s.X s.h (transpose s.E) t (at_p' s z))

    y_block : dot s.Y (at_y s t) (at_y s (image (size s) (matrix s) z)) ≡ (bilinear s.X s.Y s.two z (at_y s t) -ℚ bilinear s.k s.Y s.F (at_q s z) (at_y s t)) +ℚ bilinear s.k s.Y s.F (at_q' s z) (at_y s t)
    y_block =
        dot_right s.Y (at_y s t) _ _ (row-y s z) ∙ dot-three s.Y (at_y s t) (image s.X (transpose s.two) z) (image s.k (transpose s.F) (at_q s z)) (image s.k (transpose s.F) (at_q' s z)) ∙ ap₂ (λ a b. (a -ℚ b) +ℚ bilinear s.Y s.k (transpose s.F) (at_y s t) (at_q' s z)) (bilinear_swap s.Y s.X (transpose s.two) (at_y s t) z) (bilinear_swap s.Y s.k (transpose s.F) (at_y s t) (at_q s z)) ∙ ap (λ b. (bilinear s.X s.Y s.two z (at_y s t) -ℚ bilinear s.k s.Y s.F (at_q s z) (at_y s t)) +ℚ b) (bilinear_swap s.Y s.k (transpose s.F) (at_y s t) (at_q' s z))

    p_block : dot s.h (at_p s t) (at_p s (image (size s) (matrix s) z)) ≡ bilinear s.h s.X s.E (at_p s t) z
    p_block = dot_right s.h (at_p s t) _ _ (row-p s z)

    p'_block : dot s.h (at_p' s t) (at_p' s (image (size s) (matrix s) z)) ≡ neg_ℚ (bilinear s.h s.X s.E (at_p' s t) z)
    p'_block = dot_right s.h (at_p' s t) _ _ (row-p' s z) ∙ dot-neg_right s.h (at_p' s t) (image s.X s.E z)

    q_block : dot s.k (at_q s t) (at_q s (image (size s) (matrix s) z)) ≡ bilinear s.k s.Y s.F (at_q s t) (at_y s z)
    q_block = dot_right s.k (at_q s t) _ _ (row-q s z)

    q'_block : dot s.k (at_q' s t) (at_q' s (image (size s) (matrix s) z)) ≡ neg_ℚ (bilinear s.k s.Y s.F (at_q' s t) (at_y s z))
    q'_block = dot_right s.k (at_q' s t) _ _ (row-q' s z) ∙ dot-neg_right s.k (at_q' s t) (image s.Y s.F (at_y s z))

-- z M z is the sum of both costs
square : (s : Costs) (z : ℕ → ℚ) → bilinear (size s) (size s) (matrix s) z z ≡ bilinear s.X s.Y s.one z (at_y s z) +ℚ bilinear s.X s.Y s.two z (at_y s z)
square s z =
    form s z z ∙ ring rational_ring (bilinear s.X s.Y s.one z (at_y s z) ∷ bilinear s.h s.X s.E (at_p s z) z ∷ bilinear s.h s.X s.E (at_p' s z) z ∷ bilinear s.X s.Y s.two z (at_y s z) ∷ bilinear s.k s.Y s.F (at_q s z) (at_y s z) ∷ bilinear s.k s.Y s.F (at_q' s z) (at_y s z) ∷ []) ((A :- B :+ C) :+ ((D :- E :+ F) :+ (B :+ (:neg C :+ (E :+ :neg F))))) (A :+ D) refl

-- costs whose sums are not negative cost nothing negative
costs-nonneg : (n m : ℕ) (K L : ℕ → ℕ → ℚ) (x y : ℕ → ℚ) → ((i j : ℕ) → i < n → j < m → zero_ℚ ≤ℚ K i j +ℚ L i j) → AreNotNegative n x → AreNotNegative m y → zero_ℚ ≤ℚ bilinear n m K x y +ℚ bilinear n m L x y
costs-nonneg n m K L x y c hx hy =
    subst (λ a. zero_ℚ ≤ℚ a) (dot-two n x (image m K y) (image m L y)) (dot-nonneg n x (λ i. image m K y i +ℚ image m L y i) hx (λ i h. subst (λ a. zero_ℚ ≤ℚ a) (dot-two m y (K i) (L i) ∙ ap₂ (λ a b. a +ℚ b) (dot_comm m y (K i)) (dot_comm m y (L i))) (dot-nonneg m y (λ j. K i j +ℚ L i j) hy (λ j k. c i j h k))))

-- a number between 0 and 0
between : (a : ℚ) → zero_ℚ ≤ℚ a → zero_ℚ ≤ℚ neg_ℚ a → a ≡ zero_ℚ
between a h g = linear (a ∷ []) ((lit (pos 0) ⟨≤⟩ at 0) ∷ (lit (pos 0) ⟨≤⟩ minus (at 0)) ∷ []) (at 0 ⟨=⟩ lit (pos 0)) (λ one z p h. omega (arith, ints)) (h, (g, tt))

-- where z and M z are not negative, the weights are 0
no_x : (s : Costs) → HasFlowOf s.X s.h s.E s.e → (u : ℕ → ℚ) → AreNotNegative (size s) u → AreNotNegative (size s) (image (size s) (matrix s) u) → (i : ℕ) → i < s.X → u i ≡ zero_ℚ
no_x s fl u hu hm =
    fl.only_zero u (λ i h. hu i (omega arith)) (λ r h. between _ (subst (λ a. zero_ℚ ≤ℚ a) (row-p s u r h) (hm _ (omega arith))) (subst (λ a. zero_ℚ ≤ℚ a) (row-p' s u r h) (hm _ (omega arith))))

no_y : (s : Costs) → HasFlowOf s.Y s.k s.F s.f → (u : ℕ → ℚ) → AreNotNegative (size s) u → AreNotNegative (size s) (image (size s) (matrix s) u) → (i : ℕ) → i < s.Y → at_y s u i ≡ zero_ℚ
no_y s fl u hu hm =
    fl.only_zero (at_y s u) (λ i h. hu (s.X + i) (omega arith)) (λ r h. between _ (subst (λ a. zero_ℚ ≤ℚ a) (row-q s u r h) (hm _ (omega arith))) (subst (λ a. zero_ℚ ≤ℚ a) (row-q' s u r h) (hm _ (omega arith))))

-- a plan weighs prices as the right sides do
weigh : (n h : ℕ) (M : ℕ → ℕ → ℚ) (e x c p p' : ℕ → ℚ) → IsPlanOf n h M e x → dot n x (λ i. (c i -ℚ image h (transpose M) p i) +ℚ image h (transpose M) p' i) ≡ (dot n x c -ℚ dot h e p) +ℚ dot h e p'
weigh n h M e x c p p' pl = dot-three n x c (image h (transpose M) p) (image h (transpose M) p') ∙ ap₂ (λ a b. (dot n x c -ℚ a) +ℚ b) (by p) (by p')
  where
    by : (q : ℕ → ℚ) → dot n x (image h (transpose M) q) ≡ dot h e q
    by q = bilinear_swap n h (transpose M) x q ∙ dot_right h q _ _ pl.rows ∙ dot_comm h q e

bilinear_none : (n m : ℕ) (M : ℕ → ℕ → ℚ) (u v : ℕ → ℚ) → ((j : ℕ) → j < m → v j ≡ zero_ℚ) → bilinear n m M u v ≡ zero_ℚ
bilinear_none n m M u v h = bilinear_swap n m M u v ∙ dot_none m v (image n (transpose M) u) h

-- the product with the right sides
right-dot : (s : Costs) (u : ℕ → ℚ) → dot (size s) (right_sides s) u ≡ (dot s.h s.e (at_p' s u) -ℚ dot s.h s.e (at_p s u)) +ℚ (dot s.k s.f (at_q' s u) -ℚ dot s.k s.f (at_q s u))
unfolding right_sides
right-dot s u =
    six-dot s zeros zeros (λ r. neg_ℚ (s.e r)) s.e (λ r. neg_ℚ (s.f r)) s.f u
    ∙ combine rational_ring (dot s.X zeros u ∷ dot s.Y zeros (at_y s u) ∷ dot s.h (λ r. neg_ℚ (s.e r)) (at_p s u) ∷ dot s.h s.e (at_p' s u) ∷ dot s.k (λ r. neg_ℚ (s.f r)) (at_q s u) ∷ dot s.k s.f (at_q' s u) ∷ dot s.h s.e (at_p s u) ∷ dot s.k s.f (at_q s u) ∷ []) ((num 1 times A is num 0) ∷ (num 1 times B is num 0) ∷ (num 1 times C is :neg G) ∷ (num 1 times E is :neg H) ∷ []) (A :+ (B :+ (C :+ (D :+ (E :+ F))))) ((D :- G) :+ (F :- H)) refl (dot-zeros s.X u, (dot-zeros s.Y (at_y s u), (dot-neg s.h s.e (at_p s u), (dot-neg s.k s.f (at_q s u), tt))))

-- what a plan gains from prices that its rows allow
gain : (n h : ℕ) (M : ℕ → ℕ → ℚ) (e x c p p' : ℕ → ℚ) → IsPlanOf n h M e x → dot n x c ≡ zero_ℚ → AreNotNegative n (λ i. (c i -ℚ image h (transpose M) p i) +ℚ image h (transpose M) p' i) → zero_ℚ ≤ℚ dot h e p' -ℚ dot h e p
gain n h M e x c p p' pl z ok =
    linear (dot n x c ∷ dot h e p ∷ dot h e p' ∷ dot n x (λ i. (c i -ℚ image h (transpose M) p i) +ℚ image h (transpose M) p' i) ∷ []) ((at 0 ⟨=⟩ lit (pos 0)) ∷ (at 3 ⟨=⟩ (at 0 ⟨-⟩ at 1 ⟨+⟩ at 2)) ∷ (lit (pos 0) ⟨≤⟩ at 3) ∷ []) (lit (pos 0) ⟨≤⟩ (at 2 ⟨-⟩ at 1)) (λ one z p h. omega (arith, ints)) (z, (weigh n h M e x c p p' pl, (dot-nonneg n x _ pl.sign ok, tt)))

excludes_rays : (s : Costs) → ((i j : ℕ) → i < s.X → j < s.Y → zero_ℚ ≤ℚ s.one i j +ℚ s.two i j) → HasFlowOf s.X s.h s.E s.e → HasFlowOf s.Y s.k s.F s.f → ExcludesRays (size s) (matrix s) (right_sides s)
excludes_rays s costs fx fy =
    record {
      square = λ z h. subst (λ a. zero_ℚ ≤ℚ a) (sym (square s z)) (costs-nonneg s.X s.Y s.one s.two z (at_y s z) costs (λ i k. h i (omega arith)) (λ i k. h (s.X + i) (omega arith)));
      skew = λ u hu hm none t. skew u t (no_x s fx u hu hm) (no_y s fy u hu hm);
      side = λ u hu hm none. side u hm (no_x s fx u hu hm) (no_y s fy u hu hm);
    }
  where
    skew : (u t : ℕ → ℚ) → ((i : ℕ) → i < s.X → u i ≡ zero_ℚ) → ((i : ℕ) → i < s.Y → at_y s u i ≡ zero_ℚ) → bilinear (size s) (size s) (matrix s) u t +ℚ bilinear (size s) (size s) (matrix s) t u ≡ zero_ℚ
    skew u t ux uy =
        ap₂ (λ a b. a +ℚ b) (form s u t) (form s t u)
        ∙ combine rational_ring (bilinear s.X s.Y s.one u (at_y s t) ∷ bilinear s.h s.X s.E (at_p s t) u ∷ bilinear s.h s.X s.E (at_p' s t) u ∷ bilinear s.X s.Y s.two t (at_y s u) ∷ bilinear s.k s.Y s.F (at_q s t) (at_y s u) ∷ bilinear s.k s.Y s.F (at_q' s t) (at_y s u) ∷ bilinear s.h s.X s.E (at_p s u) t ∷ bilinear s.h s.X s.E (at_p' s u) t ∷ bilinear s.k s.Y s.F (at_q s u) (at_y s t) ∷ bilinear s.k s.Y s.F (at_q' s u) (at_y s t) ∷ bilinear s.X s.Y s.one t (at_y s u) ∷ bilinear s.X s.Y s.two u (at_y s t) ∷ []) ((num 1 times A is num 0) ∷ (num 1 times D is num 0) ∷ (num 1 times var 10 is num 0) ∷ (num 1 times var 11 is num 0) ∷ [])
        (((A :- B :+ C) :+ ((D :- E :+ F) :+ (G :+ (:neg H :+ (var 8 :+ :neg (var 9)))))) :+ ((var 10 :- G :+ H) :+ ((var 11 :- var 8 :+ var 9) :+ (B :+ (:neg C :+ (E :+ :neg F)))))) (num 0) refl
        (dot_none s.X u _ ux, (bilinear_none s.X s.Y s.two t (at_y s u) uy, (bilinear_none s.X s.Y s.one t (at_y s u) uy, (dot_none s.X u _ ux, tt))))

    side : (u : ℕ → ℚ) → AreNotNegative (size s) (image (size s) (matrix s) u) → ((i : ℕ) → i < s.X → u i ≡ zero_ℚ) → ((i : ℕ) → i < s.Y → at_y s u i ≡ zero_ℚ) → zero_ℚ ≤ℚ dot (size s) (right_sides s) u
    side u hm ux uy =
        subst (λ a. zero_ℚ ≤ℚ a) (sym (right-dot s u))
        (linear ((dot s.h s.e (at_p' s u) -ℚ dot s.h s.e (at_p s u)) ∷ (dot s.k s.f (at_q' s u) -ℚ dot s.k s.f (at_q s u)) ∷ []) ((lit (pos 0) ⟨≤⟩ at 0) ∷ (lit (pos 0) ⟨≤⟩ at 1) ∷ []) (lit (pos 0) ⟨≤⟩ (at 0 ⟨+⟩ at 1)) (λ one z p h. omega (arith, ints)) (
          gain s.X s.h s.E s.e fx.plan (image s.Y s.one (at_y s u)) (at_p s u) (at_p' s u) fx.is_plan (bilinear_none s.X s.Y s.one fx.plan (at_y s u) uy) (λ i h. subst (λ a. zero_ℚ ≤ℚ a) (row-x s u i h) (hm i (omega arith))),
          (
            gain s.Y s.k s.F s.f fy.plan (image s.X (transpose s.two) u) (at_q s u) (at_q' s u) fy.is_plan (bilinear_none s.Y s.X (transpose s.two) fy.plan u ux) (λ i h. subst (λ a. zero_ℚ ≤ℚ a) (row-y s u i h) (hm (s.X + i) (omega arith))),
            tt,
          ),
        ))

-- ---- two players
flow : (d : Side) → HasFlow d → HasFlowOf (sequences d) (suc d.sets) (set_row d) right_side
flow d f = let p = (plans_solve d f.plan.0 f.side).0 f.plan.1 in
    record { only_zero = f.only_zero; plan = f.plan.0; is_plan = record { sign = p.not_negative; rows = p.rows } }

pub sides_exclude_rays : (rows columns : Side) (one two : ℕ → ℕ → ℚ) → HasFlow rows → HasFlow columns → CostSumsAreNotNegative (costs_of rows columns one two) → ExcludesRays (size (costs_of rows columns one two)) (matrix (costs_of rows columns one two)) (right_sides (costs_of rows columns one two))
sides_exclude_rays rows columns one two f g costs = excludes_rays (costs_of rows columns one two) costs (flow rows f) (flow columns g)

pub no_ray_of_sides : NoRay
no_ray_of_sides rows columns one two w z v u z0 u0 f g costs r = let s = costs_of rows columns one two in
    no_ray (size s) (matrix s) (right_sides s) w z v u z0 u0 (sides_exclude_rays rows columns one two f g costs) r
