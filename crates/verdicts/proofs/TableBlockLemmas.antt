-- The profiles in which a strategy is played: blocks of neighbours, at equal distances.
use Rattle.std.proofs.Common.{ℕ, zero, suc, ◌+◌, ◌*◌, ◌-◌, ◌/◌, ◌%◌, ◌<◌, ◌≤◌, ◌≡◌, ◌≢◌, inl, inr, Bool, true, false, Decides, List, [], ◌∷◌, All, length, get_or, drop, refl, sym, ap, ◌∙◌, subst, arith}
use Rattle.std.specs.Prelude.{◌==◌, if◌then◌else◌}
use Rattle.std.proofs.Math.Nat.{mul-le-mul_left}
use Rattle.std.proofs.lemmas.Bool.{cases_lt}
use Rattle.std.proofs.lemmas.Bool.Decides.{Decides-eqb}
use Rattle.std.proofs.lemmas.List.Elements.{All-append, All-nil}
use Rattle.rational.specs.Rational.{ℚ, ◌+ℚ◌, ◌*ℚ◌, zero_ℚ}
use Rattle.rational.proofs.RationalRing.{+ℚ-zero}
use Rattle.game_theory.specs.Profiles.{Game, profile_at, profile_count, stride}
use Rattle.game_theory.specs.Mixed.{Mixed}
use Rattle.game_theory.proofs.ProfileNumberLemmas.{quotient-of, remainder-of, strategy-profile_at}
use Rattle.frac128.specs.Steps.{Step, StepFits, IsFirstUnfit}
use Rattle.frac128.proofs.StepRunLemmas.{first_unfit-more, first_unfit-following}
use Rattle.best_replies.specs.Strategies.{strategy_value, weight, value_below}
use Rattle.verdicts.specs.TableChecks.{profile_steps, steps_at, strategy_steps, table_weight_steps, weighed_steps}
use Rattle.frac128.proofs.StepPartLemmas.{fits-joined, none-more, steps_of, unfit-joined}

-- the profiles are the stride times those of the players from one on
count-split : (ns : List ℕ) (i : ℕ) → profile_count ns ≡ stride ns i * profile_count (drop i ns)
count-split ns zero = omega arith
count-split [] (suc i) = omega arith
count-split (n ∷ ns) (suc i) = (let e = count-split ns i in ap (λ x. n * x) e ∙ omega arith)

-- ---- numbers in blocks of d
block-of : (d c k : ℕ) → d * c ≤ k → k < d * c + d → k / d ≡ c
block-of d c k l b = (let e : k ≡ (k - d * c) + d * c = omega (arith, l) in ap (λ x. x / d) e ∙ quotient-of d (k - d * c) c (omega (arith, l, b)))

-- between the blocks of one remainder there is none
between : (d n q s k : ℕ) → 0 < d → 0 < n → d * (n * q + s) + d ≤ k → k < d * (n * (q + 1) + s) → (k / d) % n ≢ s
between d n q s k some_d some_n l b e =
    (let c : ℕ = k / d in
    let low : n * q + s < c = elim (cases_lt (n * q + s) c) [ inl h ↦ h | inr h ↦ (let t = mul-le-mul_left d h in absurd (omega (arith, t, l, some_d))) ] in
    let high : c < n * (q + 1) + s = elim (cases_lt c (n * (q + 1) + s)) [ inl h ↦ h | inr h ↦ (let t = mul-le-mul_left d h in absurd (omega (arith, t, b, some_d))) ] in
    let whole : n * (c / n) + s ≡ c = omega (arith, e, some_n) in
    elim (cases_lt q (c / n)) [
      | inl h ↦ (let t : n * (q + 1) ≤ n * (c / n) = mul-le-mul_left n (let up : q + 1 ≤ c / n = omega (arith, h) in up) in absurd (omega (arith, t, high, whole)))
      | inr h ↦ (let t = mul-le-mul_left n h in absurd (omega (arith, t, low, whole)))
    ])

before_all : (d n s k : ℕ) → 0 < d → s < n → k < d * s → (k / d) % n ≢ s
before_all d n s k some_d few b e =
    (let c : ℕ = k / d in
    let small : c < s = elim (cases_lt c s) [ inl h ↦ h | inr h ↦ (let t = mul-le-mul_left d h in absurd (omega (arith, t, b, some_d))) ] in
    let same : c % n ≡ c = remainder_below c n (omega (arith, small, few)) in
    omega (arith, same, e, small))
  where
    remainder_below : (c n : ℕ) → c < n → c % n ≡ c
    remainder_below c n l = (let e : c ≡ c + n * 0 = omega arith in ap (λ x. x % n) e ∙ remainder-of n c 0 l)

within_all : (d c all k : ℕ) → d * c < d * all → d * c + d ≤ d * all
within_all d c all k l = elim (cases_lt c all) [
  | inl h ↦ (let up : c + 1 ≤ all = omega (arith, h) in let t = mul-le-mul_left d up in omega (arith, t))
  | inr h ↦ (let t = mul-le-mul_left d h in absurd (omega (arith, t, l)))
]

-- ---- the steps and the value at one profile
module _ (g : Game) (m : Mixed) (i s k : ℕ) where
  abbrev strategy_of : ℕ
  strategy_of = get_or (profile_at g.strategies k) i 0

  pub played-steps : strategy_of ≡ s → steps_at g m i s k ≡ profile_steps g m i s k
  played-steps e = go (strategy_of == s) (Decides-eqb strategy_of s)
    where
      go : (b : Bool) → Decides b (get_or (profile_at g.strategies k) i 0 ≡ s) → (if b then profile_steps g m i s k else []) ≡ profile_steps g m i s k
      go true d = refl
      go false d = absurd (let yes = d.1 e in cc)

  pub other-steps : strategy_of ≢ s → steps_at g m i s k ≡ []
  other-steps ne = go (strategy_of == s) (Decides-eqb strategy_of s)
    where
      go : (b : Bool) → Decides b (get_or (profile_at g.strategies k) i 0 ≡ s) → (if b then profile_steps g m i s k else []) ≡ []
      go true d = absurd (ne (d.0 refl))
      go false d = refl

  abbrev own_value : ℚ
  own_value = weight m i (profile_at g.strategies k) *ℚ g.pays i k

  pub played-value : strategy_of ≡ s → value_below g m i s (suc k) ≡ value_below g m i s k +ℚ own_value
  played-value e = go (strategy_of == s) (Decides-eqb strategy_of s)
    where
      go : (b : Bool) → Decides b (get_or (profile_at g.strategies k) i 0 ≡ s)
          → value_below g m i s k +ℚ (elim b [ true ↦ weight m i (profile_at g.strategies k) *ℚ g.pays i k | false ↦ zero_ℚ ])
          ≡ value_below g m i s k +ℚ (weight m i (profile_at g.strategies k) *ℚ g.pays i k)
      go true d = refl
      go false d = absurd (let yes = d.1 e in cc)

  pub other-value : strategy_of ≢ s → value_below g m i s (suc k) ≡ value_below g m i s k
  other-value ne = go (strategy_of == s) (Decides-eqb strategy_of s)
    where
      go : (b : Bool) → Decides b (get_or (profile_at g.strategies k) i 0 ≡ s)
          → value_below g m i s k +ℚ (elim b [ true ↦ weight m i (profile_at g.strategies k) *ℚ g.pays i k | false ↦ zero_ℚ ]) ≡ value_below g m i s k
      go true d = absurd (ne (d.0 refl))
      go false d = +ℚ-zero (value_below g m i s k)

  -- the weight's steps, and then those of the product and the sum
  abbrev own_weight_steps : List Step
  own_weight_steps = table_weight_steps m i (profile_at g.strategies k)

  pub profile-fits : (w pay sum : ℚ) → strategy_of ≡ s → w ≡ weight m i (profile_at g.strategies k) → pay ≡ g.pays i k → sum ≡ value_below g m i s k → All StepFits own_weight_steps → All StepFits (weighed_steps w pay sum) → All StepFits (steps_at g m i s k)
  profile-fits w pay sum e a b c h f =
      subst (All StepFits) (sym (played-steps e)) (All-append StepFits own_weight_steps _ h (subst (All StepFits) (λ j. weighed_steps (a j) (b j) (c j)) f))

  pub weight-unfit : (u : Step) → strategy_of ≡ s → IsFirstUnfit own_weight_steps u → IsFirstUnfit (steps_at g m i s k) u
  weight-unfit u e h = subst (λ ss. IsFirstUnfit ss u) (sym (played-steps e)) (first_unfit-more own_weight_steps _ u h)

  pub sum-unfit : (w pay sum : ℚ) (u : Step) → strategy_of ≡ s → w ≡ weight m i (profile_at g.strategies k) → pay ≡ g.pays i k → sum ≡ value_below g m i s k → All StepFits own_weight_steps → IsFirstUnfit (weighed_steps w pay sum) u → IsFirstUnfit (steps_at g m i s k) u
  sum-unfit w pay sum u e a b c h f =
      subst (λ ss. IsFirstUnfit ss u) (sym (played-steps e)) (first_unfit-following own_weight_steps _ u h (subst (λ ss. IsFirstUnfit ss u) (λ j. weighed_steps (a j) (b j) (c j)) f))

  pub profile-value : (w pay sum next : ℚ) → strategy_of ≡ s → w ≡ weight m i (profile_at g.strategies k) → pay ≡ g.pays i k → sum ≡ value_below g m i s k → next ≡ sum +ℚ (w *ℚ pay) → next ≡ value_below g m i s (suc k)
  profile-value w pay sum next e a b c n = n ∙ (λ j. c j +ℚ (a j *ℚ b j)) ∙ sym (played-value e)

-- profiles in which it is not played change nothing
value-kept : (g : Game) (m : Mixed) (i s a n : ℕ) → ((k : ℕ) → a ≤ k → k < a + n → get_or (profile_at g.strategies k) i 0 ≢ s) → value_below g m i s (a + n) ≡ value_below g m i s a
value-kept g m i s a zero h = ap (value_below g m i s) (omega arith)
value-kept g m i s a (suc n) h =
    ap (value_below g m i s) (let e : a + suc n ≡ suc (a + n) = omega arith in e) ∙ other-value g m i s (a + n) (h (a + n) (omega arith) (omega arith))
    ∙ value-kept g m i s a n (λ k l b. h k l (omega (arith, b)))

-- ---- all blocks
module _ (g : Game) (m : Mixed) (i s : ℕ) (is_player : i < length g.strategies) (is_strategy : s < get_or g.strategies i 0) (some_stride : 0 < stride g.strategies i) where
  abbrev d : ℕ
  d = stride g.strategies i

  abbrev n : ℕ
  n = get_or g.strategies i 0

  -- what has been summed, up to before the block that begins at `first`
  pub record IsRowEquivalent (value : ℚ) (first : ℕ) : Type 0 where
    pub reached : ℕ
    pub within : reached ≤ profile_count g.strategies
    pub following : reached ≤ first
    pub value_is : value ≡ value_below g m i s reached
    pub fit : All StepFits (steps_of (steps_at g m i s) 0 reached)
    pub gap : (k : ℕ) → reached ≤ k → k < first → get_or (profile_at g.strategies k) i 0 ≢ s
    pub block : (q : ℕ) × (first ≡ d * (n * q + s))

  pub start : (first : ℕ) → first ≡ s * d → IsRowEquivalent zero_ℚ first
  start first e =
      record {
        reached = 0;
        within = omega arith;
        following = omega arith;
        value_is = refl;
        fit = All-nil StepFits;
        gap = λ k l b p. before_all d n s k some_stride is_strategy (omega (arith, b, e)) (sym (strategy-profile_at g.strategies k i is_player) ∙ p);
        block = (0, omega (arith, e));
      }

  module _ (value : ℚ) (first : ℕ) (h : IsRowEquivalent value first) where
    -- it stays the same up to any number in the gap
    kept : (to : ℕ) → h.reached ≤ to → to ≤ first → (value ≡ value_below g m i s to) × All StepFits (steps_of (steps_at g m i s) 0 to)
    kept to l b =
        (let none : (k : ℕ) → h.reached ≤ k → k < h.reached + (to - h.reached) → get_or (profile_at g.strategies k) i 0 ≢ s = λ k a z. h.gap k a (omega (arith, z, l, b)) in
        let same : h.reached + (to - h.reached) ≡ to = omega (arith, l) in (
          h.value_is ∙ sym (value-kept g m i s h.reached (to - h.reached) none) ∙ ap (value_below g m i s) same,
          subst (λ e. All StepFits (steps_of (steps_at g m i s) 0 e)) same
              (subst (All StepFits) (sym (none-more (steps_at g m i s) h.reached (to - h.reached) (λ k a z. other-steps g m i s k (none k a z)))) h.fit),
        ))

    pub at_first : value ≡ value_below g m i s first
    at_first = (kept first h.following (omega arith)).0

    pub fits_at_first : All StepFits (steps_of (steps_at g m i s) 0 first)
    fits_at_first = (kept first h.following (omega arith)).1

    pub block-within : first < profile_count g.strategies → first + d ≤ profile_count g.strategies
    block-within l =
        (let all = count-split g.strategies i in
        let e = h.block.1 in
        let t = within_all d (n * h.block.0 + s) (profile_count (drop i g.strategies)) first (omega (arith, all, e, l)) in
        omega (arith, all, e, t))

    pub block-played : (k : ℕ) → first ≤ k → k < first + d → get_or (profile_at g.strategies k) i 0 ≡ s
    block-played k l b =
        (let e = h.block.1 in
        strategy-profile_at g.strategies k i is_player ∙ ap (λ x. x % n) (block-of d (n * h.block.0 + s) k (omega (arith, l, e)) (omega (arith, b, e)))
        ∙ (let turn : n * h.block.0 + s ≡ s + n * h.block.0 = omega arith in ap (λ x. x % n) turn) ∙ remainder-of n s h.block.0 is_strategy)

    -- one block more
    pub next : (more : ℚ) → first < profile_count g.strategies → more ≡ value_below g m i s (first + d) → All StepFits (steps_of (steps_at g m i s) first d) → IsRowEquivalent more (first + d * n)
    next more l e f =
        record {
          reached = first + d;
          within = block-within l;
          following = (let t : d * 1 ≤ d * n = mul-le-mul_left d (let some : 1 ≤ n = omega (arith, is_strategy) in some) in omega (arith, t));
          value_is = e;
          fit = fits-joined (steps_at g m i s) first d fits_at_first f;
          gap = λ k a z p. (let at = h.block.1 in between d n h.block.0 s k some_stride (omega (arith, is_strategy)) (omega (arith, a, at)) (omega (arith, z, at)) (sym (strategy-profile_at g.strategies k i is_player) ∙ p));
          block = (h.block.0 + 1, (let at = h.block.1 in omega (arith, at)));
        }

    -- or the first step that does not fit
    pub block-unfit : (u : Step) → first < profile_count g.strategies → IsFirstUnfit (steps_of (steps_at g m i s) first d) u → IsFirstUnfit (strategy_steps g m i s) u
    block-unfit u l f = unfit-joined (steps_at g m i s) first d (profile_count g.strategies) u (block-within l) fits_at_first f

    -- after the last block all is summed
    pub done : profile_count g.strategies ≤ first → (value ≡ strategy_value g m i s) × All StepFits (strategy_steps g m i s)
    done l = kept (profile_count g.strategies) h.within l
