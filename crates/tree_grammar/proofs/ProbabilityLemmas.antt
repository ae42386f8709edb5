-- One more probability: what the code compares says whether it may follow.
use Rattle.std.proofs.Common.{◌≡◌, ℕ, inl, inr, Bool, true, false, ◌&&◌, true≢false, refl, sym, ap₂, subst, ◌∙◌, ℤ, pos, negsuc, ◌*ℤ◌, ◌<ℤ◌, ◌≤ℤ◌, Decides, arith}
use Rattle.std.proofs.lemmas.Bool.{cases_Bool}
use Rattle.std.proofs.lemmas.Int.{ints}
use Rattle.std.proofs.lemmas.Cmp.{int_ranked}
use Rattle.std.specs.Bool.{◌==◌}
use Rattle.std.specs.Prelude.{Ok, Err, if◌then◌else◌}
use Rattle.std.specs.Int.{int_signum}
use Rattle.std.specs.Int.RustNames.{int_le}
use Rattle.std.specs.declared.cmp.Ordering.{Ordering}
use Rattle.std.specs.declared.cmp.Ordering.TheVariants.{Less, Equal, Greater}
use Rattle.std.specs.Ordering.{int_cmp, ordering_index}
use Rattle.rational.specs.Rational.{ℚ, ◌+ℚ◌, zero_ℚ, one_ℚ}
use Rattle.rational.specs.Tests.{le_test, cmp_ℚ, sign_of}
use Rattle.rational.proofs.Decide.{le_test-true}
use Rattle.rational.proofs.PartLemmas.{nonneg-num, sign_nonneg}
use Rattle.frac128.specs.Steps.{AddFits, step_of}
use Rattle.frac128.specs.declared.steps.Op.TheVariants.{Add}
use Rattle.frac128.specs.declared.steps.Unfit.{Unfit}
use Rattle.written_trees.specs.Building.{add_test}
use Rattle.tree_grammar.specs.TreeParsing.{sum_with}
use Rattle.tree_grammar.specs.declared.kinds.EfgKind.TheVariants.{Probability, ProbabilityRange}
use Rattle.written_trees.proofs.ChanceLemmas.{add_test-Decides}

-- a test fails where what it decides does not hold
test_fails : {P : Type 0} (b : Bool) → Decides b P → ¬ P → b ≡ false
test_fails b d never = elim (cases_Bool b) [ inl e ↦ absurd (never (d.0 e)) | inr e ↦ e ]

-- an integer that is not negative has no negative sign
nonneg_sign : (z : ℤ) → pos 0 ≤ℤ z → pos 0 ≤ℤ int_signum z
nonneg_sign (pos n) h = omega (arith, ints)
nonneg_sign (negsuc n) h = absurd (omega (arith, ints))

-- the sign tests for a number that is not negative
sign_passes : (prob : ℚ) → pos 0 ≤ℤ sign_of prob → le_test zero_ℚ prob ≡ true
sign_passes prob h = (le_test-true zero_ℚ prob).1 ((nonneg-num prob).1 (sign_nonneg prob.num h))

sign_fails : (prob : ℚ) → sign_of prob <ℤ pos 0 → le_test zero_ℚ prob ≡ false
sign_fails prob h = test_fails (le_test zero_ℚ prob) (le_test-true zero_ℚ prob) (λ l. let k = nonneg_sign prob.num ((nonneg-num prob).0 l) in omega (arith, ints))

-- the order of two integers answers the test of at most
order_passes : (r : Ordering) (x y : ℤ) → r ≡ int_cmp x y → (ordering_index r == 2) ≡ false → int_le x y ≡ true
order_passes Less x y e h = let lt = int_ranked x y Less e in grind (arith, ints)
order_passes Equal x y e h = let eq = int_ranked x y Equal e in grind (arith, ints)
order_passes Greater x y e h = absurd (true≢false h)

order_fails : (r : Ordering) (x y : ℤ) → r ≡ int_cmp x y → (ordering_index r == 2) ≡ true → int_le x y ≡ false
order_fails Less x y e h = absurd (true≢false (sym h))
order_fails Equal x y e h = absurd (true≢false (sym h))
order_fails Greater x y e h = let gt = int_ranked x y Greater e in grind (arith, ints)

-- the order of two rationals answers it too
order_le : (r : Ordering) (a b : ℚ) → r ≡ cmp_ℚ a b → (ordering_index r == 2) ≡ false → le_test a b ≡ true
unfolding le_test
order_le r a b e h = order_passes r (a.num *ℤ pos b.den) (b.num *ℤ pos a.den) e h

order_gt : (r : Ordering) (a b : ℚ) → r ≡ cmp_ℚ a b → (ordering_index r == 2) ≡ true → le_test a b ≡ false
unfolding le_test
order_gt r a b e h = order_fails r (a.num *ℤ pos b.den) (b.num *ℤ pos a.den) e h

-- ---- the sum with one more
-- a probability that is not negative may follow where the sum fits and is at most 1
pub sum_so : (set : ℕ) (sum prob next one : ℚ) (sign : ℤ) (r : Ordering) → next ≡ sum +ℚ prob → AddFits sum prob → sign ≡ sign_of prob → pos 0 ≤ℤ sign → one ≡ one_ℚ → r ≡ cmp_ℚ next one → (ordering_index r == 2) ≡ false → Ok next ≡ sum_with set sum prob
unfolding sum_with
sum_so set sum prob next one sign r n f s nonneg o e h =
    rw (n, (add_test-Decides sum prob).1 f, sign_passes prob (subst (λ z. pos 0 ≤ℤ z) s nonneg), order_le r (sum +ℚ prob) one_ℚ (e ∙ ap₂ cmp_ℚ n o) h) refl

-- a negative probability may not follow
pub sum_negative : (set : ℕ) (sum prob next : ℚ) (sign : ℤ) → next ≡ sum +ℚ prob → AddFits sum prob → sign ≡ sign_of prob → sign <ℤ pos 0 → Err (Probability set next) ≡ sum_with set sum prob
unfolding sum_with
sum_negative set sum prob next sign n f s h = rw (n, (add_test-Decides sum prob).1 f, sign_fails prob (subst (λ z. z <ℤ pos 0) s h)) refl

-- nor one with which the sum is above 1
pub sum_above : (set : ℕ) (sum prob next one : ℚ) (r : Ordering) → next ≡ sum +ℚ prob → AddFits sum prob → one ≡ one_ℚ → r ≡ cmp_ℚ next one → (ordering_index r == 2) ≡ true → Err (Probability set next) ≡ sum_with set sum prob
unfolding sum_with
sum_above set sum prob next one r n f o e h = rw (n, (add_test-Decides sum prob).1 f) (by (le_test zero_ℚ prob) (order_gt r (sum +ℚ prob) one_ℚ (e ∙ ap₂ cmp_ℚ n o) h))
  where
    by : (nonneg : Bool) → le_test (sum +ℚ prob) one_ℚ ≡ false → Err (Probability set (sum +ℚ prob)) ≡ (if nonneg && le_test (sum +ℚ prob) one_ℚ then Ok (sum +ℚ prob) else Err (Probability set (sum +ℚ prob)))
    by true e = rw e refl
    by false e = refl

-- nor one whose sum does not fit
pub sum_outside : (set : ℕ) (sum prob : ℚ) (step : Unfit) → ¬ (AddFits sum prob) → step ≡ step_of Add sum prob → Err (ProbabilityRange set step) ≡ sum_with set sum prob
unfolding sum_with
sum_outside set sum prob step f u = rw (u, test_fails (add_test sum prob) (add_test-Decides sum prob) f) refl
