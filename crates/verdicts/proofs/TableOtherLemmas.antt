-- The probabilities of the others, multiplied player by player.
use Rattle.std.proofs.Common.{ℕ, zero, suc, ◌+◌, ◌-◌, ◌/◌, ◌%◌, ◌<◌, ◌≤◌, ◌≡◌, ◌≢◌, pos, Bool, true, false, Decides, List, [], ◌∷◌, ◌++◌, All, Ok, Err, Result, length, map, get_or, drop, refl, sym, ap, ap₂, ◌∙◌, subst, drop-cons, add-one, arith}
use Rattle.std.specs.Prelude.{◌==◌, nat_abs, not, if◌then◌else◌}
use Rattle.std.specs.List.{filter, range_with_len}
use Rattle.std.proofs.lemmas.Bool.Decides.{Decides-eqb}
use Rattle.std.proofs.lemmas.List.Elements.{All-nil, All-cons}
use Rattle.rational.specs.Gcd.{gcd}
use Rattle.rational.specs.Rational.{ℚ, ◌*ℚ◌, frac, zero_ℚ, one_ℚ}
use Rattle.rational.proofs.RationalRing.{*ℚ_assoc, *ℚ-one}
use Rattle.rational.proofs.Rules.{zero-*ℚ, one-*ℚ}
use Rattle.frac128.specs.Fraction.{Fits}
use Rattle.frac128.specs.Steps.{MulFits, step_of, Step, StepFits, IsFirstUnfit, StepsGive}
use Rattle.frac128.specs.declared.steps.Op.TheVariants.{Mul}
use Rattle.frac128.specs.declared.steps.Unfit.{Unfit}
use Rattle.game_theory.specs.Profiles.{profile_at}
use Rattle.game_theory.specs.Mixed.{Mixed, later, probability}
use Rattle.frac128.proofs.PartLemmas.{zero-num, zero-den}
use Rattle.frac128.proofs.StepRunLemmas.{first_unfit-here, one-fits, following-gives}
use Rattle.best_replies.specs.Strategies.{own_as_one, weight}
use Rattle.verdicts.specs.TableChecks.{others_probabilities, product_steps}
use Rattle.verdicts.specs.TableReplies.{PlayForSure, GiveFrom, mixed_from, others_from}

-- a product that is 0 stays 0, and each factor fits
zero-stays : (qs : List ℚ) → All StepFits (product_steps zero_ℚ qs)
zero-stays [] = All-nil StepFits
zero-stays (q ∷ qs) =
    All-cons StepFits (step_of Mul zero_ℚ q) (product_steps (zero_ℚ *ℚ q) qs)
    (subst Fits (sym (zero-*ℚ q)) (record { num = omega (arith, ap nat_abs zero-num); den = omega (arith, zero-den) }))
    (subst (λ p. All StepFits (product_steps p qs)) (sym (zero-*ℚ q)) (zero-stays qs))

-- these are those of the numbers from j on, where they read the same strategies
others-listed : (m : Mixed) (i j : ℕ) (strategies : List ℕ) (at : ℕ → ℕ) → ((k : ℕ) → k < length strategies → at (j + k) ≡ get_or strategies k 0)
    → map (λ k. m k (at k)) (filter (λ k. not (k == i)) (range_with_len j (length strategies))) ≡ others_from m i j strategies
others-listed m i j [] at same = refl
others-listed m i j (s ∷ strategies) at same =
    go (j == i) (filter (λ k. not (k == i)) (range_with_len (j + 1) (length strategies)))
    (ap (λ n. map (λ k. m k (at k)) (filter (λ k. not (k == i)) (range_with_len n (length strategies)))) (add-one j)
    ∙ others-listed m i (suc j) strategies at (λ k l. ap at (let e : suc j + k ≡ j + suc k = omega arith in e) ∙ same (suc k) (omega (arith, l))))
  where
    first : at j ≡ s
    first = ap at (let e : j ≡ j + 0 = omega arith in e) ∙ same 0 (omega arith)

    go : (own : Bool) (ks : List ℕ) → map (λ k. m k (at k)) ks ≡ others_from m i (suc j) strategies
        → map (λ k. m k (at k)) (if not own then j ∷ ks else ks) ≡ (if own then [] else m j s ∷ []) ++ others_from m i (suc j) strategies
    go true ks h = h
    go false ks h = ap₂ (λ q qs. q ∷ qs) (ap (m j) first) h

-- from the first player on these are all
pub others-from_first : (m : Mixed) (i : ℕ) (profile : List ℕ) → others_probabilities m i profile ≡ others_from m i 0 profile
others-from_first m i profile = others-listed m i 0 profile (λ k. get_or profile k 0) (λ k l. ap (λ n. get_or profile n 0) (let e : 0 + k ≡ k = omega arith in e))

module _ (m : Mixed) (i : ℕ) where
  -- at the first player these are all
  pub all-left : (strategies : List ℕ) (r : Result ℚ Unfit) → GiveFrom m i 0 strategies one_ℚ r → StepsGive (product_steps one_ℚ (others_probabilities m i strategies)) (weight m i strategies) r
  all-left strategies r h =
      subst (λ qs. StepsGive (product_steps one_ℚ qs) (weight m i strategies) r) (sym (others-from_first m i strategies))
      (let start : mixed_from (own_as_one m i) 0 ≡ own_as_one m i = λ d k s. own_as_one m i ((let e : 0 + k ≡ k = omega arith in e) d) s in
      subst (λ v. StepsGive (product_steps one_ℚ (others_from m i 0 strategies)) v r) (one-*ℚ _ ∙ ap (λ x. probability x strategies) start) h)

  -- after the last player there are none
  pub none-left : (j : ℕ) (product : ℚ) → GiveFrom m i j [] product (Ok product)
  none-left j product = (sym (*ℚ-one product), λ k d l. absurd (omega (arith, l)))

  -- a product that is 0 is what they all give
  pub zero-left : (j : ℕ) (strategies : List ℕ) (product : ℚ) → product ≡ zero_ℚ → GiveFrom m i j strategies product (Ok product)
  zero-left j strategies product e = subst (λ x. GiveFrom m i j strategies x (Ok x)) (sym e) (sym (zero-*ℚ _), zero-stays (others_from m i j strategies))

  module _ (j s : ℕ) (strategies : List ℕ) where
    shifted : later (mixed_from (own_as_one m i) j) ≡ mixed_from (own_as_one m i) (suc j)
    shifted = λ d k t. own_as_one m i ((let e : j + suc k ≡ suc j + k = omega arith in e) d) t

    factor : mixed_from (own_as_one m i) j 0 s ≡ (if j == i then one_ℚ else m j s)
    factor = ap (λ k. own_as_one m i k s) (let e : j + 0 ≡ j = omega arith in e)

    value : probability (mixed_from (own_as_one m i) j) (s ∷ strategies) ≡ (if j == i then one_ℚ else m j s) *ℚ probability (mixed_from (own_as_one m i) (suc j)) strategies
    value = ap₂ (λ x y. x *ℚ y) factor (ap (λ x. probability x strategies) shifted)

    -- the player's own strategy is passed over
    pub own-left : (product : ℚ) (r : Result ℚ Unfit) → j ≡ i → GiveFrom m i (suc j) strategies product r → GiveFrom m i j (s ∷ strategies) product r
    own-left product r e h = go (j == i) (Decides-eqb j i) value
      where
        go : (b : Bool) → Decides b (j ≡ i) → probability (mixed_from (own_as_one m i) j) (s ∷ strategies) ≡ (if b then one_ℚ else m j s) *ℚ probability (mixed_from (own_as_one m i) (suc j)) strategies
            → StepsGive (product_steps product ((if b then [] else m j s ∷ []) ++ others_from m i (suc j) strategies)) (product *ℚ probability (mixed_from (own_as_one m i) j) (s ∷ strategies)) r
        go true d v = subst (λ x. StepsGive (product_steps product (others_from m i (suc j) strategies)) (product *ℚ x) r) (sym (v ∙ one-*ℚ _)) h
        go false d v = absurd (let yes = d.1 e in cc)

    -- another's probability is a factor
    pub other-left : (product q next : ℚ) (r : Result ℚ Unfit) → j ≢ i → q ≡ m j s → MulFits product q → next ≡ product *ℚ q → GiveFrom m i (suc j) strategies next r → GiveFrom m i j (s ∷ strategies) product r
    other-left product q next r ne is fits next_is h = go (j == i) (Decides-eqb j i) value
      where
        there : StepsGive (product_steps (product *ℚ m j s) (others_from m i (suc j) strategies)) ((product *ℚ m j s) *ℚ probability (mixed_from (own_as_one m i) (suc j)) strategies) r
        there = subst (λ x. GiveFrom m i (suc j) strategies x r) (next_is ∙ ap (λ x. product *ℚ x) is) h

        go : (b : Bool) → Decides b (j ≡ i) → probability (mixed_from (own_as_one m i) j) (s ∷ strategies) ≡ (if b then one_ℚ else m j s) *ℚ probability (mixed_from (own_as_one m i) (suc j)) strategies
            → StepsGive (product_steps product ((if b then [] else m j s ∷ []) ++ others_from m i (suc j) strategies)) (product *ℚ probability (mixed_from (own_as_one m i) j) (s ∷ strategies)) r
        go true d v = absurd (ne (d.0 refl))
        go false d v =
            following-gives (step_of Mul product (m j s) ∷ []) (product_steps (product *ℚ m j s) (others_from m i (suc j) strategies)) (product *ℚ probability (mixed_from (own_as_one m i) j) (s ∷ strategies)) r
            (one-fits (step_of Mul product (m j s)) (subst (MulFits product) is fits))
            (subst (λ x. StepsGive (product_steps (product *ℚ m j s) (others_from m i (suc j) strategies)) x r) (*ℚ_assoc product (m j s) _ ∙ ap (λ x. product *ℚ x) (sym v)) there)

    -- or the product with it is the first step that does not fit
    pub other-unfit : (product q : ℚ) (u : Step) → j ≢ i → q ≡ m j s → u ≡ step_of Mul product q → (MulFits product q → ⊥) → GiveFrom m i j (s ∷ strategies) product (Err u)
    other-unfit product q u ne is step fails = go (j == i) (Decides-eqb j i)
      where
        go : (b : Bool) → Decides b (j ≡ i) → IsFirstUnfit (product_steps product ((if b then [] else m j s ∷ []) ++ others_from m i (suc j) strategies)) u
        go true d = absurd (ne (d.0 refl))
        go false d =
            subst (IsFirstUnfit (step_of Mul product (m j s) ∷ product_steps (product *ℚ m j s) (others_from m i (suc j) strategies))) (sym (step ∙ ap (step_of Mul product) is))
            (first_unfit-here (step_of Mul product (m j s)) (product_steps (product *ℚ m j s) (others_from m i (suc j) strategies)) (λ fits. let back : MulFits product (m j s) = fits in fails (subst (MulFits product) (sym is) back)))

-- the strategies of the players from one on, in what is left of a profile's number
pub strategies-left : (ns : List ℕ) (j rest : ℕ) → j < length ns → profile_at (drop j ns) rest ≡ (rest % get_or ns j 0) ∷ profile_at (drop (suc j) ns) (rest / get_or ns j 0)
strategies-left ns j rest l = ap (λ v. profile_at v rest) (drop-cons ns j 0 l)

-- what is left of a profile's number where players have one strategy each
one-left : (rest n : ℕ) → n ≡ 1 → rest % n ≡ 0
one-left rest n e = subst (λ k. rest % k ≡ 0) (sym e) (omega arith)

one-kept : (rest n : ℕ) → n ≡ 1 → rest / n ≡ rest
one-kept rest n e = subst (λ k. rest / k ≡ rest) (sym e) (omega arith)

-- players with one strategy each, with the probability 1, are passed over
module _ (m : Mixed) (i : ℕ) (counts : List ℕ) where
  -- one of them
  one-passed : (j rest : ℕ) (product : ℚ) (r : Result ℚ Unfit) → j < length counts → get_or counts j 0 ≡ 1 → m j 0 ≡ one_ℚ → Fits product
      → GiveFrom m i (suc j) (profile_at (drop (suc j) counts) rest) product r → GiveFrom m i j (profile_at (drop j counts) rest) product r
  one-passed j rest product r l one sure fits h =
      subst (λ v. GiveFrom m i j v product r) (sym (strategies-left counts j rest l ∙ ap₂ (λ s k. s ∷ profile_at (drop (suc j) counts) k) (one-left rest (get_or counts j 0) one) (one-kept rest (get_or counts j 0) one)))
      (go (j == i) (Decides-eqb j i))
    where
      later : List ℕ
      later = profile_at (drop (suc j) counts) rest

      go : (b : Bool) → Decides b (j ≡ i) → GiveFrom m i j (0 ∷ later) product r
      go true d = own-left m i j 0 later product r (d.0 refl) h
      go false d =
          other-left m i j 0 later product one_ℚ product r (λ e. let yes = d.1 e in absurd (cc)) (sym sure)
          (subst Fits (sym (*ℚ-one product)) fits) (sym (*ℚ-one product)) h

  -- a run of them
  all-passed : (gap j end rest : ℕ) (product : ℚ) (r : Result ℚ Unfit) → j + gap ≡ end → end ≤ length counts → PlayForSure counts m j end → Fits product
      → GiveFrom m i end (profile_at (drop end counts) rest) product r → GiveFrom m i j (profile_at (drop j counts) rest) product r
  all-passed zero j end rest product r e within one fits h =
      let same : end ≡ j = omega arith in
      subst (λ k. GiveFrom m i k (profile_at (drop k counts) rest) product r) same h
  all-passed (suc gap) j end rest product r e within one fits h =
      one-passed j rest product r (omega arith) (one.one_strategy j (omega arith) (omega arith)) (one.for_sure j (omega arith) (omega arith)) fits
      (all-passed gap (suc j) end rest product r (omega arith) within
      (record { one_strategy = λ k l b. one.one_strategy k (omega (arith, l)) b; for_sure = λ k l b. one.for_sure k (omega (arith, l)) b }) fits h)

  -- from one player to a later one
  pub passed-over : (j end rest : ℕ) (product : ℚ) (r : Result ℚ Unfit) → j ≤ end → end ≤ length counts → PlayForSure counts m j end → Fits product
      → GiveFrom m i end (profile_at (drop end counts) rest) product r → GiveFrom m i j (profile_at (drop j counts) rest) product r
  passed-over j end rest product r le = all-passed (end - j) j end rest product r (omega (arith, le))

one-num : one_ℚ.num ≡ pos 1
unfolding frac gcd
one-num = refl

one-den : one_ℚ.den ≡ 1
unfolding frac gcd
one-den = refl

-- 1 fits
pub one-within : Fits one_ℚ
one-within = record { num = omega (arith, ap nat_abs one-num); den = omega (arith, one-den) }
