-- A player's own sets, decided from the last to the first.
use Rattle.std.proofs.Common.{ℕ, suc, ◌<◌, ◌≤◌, ◌≡◌, inl, inr, Some, List, [], ◌∷◌, ◌++◌, length, All, refl, sym, ap, ◌∙◌, subst, arith}
use Rattle.std.specs.Prelude.{reverse}
use Rattle.std.specs.List.{flat_map}
use Rattle.std.proofs.lemmas.Bool.{cases_lt}
use Rattle.std.proofs.lemmas.Grind.{flat_map-append}
use Rattle.std.proofs.lemmas.List.{append-nil, reverse-append}
use Rattle.std.proofs.lemmas.List.Elements.{All-nil, All-append}
use Rattle.rational.specs.Rational.{ℚ}
use Rattle.game_theory.specs.Trees.{Tree}
use Rattle.game_theory.specs.Behaviour.{Behaviour}
use Rattle.game_theory.specs.OwnSets.{own_sets}
use Rattle.game_theory.proofs.OwnSetLemmas.{AscendFrom, IsAmong, IsAmong-from, IsAmong-parts, IsAmong-right, own_sets-ascend, own_sets-has, own_sets-tell}
use Rattle.frac128.specs.Steps.{Step, StepFits, IsFirstUnfit}
use Rattle.frac128.proofs.StepRunLemmas.{first_unfit-more, first_unfit-following}
use Rattle.verdicts.specs.TreeReplies.{AreDecided}
use Rattle.verdicts.specs.TreeSteps.{decision_steps, decisions}

-- ---- an own set between those before it and the later ones
-- it is greater than those before
between-greater : (n s r : ℕ) (before later : List ℕ) → AscendFrom n (before ++ s ∷ later) → IsAmong before r → r < s
between-greater n s r [] later up among = absurd among
between-greater n s r (x ∷ before) later up (inl same) = omega (arith, IsAmong-from (suc x) (before ++ s ∷ later) s up.1 (IsAmong-right before (s ∷ later) s (inl refl)))
between-greater n s r (x ∷ before) later up (inr among) = between-greater (suc x) s r before later up.1 among

-- the later ones are greater
between-less : (n s r : ℕ) (before later : List ℕ) → AscendFrom n (before ++ s ∷ later) → IsAmong later r → s < r
between-less n s r [] later up among = omega (arith, IsAmong-from (suc s) later r up.1 among)
between-less n s r (x ∷ before) later up among = between-less (suc x) s r before later up.1 among

-- it is one of the tree's, and the player's
pub between-own : (t : Tree) (i s : ℕ) (before later : List ℕ) → before ++ s ∷ later ≡ own_sets t i → (s < t.sets) × (t.owner s ≡ Some i)
between-own t i s before later own = own_sets-tell t i s (subst (λ sets. IsAmong sets s) own (IsAmong-right before (s ∷ later) s (inl refl)))

-- the steps of one more set after those of later sets
pub turned : (f : ℕ → List Step) (n : ℕ) (later : List ℕ) → flat_map f (reverse (n ∷ later)) ≡ flat_map f (reverse later) ++ f n
turned f n later = ap (flat_map f) (reverse-append (n ∷ []) later) ∙ flat_map-append f (reverse later) (n ∷ []) ∙ ap (λ x. flat_map f (reverse later) ++ x) (append-nil (f n))

module _ (t : Tree) (b : Behaviour) (i : ℕ) (choice : ℕ → ℕ) (weights : List ℚ) where
  -- where all own sets from one number on have another number or greater ones, what is decided from
  -- the other on is decided from the one on
  decided-earlier : (choices : List ℕ) (values : List ℚ) (n first : ℕ) → first ≤ t.sets → ((r : ℕ) → n ≤ r → r < t.sets → t.owner r ≡ Some i → first ≤ r) → AreDecided t b i choice weights choices values first 0 → AreDecided t b i choice weights choices values n 0
  decided-earlier choices values n first within later h = record {
    best = h.best;
    ascend = h.ascend;
    weights_are = h.weights_are;
    choices_are = λ r from l o. h.choices_are r (later r from l o) l o;
    values_are = λ c r p l e o computed. h.values_are c r p l e o (elim computed [
      | inl from ↦ inl (elim (cases_lt r t.sets) [ inl inside ↦ later r from inside o | inr past ↦ omega arith ])
      | inr now ↦ absurd (omega (arith, now.1))
    ]);
  }

  -- the own sets after those before are decided, and the steps of their decisions fit
  pub record AreAllDecided (choices : List ℕ) (values : List ℚ) (before later : List ℕ) : Type 0 where
    pub decided : (n : ℕ) → ((r : ℕ) → IsAmong before r → r < n) → AreDecided t b i choice weights choices values n 0
    pub fit : All StepFits (flat_map (decision_steps t b i choice) (reverse later))

  -- before the last one none is
  pub all-none : (choices : List ℕ) (values : List ℚ) (left : List ℕ) → left ≡ own_sets t i → AreDecided t b i choice weights choices values t.sets 0 → AreAllDecided choices values left []
  all-none choices values left all h = record {
    decided = λ n above. decided-earlier choices values n t.sets (omega arith) (λ r from l o. absurd (omega (arith, above r (subst (λ sets. IsAmong sets r) (sym all) (own_sets-has t i r l o))))) h;
    fit = All-nil StepFits;
  }

  -- where none is left all are
  pub all-done : (choices : List ℕ) (values : List ℚ) (left later : List ℕ) → length left ≡ 0 → left ++ later ≡ own_sets t i → AreAllDecided choices values left later → AreDecided t b i choice weights choices values 0 0 × All StepFits (decisions t b i choice)
  all-done choices values [] later none own h = (h.decided 0 (λ r among. absurd among), subst (λ sets. All StepFits (flat_map (decision_steps t b i choice) (reverse sets))) own h.fit)
  all-done choices values (s ∷ left) later none own h = absurd (omega arith)

  module _ (choices : List ℕ) (values : List ℚ) (s : ℕ) (left before later : List ℕ) (last : left ≡ before ++ s ∷ []) (own : before ++ s ∷ later ≡ own_sets t i) (h : AreAllDecided choices values left later) where
    ascend : AscendFrom 0 (before ++ s ∷ later)
    ascend = subst (AscendFrom 0) (sym own) (own_sets-ascend t i)

    -- those from the one after the last of these on are decided
    pub later-decided : AreDecided t b i choice weights choices values (suc s) 0
    later-decided = h.decided (suc s) (λ r among. elim (IsAmong-parts before (s ∷ []) r (subst (λ sets. IsAmong sets r) last among)) [
      | inl earlier ↦ omega (arith, between-greater 0 s r before later ascend earlier)
      | inr (inl same) ↦ omega arith
      | inr (inr none) ↦ absurd none
    ])

    -- one more own set
    pub all-own : (new : List ℕ) (more : List ℚ) → AreDecided t b i choice weights new more s 0 → All StepFits (decision_steps t b i choice s) → AreAllDecided new more before (s ∷ later)
    all-own new more decided fits = record {
      decided = λ n above. decided-earlier new more n s (omega (arith, (between-own t i s before later own).0)) (λ r from l o. from_here n r above from (subst (λ sets. IsAmong sets r) (sym own) (own_sets-has t i r l o))) decided;
      fit = subst (All StepFits) (sym (turned (decision_steps t b i choice) s later)) (All-append StepFits (flat_map (decision_steps t b i choice) (reverse later)) (decision_steps t b i choice s) h.fit fits);
    }
      where
        from_here : (n r : ℕ) → ((q : ℕ) → IsAmong before q → q < n) → n ≤ r → IsAmong (before ++ s ∷ later) r → s ≤ r
        from_here n r above from among = elim (IsAmong-parts before (s ∷ later) r among) [
          | inl earlier ↦ absurd (omega (arith, above r earlier))
          | inr (inl same) ↦ omega arith
          | inr (inr past) ↦ omega (arith, between-less 0 s r before later ascend past)
        ]

    -- the first step of a decision that does not fit is that of all decisions
    pub decision-refused : (u : Step) → IsFirstUnfit (decision_steps t b i choice s) u → IsFirstUnfit (decisions t b i choice) u
    decision-refused u refused =
        let f = decision_steps t b i choice in
        let whole : decisions t b i choice ≡ (flat_map f (reverse later) ++ f s) ++ flat_map f (reverse before) =
        ap (λ xs. flat_map f (reverse xs)) (sym own) ∙ ap (flat_map f) (reverse-append before (s ∷ later)) ∙ flat_map-append f (reverse (s ∷ later)) (reverse before)
        ∙ ap (λ x. x ++ flat_map f (reverse before)) (turned f s later) in
        subst (λ steps. IsFirstUnfit steps u) (sym whole) (first_unfit-more (flat_map f (reverse later) ++ f s) _ u (first_unfit-following (flat_map f (reverse later)) (f s) u h.fit refused))
