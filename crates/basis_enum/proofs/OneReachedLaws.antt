-- A system reaches its bases in one way
use Rattle.std.proofs.Common.{ℕ, suc, zero, ◌≡◌, ◌<◌, ◌≤◌, refl, sym, ap, ap₂, ◌∙◌, subst, arith, inl, inr, List, [], ◌++◌, length, get_or, eq-or-lt_of_le, le_of_suc-le-suc, Result, Ok, Err}
use Rattle.std.proofs.lemmas.Bool.{cases_lt, cases_order}
use Rattle.std.proofs.lemmas.List.{same_lists, get_or_default}
use Rattle.std.specs.List.{Contains}
use Rattle.answers.specs.Answers.{Answer, ◌>>◌, only, such_that, refused_by, IsSingle}
use Rattle.answers.proofs.AnswerLemmas.{bind-single, only-single, refuse_where-single, refused_by-single, single-exclude, single-value, such_that-single}
use Rattle.frac128.proofs.FirstUnfitLemmas.{no_stop, same_stop}
use Rattle.game_core.specs.Limits.{too_large, within}
use Rattle.game_core.specs.declared.too_large.What.TheVariants as what
use Rattle.lex_tableau.specs.Rows.{WholeTableau, IsTableau}
use Rattle.lex_tableau.specs.Starts.{LinearSystem}
use Rattle.lex_tableau.specs.StartStops.{start_in}
use Rattle.lex_tableau.proofs.TableauLemmas.{pivot_once}
use Rattle.lex_tableau.proofs.SystemLemmas.{start_in-single}
use Rattle.lists.specs.Listed.{AreListed}
use Rattle.basis_enum.specs.Levels.{Levels, Pivot, AreNextPivots, IsAfterPivot, IsNextLevel, no_pivot, no_tableau, parent_of, entering, steps_of, basis_count, most_bases, first_level}
use Rattle.basis_enum.specs.Reached.{AreReached, IsUnfitPivot, ReachedAreSingle, bases_within, level_of, next_level, next_pivots, pivots_fit, told_start}
use Rattle.basis_enum.specs.declared.stop.EnumerationStop.{EnumerationStop}
use Rattle.basis_enum.specs.declared.stop.EnumerationStop.TheVariants.{Range, TooLarge}
use Rattle.lists.proofs.ListedLemmas.{listed-once}
use Rattle.basis_enum.proofs.LevelLemmas.{level_valid}
use Rattle.basis_enum.proofs.NextPivotLemmas.{pivots_once}

-- ---- one level is next
levels_same : (l m : Levels) → l.before ≡ m.before → l.level ≡ m.level → l ≡ m
levels_same l m p q = ap₂ (λ x y. record { before = x; level = y }) p q

after_once : (level : List WholeTableau) (m : Pivot) (a b : WholeTableau) → IsAfterPivot level m a → IsAfterPivot level m b → a ≡ b
after_once level m a b p q = pivot_once (parent_of level m) a b m.row m.column p.is_tableau q.is_tableau p.pivot q.pivot

tableaux_once : (p : Levels) (pivots : List Pivot) (l m : Levels) → IsNextLevel p pivots l → IsNextLevel p pivots m → l ≡ m
tableaux_once p pivots l m h g = levels_same l m (h.before ∙ sym g.before) (same_lists l.level m.level (h.size ∙ sym g.size) each)
  where
    each : (i : ℕ) (d : WholeTableau) → i < length l.level → get_or l.level i d ≡ get_or m.level i d
    each i d w =
        let first : length l.level ≡ length pivots = h.size in
        let second : length m.level ≡ length pivots = g.size in
        get_or_default l.level i d no_tableau w
        ∙ after_once p.level (get_or pivots i no_pivot) _ _ (h.tableaux i (omega arith)) (g.tableaux i (omega arith))
        ∙ get_or_default m.level i no_tableau d (omega arith)

-- ---- one pivot is the first that does not fit
told_once : (k : ℕ) (level : List WholeTableau) (pivots : List Pivot) (a b : EnumerationStop) → IsUnfitPivot k level pivots a → IsUnfitPivot k level pivots b → a ≡ b
told_once k level pivots a b h g =
    let same = same_stop (steps_of level) pivots h.pivot g.pivot h.step g.step h.first g.first in
    let lists : h.basis ≡ g.basis = listed-once (Contains (parent_of level g.pivot).basics) h.basis g.basis (subst (λ m. AreListed (Contains (parent_of level m).basics) h.basis) same.0 h.ascending) g.ascending in
    h.told ∙ ap (λ b. Range k b (entering level h.pivot) h.step) lists ∙ ap₂ (λ m step. Range k g.basis (entering level m) step) same.0 same.1 ∙ sym g.told

pivots_fit-single : (k : ℕ) (level : List WholeTableau) (pivots : List Pivot) → IsSingle (pivots_fit k level pivots)
pivots_fit-single k level pivots (Ok _) (Ok _) h g = refl
pivots_fit-single k level pivots (Ok _) (Err stop) h g = absurd (no_stop (steps_of level) pivots g.pivot g.step g.first h)
pivots_fit-single k level pivots (Err stop) (Ok _) h g = absurd (no_stop (steps_of level) pivots h.pivot h.step h.first g)
pivots_fit-single k level pivots (Err a) (Err b) h g = ap Err (told_once k level pivots a b h g)

bases_within-single : (n : ℕ) → IsSingle (bases_within n)
bases_within-single n = refused_by-single TooLarge (within what.Bases most_bases n) (refuse_where-single (most_bases < n) (too_large what.Bases most_bases n))

-- ---- each level is one
module _ (k : ℕ) (l : Levels) where
  abbrev from_steps : List Pivot → Answer EnumerationStop Levels
  from_steps pivots = pivots_fit k l.level pivots >> such_that (IsNextLevel l pivots)

  abbrev from_count : List Pivot → Answer EnumerationStop Levels
  from_count pivots = bases_within (basis_count l pivots) >> from_steps pivots

  abbrev AreSomeNext : List Pivot → Type 0
  AreSomeNext pivots = AreNextPivots l pivots × (0 < length pivots)

  module _ (valid : (t : WholeTableau) → Contains l.level t → IsTableau t) where
    next_level-single : IsSingle (next_level k l)
    next_level-single =
        bind-single (next_pivots l) from_count (such_that-single AreSomeNext (λ a b h g. pivots_once l a b valid h.0 g.0))
        (λ pivots _. bind-single (bases_within (basis_count l pivots)) (λ _. from_steps pivots) (bases_within-single (basis_count l pivots))
        (λ _ _. bind-single (pivots_fit k l.level pivots) (λ _. such_that (IsNextLevel l pivots)) (pivots_fit-single k l.level pivots)
        (λ _ _. such_that-single (IsNextLevel l pivots) (tableaux_once l pivots))))

    -- where no basis is next there is no next level
    none_next : AreNextPivots l [] → (answer : Result Levels EnumerationStop) → next_level k l answer → ⊥
    none_next none (Ok m) (pivots, (are, some), _) =
        let c : 0 ≡ length pivots = ap length (pivots_once l [] pivots valid none are) in omega arith
    none_next none (Err r) (inl h) = h
    none_next none (Err r) (inr (pivots, (are, some), _)) =
        let c : 0 ≡ length pivots = ap length (pivots_once l [] pivots valid none are) in omega arith

module _ (s : LinearSystem) where
  level_of-single : (k : ℕ) → IsSingle (level_of s k)
  level_of-single zero =
      bind-single (refused_by told_start (start_in s)) (λ start. only (first_level start)) (refused_by-single told_start (start_in s) (start_in-single s)) (λ start _. only-single (first_level start))
  level_of-single (suc k) =
      bind-single (level_of s k) (next_level k) (level_of-single k) (λ l h. next_level-single k l (level_valid s k l h))

  -- ---- a refusal is that of all later levels
  refused_later : (k j : ℕ) (stop : EnumerationStop) → level_of s k (Err stop) → k ≤ j → level_of s j (Err stop)
  refused_later k zero stop h l = (let first : k ≡ 0 = omega arith in subst (λ i. level_of s i (Err stop)) first h)
  refused_later k (suc j) stop h l = elim (eq-or-lt_of_le l) [
    | inl e ↦ subst (λ i. level_of s i (Err stop)) e h
    | inr m ↦ inl (refused_later k j stop h (le_of_suc-le-suc m))
  ]

  refusals_once : (k j : ℕ) (r q : EnumerationStop) → level_of s k (Err r) → level_of s j (Err q) → k ≤ j → r ≡ q
  refusals_once k j r q h g l =
      let same : ◌≡◌ {A = Result Levels EnumerationStop} (Err r) (Err q) = level_of-single j (Err r) (Err q) (refused_later k j r h l) g in cc same

  -- ---- after the last level there is nothing
  level_before : (j : ℕ) (answer : Result Levels EnumerationStop) → level_of s (suc j) answer → (earlier : Result Levels EnumerationStop) × level_of s j earlier
  level_before j (Ok m) (p, hp, _) = (Ok p, hp)
  level_before j (Err r) (inl h) = (Err r, h)
  level_before j (Err r) (inr (p, hp, _)) = (Ok p, hp)

  module _ (k : ℕ) (l : Levels) (h : level_of s k (Ok l)) (none : AreNextPivots l []) where
    last_next : (answer : Result Levels EnumerationStop) → level_of s (suc k) answer → ⊥
    last_next (Ok m) (p, hp, q) =
        none_next k l (level_valid s k l h) none (Ok m) (subst (λ p. next_level k p (Ok m)) (single-value (level_of s k) p l (level_of-single k) hp h) q)
    last_next (Err r) (inl g) = single-exclude (level_of s k) l r (level_of-single k) h g
    last_next (Err r) (inr (p, hp, q)) =
        none_next k l (level_valid s k l h) none (Err r) (subst (λ p. next_level k p (Err r)) (single-value (level_of s k) p l (level_of-single k) hp h) q)

    nothing_after : (j : ℕ) → k < j → (answer : Result Levels EnumerationStop) → level_of s j answer → ⊥
    nothing_after zero less answer g = omega arith
    nothing_after (suc j) less answer g = elim (eq-or-lt_of_le (le_of_suc-le-suc less)) [
      | inl e ↦ last_next answer (subst (λ i. level_of s (suc i) answer) (sym e) g)
      | inr m ↦ (let b = level_before j answer g in nothing_after j m b.0 b.1)
    ]

  -- ---- what is reached
  lists_once : (a b : List WholeTableau) → AreReached s a → AreReached s b → a ≡ b
  lists_once a b h g = elim (cases_order h.number g.number) [
    | inl same ↦ h.all ∙ ap (λ (l : Levels). l.before ++ l.level) (single-value (level_of s h.number) h.levels g.levels (level_of-single h.number) h.is_level (subst (λ i. level_of s i (Ok g.levels)) (sym same) g.is_level)) ∙ sym g.all
    | inr (inl l) ↦ absurd (nothing_after h.number h.levels h.is_level h.none g.number l (Ok g.levels) g.is_level)
    | inr (inr l) ↦ absurd (nothing_after g.number g.levels g.is_level g.none h.number l (Ok h.levels) h.is_level)
  ]

  no_both : (a : List WholeTableau) (r : EnumerationStop) → AreReached s a → (k : ℕ) → level_of s k (Err r) → ⊥
  no_both a r h k g = elim (cases_lt h.number k) [
    | inl l ↦ nothing_after h.number h.levels h.is_level h.none k l (Err r) g
    | inr l ↦ single-exclude (level_of s h.number) h.levels r (level_of-single h.number) h.is_level (refused_later k h.number r g l)
  ]

pub reached_once : ReachedAreSingle
reached_once s (Ok a) (Ok b) h g = ap Ok (lists_once s a b h g)
reached_once s (Ok a) (Err r) h (k, g) = absurd (no_both s a r h k g)
reached_once s (Err r) (Ok b) (k, h) g = absurd (no_both s b r g k h)
reached_once s (Err r) (Err q) (k, h) (j, g) = elim (cases_lt k j) [
  | inl l ↦ ap Err (refusals_once s k j r q h g (omega (arith, l)))
  | inr l ↦ ap Err (sym (refusals_once s j k q r g h l))
]
