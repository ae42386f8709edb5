-- A system reaches all its bases, or there is a reason why one of them is not reached.
use Rattle.std.proofs.Common.{ℕ, zero, suc, ◌+◌, ◌^◌, ◌<◌, ◌≤◌, ◌≡◌, inl, inr, refl, sym, ◌∙◌, subst, arith, All, List, [], ◌∷◌, ◌++◌, length, get_or, Result, Ok, Err}
use Rattle.std.specs.List.{Contains}
use Rattle.std.proofs.lemmas.List.Elements.{Contains-append_right, Contains-get_or}
use Rattle.answers.specs.Answers.{◌>>◌, only, refused_by, such_that}
use Rattle.answers.specs.Answered.{IsAnswered}
use Rattle.answers.proofs.AnsweredLemmas.{answered, bind-answered, only-answered, such_that-answered, refuse_where-answered, refused_by-answered}
use Rattle.lists.proofs.DeniedLemmas.{listed_below}
use Rattle.lists.proofs.ListedLemmas.{listed-same}
use Rattle.lists.proofs.ElementLemmas.{first_in, rest_in}
use Rattle.rational.proofs.Field.{ne_of_lt}
use Rattle.frac128.specs.FirstUnfit.{StepsFit, all_fit}
use Rattle.frac128.proofs.FirstUnfitLemmas.{all_fit-answered}
use Rattle.game_core.specs.Limits.{within}
use Rattle.game_core.specs.declared.too_large.What.TheVariants as what
use Rattle.lex_tableau.specs.Rows.{WholeTableau, IsTableau}
use Rattle.lex_tableau.specs.Starts.{LinearSystem, IsSystem}
use Rattle.lex_tableau.specs.StartStops.{start_in}
use Rattle.lex_tableau.proofs.AnsweredPivotLemmas.{pivot_made}
use Rattle.lex_tableau.proofs.AnsweredStartLemmas.{start_in-answered}
use Rattle.lex_tableau.proofs.TableauPivotLemmas.{rated_in}
use Rattle.basis_enum.specs.AnsweredLaws.{ReachedAreAnswered}
use Rattle.basis_enum.specs.Levels.{Levels, Pivot, AreNextPivots, IsAfterPivot, IsEarlierPivot, IsNew, IsNextLevel, IsPivot, basis_count, entering, first_level, most_bases, no_pivot, no_tableau, parent_of, steps_of, target}
use Rattle.basis_enum.specs.Reached.{bases_within, level_of, next_level, next_pivots, pivots_fit, reached_in, start_level, told_start}
use Rattle.basis_enum.specs.Systems.{IsEnumerable}
use Rattle.basis_enum.specs.declared.stop.EnumerationStop.{EnumerationStop}
use Rattle.basis_enum.specs.declared.stop.EnumerationStop.TheVariants.{Range, TooLarge}
use Rattle.lists.proofs.ChosenElementLemmas.{least_one, one_of_each, some_bound}
use Rattle.basis_enum.proofs.CompleteLevelLaws.{Held, held_digits, level_held}
use Rattle.basis_enum.proofs.LevelLemmas.{level_few, level_many}
use Rattle.basis_enum.proofs.NeighbourLemmas.{neighbour_below}

-- ---- the pivots to the next level
module _ (l : Levels) where
  -- a pivot to a new basis
  abbrev IsNewPivot : Pivot → Type 0
  IsNewPivot p = IsPivot l.level p × IsNew l (target l.level p)

  -- and the first of those that lead there
  record IsFirstPivot (p : Pivot) : Type 0 where
    pub pivot : IsPivot l.level p
    pub new : IsNew l (target l.level p)
    pub first : (q : Pivot) → IsPivot l.level q → target l.level q ≡ target l.level p → ¬ (IsEarlierPivot l.level q p)

  -- some pivot is the first to its basis
  first_pivot : (p : Pivot) → IsNewPivot p → ¬ ¬ ((q : Pivot) × IsFirstPivot q × (target l.level q ≡ target l.level p))
  first_pivot p new none =
      least_one (λ (q : Pivot). q.parent) (λ q. IsPivot l.level q × (target l.level q ≡ target l.level p)) p (new.0, refl) (λ a.
      least_one (entering l.level) (λ q. IsPivot l.level q × (target l.level q ≡ target l.level p) × (q.parent ≡ a.0.parent)) a.0 (a.1.0, a.1.1, refl) (λ b. none (
        b.0,
        record {
          pivot = b.1.0;
          new = subst (IsNew l) (sym b.1.1) new.1;
          first = λ q is same earlier. elim earlier [
            | inl less ↦ omega (arith, less, b.1.2, a.2 q (is, same ∙ b.1.1))
            | inr later ↦ omega (arith, later.1, b.2 q (is, same ∙ b.1.1, later.0 ∙ b.1.2))
          ];
        },
        b.1.1,
      )))

  -- they have a list
  pivots_exist : ((p : Pivot) → IsPivot l.level p → target l.level p < 2 ^ 128) → ¬ ¬ ((pivots : List Pivot) × AreNextPivots l pivots)
  pivots_exist below none = one_of_each (target l.level) IsNewPivot IsFirstPivot (2 ^ 128) (λ p new. below p new.0) first_pivot (λ found. none (
    found.0,
    record {
      each = λ p c. (found.1.each p c).pivot;
      new = λ p c. (found.1.each p c).new;
      ascending = found.1.ascending;
      all = λ p is new. found.1.all p (is, new);
      first = λ p q c. (found.1.each p c).first q;
    },
  ))

-- ---- their steps
-- they fit, or one pivot is the first with one that does not
pivots_fit-answered : (k : ℕ) (level : List WholeTableau) (pivots : List Pivot) → IsAnswered (pivots_fit k level pivots)
pivots_fit-answered k level pivots none = all_fit-answered (steps_of level) pivots by
  where
    by : (answer : Result (Unit {0}) _) → ¬ (all_fit (steps_of level) pivots answer)
    by (Ok _) fit = none (Ok tt) fit
    by (Err (pivot, step)) first =
        let basics = (parent_of level pivot).basics in
        let bound = some_bound (λ v. v) basics in
        listed_below (Contains basics) bound.0 (λ listed. none (Err (Range k listed.0 (entering level pivot) step)) (record {
          pivot = pivot;
          step = step;
          first = first;
          basis = listed.0;
          ascending = listed-same _ (Contains basics) listed.0 listed.1 (λ v q. q.1) (λ v c. (bound.1 v c, c));
          told = refl;
        }))

-- ---- the tableaux after them
module _ (level : List WholeTableau) (valid : (t : WholeTableau) → Contains level t → IsTableau t) where
  -- a pivot whose steps fit makes one
  tableau_exists : (p : Pivot) → IsPivot level p → StepsFit (steps_of level) p → (t : WholeTableau) × IsAfterPivot level p t
  tableau_exists p is fit =
      let made = pivot_made (parent_of level p) p.row p.column (valid (parent_of level p) (Contains-get_or level p.parent no_tableau is.parent)) is.row.within is.column (λ e. ne_of_lt _ _ is.row.positive (sym e)) fit in
      (made.0, record { is_tableau = made.1.is_tableau; pivot = made.1.pivot })

  -- and so do all
  tableaux_exist : (pivots : List Pivot) → ((p : Pivot) → Contains pivots p → IsPivot level p) → All (StepsFit (steps_of level)) pivots → (ts : List WholeTableau) × (length ts ≡ length pivots) × ((i : ℕ) → i < length pivots → IsAfterPivot level (get_or pivots i no_pivot) (get_or ts i no_tableau))
  tableaux_exist [] are fit = ([], refl, λ i l. absurd (omega (arith, l)))
  tableaux_exist (p ∷ pivots) are fit =
      let here = tableau_exists p (are p (first_in p pivots)) (fit 0 p (omega arith)) in
      let rest = tableaux_exist pivots (λ q c. are q (rest_in p q pivots c)) (λ k d l. fit (suc k) d (omega (arith, l))) in
      (here.0 ∷ rest.0, omega (arith, rest.1), at here.0 here.1 rest.0 rest.2)
    where
      at : (t : WholeTableau) → IsAfterPivot level p t → (ts : List WholeTableau) → ((i : ℕ) → i < length pivots → IsAfterPivot level (get_or pivots i no_pivot) (get_or ts i no_tableau)) → (i : ℕ) → i < suc (length pivots) → IsAfterPivot level (get_or (p ∷ pivots) i no_pivot) (get_or (t ∷ ts) i no_tableau)
      at t here ts rest zero l = here
      at t here ts rest (suc i) l = rest i (omega (arith, l))

-- ---- the next level
module _ (k : ℕ) (l : Levels) (valid : (t : WholeTableau) → Contains l.level t → IsTableau t) where
  -- where there are pivots to it, there is one, or a reason why not
  next_level-answered : (pivots : List Pivot) → AreNextPivots l pivots → 0 < length pivots → IsAnswered (next_level k l)
  next_level-answered pivots are some =
      bind-answered (next_pivots l) (λ next. bases_within (basis_count l next) >> (pivots_fit k l.level next >> such_that (IsNextLevel l next))) (answered (next_pivots l) (Ok pivots) (are, some))
      (λ next is. bind-answered (bases_within (basis_count l next)) (λ _. pivots_fit k l.level next >> such_that (IsNextLevel l next)) (refused_by-answered TooLarge (within what.Bases most_bases (basis_count l next)) (refuse_where-answered _ _))
      (λ _ _. bind-answered (pivots_fit k l.level next) (λ _. such_that (IsNextLevel l next)) (pivots_fit-answered k l.level next)
      (λ _ fit. such_that-answered (IsNextLevel l next) (λ none. let ts = tableaux_exist l.level valid next is.0.each fit in none (record { before = l.before ++ l.level; level = ts.0 }) (record { before = refl; size = ts.1; tableaux = ts.2 })))))

-- ---- all levels
module _ (s : LinearSystem) (is_system : IsSystem s) (enumerable : IsEnumerable s) where
  -- level 0 is there, or a step of it does not fit
  start_level-answered : IsAnswered (start_level s)
  start_level-answered = bind-answered (refused_by told_start (start_in s)) (λ start. only (first_level start)) (refused_by-answered told_start (start_in s) (start_in-answered s is_system)) (λ start _. only-answered (first_level start))

  module _ (none : (answer : Result (List WholeTableau) EnumerationStop) → ¬ (reached_in s answer)) where
    -- where no next level is reached, neither is this one
    no_level_before : (k : ℕ) (l : Levels) → level_of s k (Ok l) → ((next : Levels) → level_of s (suc k) (Ok next) → ⊥) → ⊥
    no_level_before k l h later = pivots_exist l below (λ next. go next.0 next.1)
      where
        held : (t : WholeTableau) → Contains l.level t → Held s t
        held t c = level_held s k l is_system enumerable h t (Contains-append_right l.before l.level t c)

        below : (p : Pivot) → IsPivot l.level p → target l.level p < 2 ^ 128
        below p is =
            let there = held (parent_of l.level p) (Contains-get_or l.level p.parent no_tableau is.parent) in
            neighbour_below (parent_of l.level p) p.row p.column there.is_tableau (held_digits s (parent_of l.level p) enumerable there) (rated_in (parent_of l.level p) p.row there.is_tableau is.row.within) is.column

        by : (answer : Result Levels EnumerationStop) → ¬ (next_level k l answer)
        by (Ok next) is = later next (l, h, is)
        by (Err stop) is = none (Err stop) (suc k, inr (l, h, is))

        go : (pivots : List Pivot) → AreNextPivots l pivots → ⊥
        go [] are = none (Ok (l.before ++ l.level)) (record { number = k; levels = l; is_level = h; none = are; all = refl })
        go (p ∷ pivots) are = next_level-answered k l (λ t c. (held t c).is_tableau) (p ∷ pivots) are (omega arith) by

    -- no level is reached, since there are not too many bases
    no_level : (left k : ℕ) (l : Levels) → most_bases ≤ left + k → level_of s k (Ok l) → ⊥
    no_level zero k l few h = omega (arith, few, level_few s k l h, level_many s k l h)
    no_level (suc left) k l few h = no_level_before k l h (λ next is. no_level left (suc k) next (omega (arith, few)) is)

    -- nor is level 0
    no_start : (answer : Result Levels EnumerationStop) → ¬ (level_of s 0 answer)
    no_start (Ok l) h = no_level most_bases 0 l (omega arith) h
    no_start (Err stop) h = none (Err stop) (0, h)

-- a system has its bases, or a reason why not
pub reached-answered : ReachedAreAnswered
reached-answered s is_system enumerable none = start_level-answered s is_system enumerable (no_start s is_system enumerable none)
