-- A game has a pair of systems, or a reason why it has none.
use Rattle.std.proofs.Common.{ℕ, ◌+◌, ◌*◌, ◌^◌, ◌<◌, ◌≤◌, ◌≡◌, ◌≢◌, inl, inr, [], ◌∷◌, List, length, map, get_or, sum, refl, sym, ap, ◌∙◌, subst, arith}
use Rattle.std.specs.List.{range_with_len}
use Rattle.std.proofs.lemmas.Bool.{cases_lt}
use Rattle.std.proofs.lemmas.List.{get_or_past}
use Rattle.std.proofs.lemmas.List.FromFn.{get_or-map-range_with_len, length-map-range_with_len}
use Rattle.answers.specs.Answers.{◌>>=◌, ◌>>◌, only, refuse_where, refused_by}
use Rattle.answers.specs.Answered.{IsAnswered}
use Rattle.answers.proofs.AnsweredLemmas.{bind-answered, only-answered, such_that-answered, refuse_where-answered, refused_by-answered}
use Rattle.lists.proofs.ElementLemmas.{two-elements}
use Rattle.rational.specs.Rational.{ℚ, zero_ℚ}
use Rattle.rational.specs.Extremes.{IsLeast}
use Rattle.rational.proofs.SomeExtremeLemmas.{least-of}
use Rattle.linear_systems.specs.Tableau.{Tableau}
use Rattle.linear_systems.specs.Rows.{HasDistinctVariables, Alike}
use Rattle.linear_systems.proofs.AgreementLemmas.{alike_distinct}
use Rattle.game_theory.specs.Profiles.{Game, profile_count}
use Rattle.game_theory.proofs.ProfileCountLemmas.{profile_count-positive}
use Rattle.frac128.proofs.FirstUnfitLemmas.{all_fit-answered}
use Rattle.game_core.specs.Limits.{within}
use Rattle.game_core.specs.declared.too_large.What.TheVariants as what
use Rattle.extreme_equilibria.specs.Bimatrix.{shifted, shift_of}
use Rattle.extreme_equilibria.specs.TwoPlayers.{pays_against}
use Rattle.extreme_equilibria.specs.Systems.{first_system, second_system}
use Rattle.lex_tableau.specs.Entries.{AreEntries}
use Rattle.lex_tableau.specs.Starts.{LinearSystem, linear_system, system_of}
use Rattle.lex_tableau.proofs.EntryLemmas.{cell_at, right_at}
use Rattle.lex_tableau.proofs.MadeEntryLemmas.{entries_made}
use Rattle.reply_polytope.specs.AnsweredLaws.{PolytopesAreAnswered}
use Rattle.reply_polytope.specs.Polytopes.{IsRatedSystem, ArePolytopes, most_labels}
use Rattle.reply_polytope.specs.Shifts.{least_of, payoffs_of, shift_in, shift_steps, shifts_in}
use Rattle.reply_polytope.specs.Stops.{label_count, systems_of}
use Rattle.reply_polytope.specs.declared.stop.PolyStop.TheVariants as stops

-- ---- shifts
-- numbers that are not none have a least one
some_least : (numbers : List ℚ) → 0 < length numbers → (x : ℚ) × IsLeast numbers x
some_least [] some = absurd (omega (arith, some))
some_least (x ∷ numbers) some = least-of x numbers

-- some payoffs have a shift, or a first step that does not fit
shift-answered : (g : Game) (i : ℕ) → 0 < profile_count g.strategies → IsAnswered (shift_in g i)
shift-answered g i some =
    bind-answered (least_of g i) (λ least. shifts_in g i least >> only least) (such_that-answered _ (λ none. let least = some_least (payoffs_of g i) (omega (arith, some, length-map-range_with_len (g.pays i) 0 (profile_count g.strategies))) in none least.0 least.1))
    (λ least _. bind-answered (shifts_in g i least) (λ _. only least) (refused_by-answered (λ stop. stops.Range i stop.0 stop.1) _ (all_fit-answered (shift_steps (g.pays i) least) (range_with_len 0 (profile_count g.strategies))))
    (λ _ _. only-answered least))

-- ---- systems
-- a tableau of numbered variables is a system
module _ (t : Tableau) (distinct : HasDistinctVariables t) (few : t.rows < 2 ^ 16) (basics_small : (i : ℕ) → i < t.rows → t.basic i < 2 ^ 32) (nonbasics_small : (j : ℕ) → j < t.width → t.nonbasic j < 2 ^ 32) where
  -- its variables, its entries, and the system of these
  abbrev basics : List ℕ
  basics = map t.basic (range_with_len 0 t.rows)

  abbrev nonbasics : List ℕ
  nonbasics = map t.nonbasic (range_with_len 0 t.width)

  abbrev cells : List ℚ
  cells = (entries_made t (t.width + 1) (t.rows * (t.width + 1))).0

  abbrev system : LinearSystem
  system = linear_system basics nonbasics cells t.rows

  -- the entries are those of the tableau
  are_entries : AreEntries t (t.width + 1) (t.rows * (t.width + 1)) cells
  are_entries = (entries_made t (t.width + 1) (t.rows * (t.width + 1))).1

  -- there are as many variables as in the tableau
  rows_are : length basics ≡ t.rows
  rows_are = length-map-range_with_len t.basic 0 t.rows

  width_is : length nonbasics ≡ t.width
  width_is = length-map-range_with_len t.nonbasic 0 t.width

  -- the system has the cells of the tableau
  is_alike : Alike t (system_of system)
  is_alike = record {
    rows = sym rows_are;
    width = sym width_is;
    basic = λ i l. sym (get_or-map-range_with_len t.basic 0 t.rows i i 0 l (omega arith));
    nonbasic = λ j l. sym (get_or-map-range_with_len t.nonbasic 0 t.width j j 0 l (omega arith));
    cell = λ i j a b. cell_at t t.rows t.width cells are_entries i j a b refl ∙ ap (λ w. get_or cells (i * (w + 1) + j) zero_ℚ) (sym width_is);
    right = λ i a. right_at t t.rows t.width cells are_entries i a refl ∙ ap (λ w. get_or cells (i * (w + 1) + w) zero_ℚ) (sym width_is);
  }

  -- listed numbers are small if each is
  small : (f : ℕ → ℕ) (n : ℕ) → ((i : ℕ) → i < n → f i < 2 ^ 32) → (i : ℕ) → get_or (map f (range_with_len 0 n)) i 0 < 2 ^ 32
  small f n each i = elim (cases_lt i n) [
    | inl l ↦ subst (λ v. v < 2 ^ 32) (sym (get_or-map-range_with_len f 0 n i i 0 l (omega arith))) (each i l)
    | inr l ↦ omega (arith, get_or_past (map f (range_with_len 0 n)) i 0 (omega (arith, length-map-range_with_len f 0 n, l)))
  ]

  -- so it is the system of the tableau
  is_rated : IsRatedSystem t system
  is_rated = record {
    valid = record {
      distinct = alike_distinct t (system_of system) is_alike distinct;
      shape = are_entries.count ∙ sym (ap (λ r. r * (length nonbasics + 1)) rows_are ∙ ap (λ w. t.rows * (w + 1)) width_is);
      rated = omega (arith, rows_are);
      basics_small = small t.basic t.rows basics_small;
      nonbasics_small = small t.nonbasic t.width nonbasics_small;
      few = omega (arith, rows_are, few);
    };
    alike = is_alike;
    rated = refl;
  }

  system_exists : (s : LinearSystem) × IsRatedSystem t s
  system_exists = (system, is_rated)

-- the systems of few strategies
module _ (m n : ℕ) (few : m + n ≤ most_labels) (payoffs : ℕ → ℕ → ℚ) where
  -- of the first polytope
  first_exists : (s : LinearSystem) × IsRatedSystem (first_system m n payoffs) s
  first_exists =
      system_exists (first_system m n payoffs) (record { basic_once = λ i k a b e. omega (arith, e); nonbasic_once = λ i k a b e. omega (arith, e); apart = λ i j a b e. omega (arith, a, b, e) })
      (omega (arith, few)) (λ i l. omega (arith, few, l)) (λ j l. omega (arith, few, l))

  -- and of the second
  second_exists : (s : LinearSystem) × IsRatedSystem (second_system m n payoffs) s
  second_exists =
      system_exists (second_system m n payoffs) (record { basic_once = λ i k a b e. omega (arith, e); nonbasic_once = λ i k a b e. omega (arith, e); apart = λ i j a b e. omega (arith, a, b, e) })
      (omega (arith, few)) (λ i l. omega (arith, few, l)) (λ j l. omega (arith, few, l))

-- the two systems of a game of two players with few strategies
systems_exist : (g : Game) (least least' : ℚ) → length g.strategies ≡ 2 → (most_labels < label_count g → ⊥) → (systems : LinearSystem × LinearSystem) × ArePolytopes g least least' systems.0 systems.1
systems_exist g least least' two few =
    let m = get_or g.strategies 0 0 in
    let n = get_or g.strategies 1 0 in
    let strategies : g.strategies ≡ m ∷ n ∷ [] = two-elements g.strategies two in
    let small : m + n ≤ most_labels = omega (arith, few, ap sum strategies) in
    let first = first_exists m n small (shifted (shift_of least') (pays_against g 1)) in
    let second = second_exists m n small (shifted (shift_of least) (pays_against g 0)) in
    ((first.0, second.0), record { m = m; n = n; strategies = strategies; is_first = first.1; is_second = second.1 })

-- ---- all stages
-- a game has its systems, or a reason why not
pub polytopes-answered : PolytopesAreAnswered
polytopes-answered g positive =
    let systems = shift_in g 0 >>= (λ one. shift_in g 1 >>= (λ two. systems_of g one two)) in
    let limit = within what.Labels most_labels (label_count g) in
    let some = profile_count-positive g.strategies positive in
    bind-answered (refuse_where (length g.strategies ≢ 2) (stops.NotTwoPlayers (length g.strategies))) (λ _. refused_by stops.TooLarge limit >> systems) (refuse_where-answered _ _)
    (λ _ two. bind-answered (refused_by stops.TooLarge limit) (λ _. systems) (refused_by-answered stops.TooLarge limit (refuse_where-answered _ _))
    (λ _ few. bind-answered (shift_in g 0) (λ one. shift_in g 1 >>= (λ two. systems_of g one two)) (shift-answered g 0 some)
    (λ one _. bind-answered (shift_in g 1) (λ other. systems_of g one other) (shift-answered g 1 some)
    (λ other _. such_that-answered _ (λ none. two (λ same. let found = systems_exist g one other same few in none found.0 found.1))))))
