-- A game has one pair of systems, or one reason why it has none.
use Rattle.std.proofs.Common.{ℕ, ◌≡◌, ◌≢◌, [], ◌∷◌, length, sym, ap₂, ◌∙◌, subst}
use Rattle.answers.specs.Answers.{◌>>=◌, ◌>>◌, IsSingle, only, refuse_where, refused_by}
use Rattle.answers.proofs.AnswerLemmas.{bind-single, only-single, such_that-single, refuse_where-single, refused_by-single}
use Rattle.rational.specs.Rational.{ℚ}
use Rattle.rational.specs.Extremes.{IsLeast}
use Rattle.rational.proofs.ExtremeLemmas.{least-single}
use Rattle.linear_systems.specs.Tableau.{Tableau}
use Rattle.linear_systems.proofs.AgreementLemmas.{alike_both}
use Rattle.game_theory.specs.Profiles.{Game}
use Rattle.frac128.proofs.FirstUnfitLemmas.{all_fit-single}
use Rattle.game_core.specs.Limits.{within}
use Rattle.game_core.specs.declared.too_large.What.TheVariants as what
use Rattle.extreme_equilibria.specs.Bimatrix.{shifted, shift_of}
use Rattle.extreme_equilibria.specs.TwoPlayers.{pays_against}
use Rattle.extreme_equilibria.specs.Systems.{first_system, second_system}
use Rattle.lex_tableau.specs.Starts.{LinearSystem, system_of}
use Rattle.lex_tableau.proofs.SystemLemmas.{systems_determined}
use Rattle.reply_polytope.specs.Polytopes.{IsRatedSystem, ArePolytopes, most_labels}
use Rattle.reply_polytope.specs.Shifts.{least_of, payoffs_of, shift_in, shift_steps, shifts_in}
use Rattle.reply_polytope.specs.Stops.{PolytopesAreSingle, label_count, systems_of}
use Rattle.reply_polytope.specs.declared.stop.PolyStop.TheVariants as stops

-- ---- shifts
module _ (g : Game) where
  least_of-single : (i : ℕ) → IsSingle (least_of g i)
  least_of-single i = such_that-single (IsLeast (payoffs_of g i)) (least-single (payoffs_of g i))

  shift-single : (i : ℕ) → IsSingle (shift_in g i)
  shift-single i =
      bind-single (least_of g i) (λ least. shifts_in g i least >> only least) (least_of-single i)
      (λ least _. bind-single (shifts_in g i least) (λ _. only least) (refused_by-single (λ stop. stops.Range i stop.0 stop.1) _ (all_fit-single (shift_steps (g.pays i) least) _))
      (λ _ _. only-single least))

-- ---- systems
-- there is one system
one_system : (s t : Tableau) (a b : LinearSystem) → s ≡ t → IsRatedSystem s a → IsRatedSystem t b → a ≡ b
one_system s t a b same h g =
    let k : IsRatedSystem s b = subst (λ x. IsRatedSystem x b) (sym same) g in
    systems_determined a b h.valid k.valid (alike_both s (system_of a) (system_of b) h.alike k.alike) (h.rated ∙ sym k.rated)

module _ (g : Game) (least least' : ℚ) where
  -- the numbers of strategies
  sizes_same : (m n k l : ℕ) → g.strategies ≡ m ∷ n ∷ [] → g.strategies ≡ k ∷ l ∷ [] → (m ≡ k) × (n ≡ l)
  sizes_same m n k l p q = let e : m ∷ n ∷ [] ≡ k ∷ l ∷ [] = sym p ∙ q in (cc e, cc e)

  one_pair : (a b c d : LinearSystem) → ArePolytopes g least least' a b → ArePolytopes g least least' c d → (a ≡ c) × (b ≡ d)
  one_pair a b c d h k =
      let sizes = sizes_same h.m h.n k.m k.n h.strategies k.strategies in
      (one_system _ _ a c (ap₂ (λ m n. first_system m n (shifted (shift_of least') (pays_against g 1))) sizes.0 sizes.1) h.is_first k.is_first, one_system _ _ b d (ap₂ (λ m n. second_system m n (shifted (shift_of least) (pays_against g 0))) sizes.0 sizes.1) h.is_second k.is_second)

  systems-single : IsSingle (systems_of g least least')
  systems-single =
      such_that-single (λ systems. ArePolytopes g least least' systems.0 systems.1)
      (λ a b h k. let same = one_pair a.0 a.1 b.0 b.1 h k in ap₂ (λ x y. (x, y)) same.0 same.1)

-- ---- all stages
pub polytopes_single : PolytopesAreSingle
polytopes_single g =
    let systems = shift_in g 0 >>= (λ one. shift_in g 1 >>= (λ two. systems_of g one two)) in
    let labels = refused_by stops.TooLarge (within what.Labels most_labels (label_count g)) in
    let players = refuse_where (length g.strategies ≢ 2) (stops.NotTwoPlayers (length g.strategies)) in
    bind-single players (λ _. labels >> systems) (refuse_where-single (length g.strategies ≢ 2) (stops.NotTwoPlayers (length g.strategies)))
    (λ _ _. bind-single labels (λ _. systems) (refused_by-single stops.TooLarge (within what.Labels most_labels (label_count g)) (refuse_where-single _ _))
    (λ _ _. bind-single (shift_in g 0) (λ one. shift_in g 1 >>= (λ two. systems_of g one two)) (shift-single g 0)
    (λ one _. bind-single (shift_in g 1) (λ two. systems_of g one two) (shift-single g 1)
    (λ two _. systems-single g one two))))
