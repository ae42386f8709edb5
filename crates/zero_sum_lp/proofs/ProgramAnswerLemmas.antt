-- A form has at most one answer: its program, or the reason why it has none.
use Rattle.std.proofs.Common.{◌≡◌, ◌∙◌, ◌<◌, List, [], ◌∷◌, ◌++◌, All, Ok, Err, refl, sym, ap, ap₂, subst}
use Rattle.answers.specs.Answers.{◌>>◌, IsSingle, only, refused_by}
use Rattle.answers.proofs.AnswerLemmas.{bind-single, only-single, refuse_where-single, refused_by-single}
use Rattle.zero_sum_lp.specs.Programs.{program_of}
use Rattle.linear_systems.proofs.AgreementLemmas.{alike_both}
use Rattle.lex_tableau.specs.Starts.{LinearSystem, system_of}
use Rattle.lex_tableau.specs.StartStops.{start_of}
use Rattle.lex_tableau.proofs.SystemLemmas.{systems_determined, start_of-single}
use Rattle.frac128.proofs.FirstUnfitLemmas.{all_fit-single, front_has, front_one}
use Rattle.game_core.specs.Limits.{most_rows, too_large, within}
use Rattle.game_core.specs.declared.too_large.What.TheVariants as what
use Rattle.sequence_forms.specs.Prices.{gains}
use Rattle.sequence_data.specs.declared.types.Leaf.{Leaf}
use Rattle.sequence_data.specs.Data.{FormData, form, side_of}
use Rattle.zero_sum_lp.specs.declared.stop.LpStop.TheVariants as stops
use Rattle.zero_sum_lp.specs.declared.stop.NotConstant.{NotConstant}
use Rattle.sequence_data.specs.Sizes.{form_sizes, program_size}
use Rattle.zero_sum_lp.specs.FormPrograms.{AreFirstApart, IsSystemOf, ProgramsAreSingle, gain_steps, gains_in, is_constant, form_start_in, sum_at, leaf_sum_steps, sums_in, told_start, with_start}

-- ---- the sums
heads_same : (x y : Leaf) (xs ys : List Leaf) → x ∷ xs ≡ y ∷ ys → x ≡ y
heads_same x y xs ys e = cc

tails_same : (x y : Leaf) (xs ys : List Leaf) → x ∷ xs ≡ y ∷ ys → xs ≡ ys
tails_same x y xs ys e = cc

not_apart : (leaves : List Leaf) (stop : NotConstant) → is_constant leaves (Ok tt) → AreFirstApart leaves stop → ⊥
not_apart leaves stop h a =
    let all = front_has (λ l. All (λ k. sum_at k ≡ sum_at l) leaves) (a.leaf ∷ a.same) a.rest a.other (subst (All (λ l. All (λ k. sum_at k ≡ sum_at l) leaves)) a.are_there h) in
    a.differs (sym (front_has (λ k. sum_at k ≡ sum_at a.other) [] (a.same ++ a.other ∷ a.rest) a.leaf (subst (All (λ k. sum_at k ≡ sum_at a.other)) a.are_there all)))

one_apart : (leaves : List Leaf) (stop other : NotConstant) → AreFirstApart leaves stop → AreFirstApart leaves other → stop ≡ other
one_apart leaves stop other a b =
    let lists : a.leaf ∷ (a.same ++ a.other ∷ a.rest) ≡ b.leaf ∷ (b.same ++ b.other ∷ b.rest) = sym a.are_there ∙ b.are_there in
    let first = heads_same a.leaf b.leaf _ _ lists in
    let second = front_one (λ l. sum_at l ≡ sum_at a.leaf) a.same b.same a.rest b.rest a.other b.other (tails_same a.leaf b.leaf _ _ lists) a.are_same
    (subst (λ x. All (λ l. sum_at l ≡ sum_at x) b.same) (sym first) b.are_same) a.differs (subst (λ x. sum_at b.other ≡ sum_at x → ⊥) (sym first) b.differs) in
    a.stop_is ∙ ap₂ (λ (l k : Leaf). record { first = l.place; second = k.place; first_sum = sum_at l; second_sum = sum_at k }) first second ∙ sym b.stop_is

is_constant-single : (leaves : List Leaf) → IsSingle (is_constant leaves)
is_constant-single leaves (Ok _) (Ok _) h g = refl
is_constant-single leaves (Ok _) (Err stop) h g = absurd (not_apart leaves stop h g)
is_constant-single leaves (Err stop) (Ok _) h g = absurd (not_apart leaves stop g h)
is_constant-single leaves (Err stop) (Err other) h g = ap Err (one_apart leaves stop other h g)

-- ---- the start
module _ (f : FormData) where
  one_system : (s t : LinearSystem) → IsSystemOf f s → IsSystemOf f t → s ≡ t
  one_system s t h g =
      let program = program_of (side_of f.first) (side_of f.second) (gains (form f) f.least_one) in
      systems_determined s t h.valid g.valid (alike_both program (system_of s) (system_of t) h.program g.program) (h.rated ∙ sym g.rated)

  form_start_in-single : IsSingle (form_start_in f)
  form_start_in-single =
      let stage = refused_by told_start (start_of (IsSystemOf f)) in
      bind-single stage (λ start. only (with_start f start)) (refused_by-single told_start (start_of (IsSystemOf f)) (start_of-single (IsSystemOf f) one_system)) (λ start _. only-single (with_start f start))

-- ---- all stages
pub programs_single : ProgramsAreSingle
programs_single f =
    let constant = refused_by stops.NotConstant (is_constant f.leaves) in
    let numbers = gains_in f.least_one f.cells in
    let size = refused_by stops.TooLarge (within what.Rows most_rows (program_size (form_sizes f))) in
    bind-single size (λ _. sums_in f.leaves >> (constant >> (numbers >> form_start_in f))) (refused_by-single stops.TooLarge _ (refuse_where-single (most_rows < program_size (form_sizes f)) (too_large what.Rows most_rows (program_size (form_sizes f)))))
    (λ _ _. bind-single (sums_in f.leaves) (λ _. constant >> (numbers >> form_start_in f)) (refused_by-single (λ stop. stops.SumRange stop.0.place stop.1) _ (all_fit-single leaf_sum_steps f.leaves))
    (λ _ _. bind-single constant (λ _. numbers >> form_start_in f) (refused_by-single stops.NotConstant _ (is_constant-single f.leaves))
    (λ _ _. bind-single numbers (λ _. form_start_in f) (refused_by-single (λ stop. stops.GainRange stop.0.row stop.0.column stop.1) _ (all_fit-single (gain_steps f.least_one) f.cells))
    (λ _ _. form_start_in-single f))))
