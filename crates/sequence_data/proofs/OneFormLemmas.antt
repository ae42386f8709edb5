-- There is at most one form over two sides and leaves.
use Rattle.std.proofs.Common.{◌≡◌, List, map, sym, ◌∙◌, subst}
use Rattle.answers.specs.Answers.{IsSingle, such_that}
use Rattle.answers.proofs.AnswerLemmas.{bind-single, such_that-single}
use Rattle.rational.specs.Rational.{ℚ}
use Rattle.rational.specs.Extremes.{IsGreatest, IsLeast}
use Rattle.sequence_data.specs.Cells.{AreCells}
use Rattle.sequence_data.specs.Data.{FormData, IsFormOf, IsOfLeaves, SideData, form_of_leaves}
use Rattle.sequence_data.specs.Steps.{gathering_in}
use Rattle.sequence_data.specs.declared.types.Leaf.{Leaf}
use Rattle.rational.proofs.ExtremeLemmas.{greatest-single, least-single}
use Rattle.sequence_data.proofs.OrderLemmas.{cells-one}
use Rattle.sequence_data.proofs.StepStageLemmas.{gathering_in-single}

-- forms with the same parts
same_parts : (f g : FormData) → f.first ≡ g.first → f.second ≡ g.second → f.leaves ≡ g.leaves → f.cells ≡ g.cells → f.greatest_one ≡ g.greatest_one → f.greatest_two ≡ g.greatest_two → f.least_one ≡ g.least_one → f ≡ g
same_parts f g a b c d e h k = λ i. record { first = a i; second = b i; leaves = c i; cells = d i; greatest_one = e i; greatest_two = h i; least_one = k i }

-- forms with the same sides and leaves
same_form : (f g : FormData) → f.first ≡ g.first → f.second ≡ g.second → f.leaves ≡ g.leaves → IsOfLeaves f → IsOfLeaves g → f ≡ g
same_form f g first second leaves h k =
    same_parts f g first second leaves
    (cells-one g.leaves f.cells g.cells (subst (λ ls. AreCells ls f.cells) leaves h.cells_are) k.cells_are)
    (greatest-single _ f.greatest_one g.greatest_one h.greatest_one_is (subst (λ ls. IsGreatest (map_one ls) g.greatest_one) (sym leaves) k.greatest_one_is))
    (greatest-single _ f.greatest_two g.greatest_two h.greatest_two_is (subst (λ ls. IsGreatest (map_two ls) g.greatest_two) (sym leaves) k.greatest_two_is))
    (least-single _ f.least_one g.least_one h.least_one_is (subst (λ ls. IsLeast (map_one ls) g.least_one) (sym leaves) k.least_one_is))
  where
    map_one : List Leaf → List ℚ
    map_one ls = map (λ l. l.one) ls

    map_two : List Leaf → List ℚ
    map_two ls = map (λ l. l.two) ls

-- and so with their steps
pub form_of_leaves-single : (first second : SideData) (leaves : List Leaf) → IsSingle (form_of_leaves first second leaves)
form_of_leaves-single first second leaves =
    bind-single (gathering_in leaves) (λ _. such_that (IsFormOf first second leaves)) (gathering_in-single leaves)
    (λ _ _. such_that-single (IsFormOf first second leaves) (λ f g h k. same_form f g (h.first_is ∙ sym k.first_is) (h.second_is ∙ sym k.second_is) (h.leaves_are ∙ sym k.leaves_are) h.of_leaves k.of_leaves))
