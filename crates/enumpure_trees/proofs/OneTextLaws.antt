-- A tree has at most one text of the choices that pass.
use Rattle.std.proofs.Common.{ℕ, ◌≡◌, Bool, List, Contains, Ok, sym, ap, ◌∙◌, subst}
use Rattle.std.proofs.lemmas.List.Elements.{All-contains}
use Rattle.answers.specs.Answers.{Answer, IsSingle, refused_by, such_that}
use Rattle.answers.proofs.AnswerLemmas.{bind-single, refuse_where-single, refused_by-single, such_that-single}
use Rattle.frac128.proofs.FirstUnfitLemmas.{all_fit-single}
use Rattle.frac128.specs.FirstUnfit.{all_fit}
use Rattle.frac128.specs.Steps.{Step}
use Rattle.game_core.specs.Limits.{counted_within, limited_text}
use Rattle.game_core.specs.Table.{most_payoffs}
use Rattle.game_core.specs.declared.too_large.TooLarge.{TooLarge}
use Rattle.game_core.specs.declared.too_large.What.TheVariants as what
use Rattle.game_core.proofs.LimitLemmas.{limited_text-single, text-same}
use Rattle.game_theory.specs.Lines.{lines_text}
use Rattle.game_theory.specs.Trees.{Tree}
use Rattle.game_theory.proofs.LineOrderLemmas.{AreInOrder-determined}
use Rattle.rational.specs.Rational.{ℚ}
use Rattle.enumpure_trees.specs.TestNodes.{AreTestNodes, IsTestedAt}
use Rattle.enumpure_trees.specs.PassingStops.{passing_text, values_in}
use Rattle.enumpure_trees.specs.PassingText.{ArePassingLines, IsPassingLine, IsPassingText}
use Rattle.enumpure_trees.specs.Values.{ValueIndex, value_count, value_indices, value_steps}
use Rattle.enumpure_trees.specs.declared.stop.ChoiceStop.{ChoiceStop}
use Rattle.enumpure_trees.specs.declared.stop.ChoiceStop.TheVariants as stops
use Rattle.lists.proofs.ListedLemmas.{listed-once}

-- choices are tested at one list of nodes
nodes-same : (perfect : Bool) (t : Tree) (one other : List ℕ) → AreTestNodes perfect t one → AreTestNodes perfect t other → one ≡ other
nodes-same perfect t = listed-once (IsTestedAt perfect t)

-- each line of one list stands in any other
lines-within : (agents perfect : Bool) (t : Tree) (one other : List (List ℚ)) → ArePassingLines agents perfect t one → ArePassingLines agents perfect t other → (z : List ℚ) → Contains one z → Contains other z
lines-within agents perfect t one other p q z c =
    let line = All-contains (IsPassingLine agents perfect t) one z p.sound c in
    subst (Contains other) (sym line.is_line) (q.complete line.choice line.is_choice line.passes)

-- the choices that pass have at most one text
texts-same : (agents perfect : Bool) (t : Tree) (one other : List ℕ) → IsPassingText agents perfect t one → IsPassingText agents perfect t other → one ≡ other
texts-same agents perfect t one other p q =
    p.is_text ∙ ap lines_text (AreInOrder-determined p.lines q.lines p.are_lines.in_order q.are_lines.in_order (lines-within agents perfect t p.lines q.lines p.are_lines q.are_lines) (lines-within agents perfect t q.lines p.lines q.are_lines p.are_lines)) ∙ sym q.is_text

-- the values have at most one answer
values-single : (t : Tree) (nodes : List ℕ) → IsSingle (values_in t nodes)
values-single t nodes =
    bind-single (refused_by stops.TooLarge few) (λ _. refused_by told fit) (refused_by-single stops.TooLarge few (refuse_where-single _ _)) (λ _ _. refused_by-single told fit (all_fit-single (value_steps t) (value_indices t nodes)))
  where
    few : Answer TooLarge (Unit {0})
    few = counted_within what.Payoffs most_payoffs (value_count t nodes)

    told : ValueIndex × Step → ChoiceStop
    told stop = stops.Range stop.0.choice stop.0.node stop.0.player stop.1

    fit : Answer (ValueIndex × Step) (Unit {0})
    fit = all_fit (value_steps t) (value_indices t nodes)

pub passing_text-single : (agents perfect : Bool) (t : Tree) → IsSingle (passing_text agents perfect t)
passing_text-single agents perfect t =
    bind-single (such_that (AreTestNodes perfect t)) _ (such_that-single (AreTestNodes perfect t) (nodes-same perfect t)) (λ nodes _.
    bind-single (values_in t nodes) _ (values-single t nodes) (λ _ _.
    bind-single (such_that (IsPassingText agents perfect t)) (λ text. refused_by stops.TooLarge (limited_text text)) (such_that-single (IsPassingText agents perfect t) (texts-same agents perfect t)) (λ text _. refused_by-single stops.TooLarge (limited_text text) (limited_text-single text))))

-- what is said of the text that is answered
pub passing_text-is : (agents perfect : Bool) (t : Tree) (text : List ℕ) → passing_text agents perfect t (Ok text) → IsPassingText agents perfect t text
passing_text-is agents perfect t text h = let found = h.2.2 in subst (IsPassingText agents perfect t) (sym (text-same found.0 text found.2)) found.1
