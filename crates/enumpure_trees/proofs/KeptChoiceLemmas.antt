-- Profiles that stay, one test after another, and the choices that are left.
use Rattle.std.proofs.Common.{ℕ, ◌+◌, ◌<◌, ◌≤◌, ◌≡◌, ◌∙◌, inl, inr, Bool, true, false, List, length, get_or, sym, ap, subst, arith}
use Rattle.std.specs.Prelude.{◌↔◌, replicate}
use Rattle.std.proofs.lemmas.Bool.{cases_eq}
use Rattle.std.proofs.lemmas.List.{get_or-replicate, get_or_default, length-replicate}
use Rattle.std.proofs.lemmas.List.Elements.{Contains-get_or}
use Rattle.rational.specs.Rational.{◌≤ℚ◌}
use Rattle.rational.proofs.Field.{le_refl}
use Rattle.enumpure.specs.Replies.{KeepsBestReplies, PlaysBestReply, exchanged}
use Rattle.enumpure.proofs.ExchangeLemmas.{IsPlace, exchanged-own, strategy_at, strategy_at-below}
use Rattle.game_theory.specs.Behaviour.{pure}
use Rattle.game_theory.specs.Profiles.{Game, profile_count}
use Rattle.game_theory.specs.Trees.{Tree, IsTree}
use Rattle.enumpure_trees.specs.Choices.{numbered_choice, whole_choices}
use Rattle.enumpure_trees.specs.Games.{AllPlayBest, AreColumnsOf, KeepsThose, PlaysBestAtAll, choosers, strategy_counts}
use Rattle.enumpure_trees.specs.PassingChoices.{IsTestedEquilibriumAt}
use Rattle.enumpure_trees.specs.PassingNumbers.{ArePassing}
use Rattle.enumpure_trees.specs.Values.{choice_values}
use Rattle.enumpure_trees.specs.declared.passing.Columns.{Columns}
use Rattle.enumpure_trees.proofs.ColumnLemmas.{AreColumnsOf-read, game_at}
use Rattle.enumpure_trees.proofs.BestReplyLemmas.{passing-by_replies}

-- ---- one test after another
-- where all pass, all stay
pub KeepsThose-all : (P : ℕ → Type 0) (passing : List Bool) → ((n : ℕ) → n < length passing → P n) → KeepsThose P passing passing
KeepsThose-all P passing all n below = (λ e. (e, all n below), λ h. h.0)

-- the same test in other words
KeepsThose-as : (P Q : ℕ → Type 0) (old new : List Bool) → ((n : ℕ) → P n ↔ Q n) → KeepsThose P old new → KeepsThose Q old new
KeepsThose-as P Q old new same kept n below =
    let one = kept n below in
    (λ e. let h = one.0 e in (h.0, (same n).0 h.1), λ h. one.1 (h.0, (same n).1 h.1))

-- what passes two tests stays
pub KeepsThose-then : (P Q R : ℕ → Type 0) (a b c : List Bool) → length b ≡ length a → KeepsThose P a b → KeepsThose Q b c → ((n : ℕ) → (P n × Q n) ↔ R n) → KeepsThose R a c
KeepsThose-then P Q R a b c long first second both n below =
    let one = first n below in
    let two = second n (omega (arith, below, long)) in (
      λ e. let h = two.0 e in let g = one.0 h.0 in (g.0, (both n).0 (g.1, h.1)),
      λ h. let g = (both n).1 h.1 in two.1 (one.1 (h.0, g.0), g.1),
    )

-- all below one that pass, and that one
pub all_below-next : (P : ℕ → ℕ → Type 0) (m n : ℕ) → (((j : ℕ) → j < m → P j n) × P m n) ↔ ((j : ℕ) → j < m + 1 → P j n)
all_below-next P m n = (
  λ h j below. elim (cases_eq j m) [ inl same ↦ subst (λ i. P i n) (sym same) h.1 | inr other ↦ h.0 j (omega (arith, below, other)) ],
  λ all. (λ j below. all j (omega (arith, below)), all m (omega arith)),
)

-- ---- those who choose, one after another
-- the best replies of one who chooses, as a test
pub KeepsThose-best : (g : Game) (i : ℕ) (old new : List Bool) → length old ≡ profile_count g.strategies → KeepsBestReplies g i old new → KeepsThose (PlaysBestReply g i) old new
KeepsThose-best g i old new long kept n below = kept n (omega (arith, below, long))

-- one who has a single strategy plays a best reply
PlaysBestReply-single : (g : Game) (i n : ℕ) → i < length g.strategies → n < profile_count g.strategies → get_or g.strategies i 0 ≤ 1 → PlaysBestReply g i n
PlaysBestReply-single g i n player number single s below =
    let place : IsPlace g.strategies n i = record { number = number; player = player } in
    let own : s ≡ strategy_at g.strategies n i = omega (arith, below, single, strategy_at-below g.strategies n i place) in
    subst (λ m. g.pays i m ≤ℚ g.pays i n) (sym (ap (exchanged g.strategies n i) own ∙ exchanged-own g.strategies n i place)) (le_refl (g.pays i n))

-- where one has a single strategy, all profiles stay
pub KeepsThose-single : (games : ℕ → Game) (who strategies : List ℕ) (columns : Columns) (profiles j : ℕ) (passing : List Bool) → AreColumnsOf games who strategies columns profiles → length passing ≡ profiles → j < length who → get_or strategies j 0 ≤ 1 → KeepsThose (PlaysBestAtAll games columns.nodes j) passing passing
KeepsThose-single games who strategies columns profiles j passing h long below single =
    KeepsThose-all (PlaysBestAtAll games columns.nodes j) passing (λ n inside p node.
    let is = h.strategies_are p node in
    PlaysBestReply-single (games p) j n (omega (arith, below, h.one_for_each, ap length is)) (omega (arith, inside, long, h.of_each, ap profile_count is)) (omega (arith, single, ap (λ ns. get_or ns j 0) is)))

-- all of them play best replies at all nodes
pub KeepsThose-all_players : (games : ℕ → Game) (who strategies : List ℕ) (columns : Columns) (profiles : ℕ) (old new : List Bool) → AreColumnsOf games who strategies columns profiles → KeepsThose (λ n. (j : ℕ) → j < length who → PlaysBestAtAll games columns.nodes j n) old new
    → KeepsThose (λ n. (p : ℕ) → p < columns.nodes → AllPlayBest (games p) n) old new
KeepsThose-all_players games who strategies columns profiles old new h =
    let counted : (p : ℕ) → p < columns.nodes → length who ≡ length (games p).strategies = λ p node. h.one_for_each ∙ ap length (h.strategies_are p node) in
    KeepsThose-as (λ n. (j : ℕ) → j < length who → PlaysBestAtAll games columns.nodes j n) (λ n. (p : ℕ) → p < columns.nodes → AllPlayBest (games p) n) old new (λ n. (
      λ all p node j below. all j (omega (arith, below, counted p node)) p node,
      λ all j below p node. all p node j (omega (arith, below, counted p node)),
    ))

-- ---- what is left
-- of all choices those are left that are equilibria at each node
pub ArePassing-kept : (agents : Bool) (t : Tree) (nodes : List ℕ) (old new : List Bool) → IsTree t → old ≡ replicate (whole_choices t) true → length new ≡ length old
    → KeepsThose (λ n. (p : ℕ) → p < length nodes → AllPlayBest (game_at agents t (get_or nodes p 0)) n) old new → ArePassing agents t nodes new
ArePassing-kept agents t nodes old new w all long kept = record {
  of_each = long ∙ count;
  all_passing = λ n below.
      let one = kept n (omega (arith, below, count)) in (
        λ e k at. subst (λ x. IsTestedEquilibriumAt agents t (pure (numbered_choice t n)) x) (get_or_default nodes at.0 0 k at.1 ∙ at.2) ((passing-by_replies agents t n (get_or nodes at.0 0) w below).0 ((one.0 e).1 at.0 at.1)),
        λ passing. one.1 (
          ap (λ xs. get_or xs n false) all ∙ get_or-replicate (whole_choices t) n true false below,
          λ p inside. (passing-by_replies agents t n (get_or nodes p 0) w below).1 (passing (get_or nodes p 0) (Contains-get_or nodes p 0 inside)),
        ),
      );
}
  where
    count : length old ≡ whole_choices t
    count = ap length all ∙ length-replicate (whole_choices t) true

-- the same from columns of the choices' values, by whatever games they are looked at
pub ArePassing-from_columns : (agents : Bool) (t : Tree) (nodes : List ℕ) (columns : Columns) (who strategies : List ℕ) (old new : List Bool) → IsTree t → columns.numbers.now ≡ choice_values t nodes → columns.nodes ≡ length nodes → columns.players ≡ t.players
    → who ≡ choosers agents t → strategies ≡ strategy_counts agents t → old ≡ replicate (whole_choices t) true → length new ≡ length old
    → ((games : ℕ → Game) → AreColumnsOf games who strategies columns (length old) → KeepsThose (λ n. (p : ℕ) → p < columns.nodes → AllPlayBest (games p) n) old new)
    → ArePassing agents t nodes new
ArePassing-from_columns agents t nodes columns who strategies old new w numbers are_nodes are_players is_who are_strategies all long kept =
    let games : ℕ → Game = λ p. game_at agents t (get_or nodes p 0) in
    ArePassing-kept agents t nodes old new w all long (subst (λ m. KeepsThose (λ n. (p : ℕ) → p < m → AllPlayBest (games p) n) old new) are_nodes
    (kept games (AreColumnsOf-read agents t nodes columns who strategies (length old) w numbers are_nodes are_players is_who are_strategies (ap length all ∙ length-replicate (whole_choices t) true))))
