use Rattle.std.proofs.Common.{ℕ, ◌+◌, ◌*◌, ◌<◌, ◌≡◌, ◌∙◌, List, length, get_or, refl, sym, ap, subst, add-one, arith}
use Rattle.game_core.proofs.StrideLemmas.{stride_next-at_most}
use Rattle.game_theory.specs.Profiles.{stride}
use Rattle.game_theory.proofs.ProfileNumberLemmas.{stride-next}
use Rattle.enumpure_trees.specs.Games.{KeepsThose, PlaysBestAtAll}
use Rattle.enumpure_trees.proofs.ColumnLemmas.{columns-of}
use Rattle.enumpure_trees.proofs.KeptChoiceLemmas.{KeepsThose-all, KeepsThose-all_players, KeepsThose-single, KeepsThose-then, all_below-next}
use Rattle.enumpure_trees.proofs.passing.keep_mutual_at_all.Goals as goal
use Rattle.enumpure_trees.proofs.passing.keep_mutual_at_all.Goals.{then-strategies-index-gt1, else-strategies-index-gt1}

pub loop-index-init : goal.loop-index-init
loop-index-init c = record {
  stride_is = refl;
  kept = λ games h. KeepsThose-all (λ n. (j : ℕ) → j < 0 → PlaysBestAtAll games c.args.columns.nodes j n) c.args.passing.now (λ n inside j below. absurd (omega (arith, below)));
}

pub keep_best_at_all-requires-clause-payoffs : goal.keep_best_at_all-requires-clause-payoffs
keep_best_at_all-requires-clause-payoffs c =
    (c.requires.payoffs.0, c.loop-index.index, columns-of _ _ _ _ _ _ _ c.loop-index.index c.requires.payoffs.1 (omega arith) c.loop-index.auto.passing c.loop-index.invariant.stride_is)

pub overflow_mul-stride : goal.overflow_mul-stride
overflow_mul-stride c =
    let h = c.requires.payoffs.1 in
    let k = c.loop-index.index in
    let strategies : List ℕ = c.args.strategies.now in
    let most = stride_next-at_most strategies k (omega (arith, h.one_for_each)) (record { some = λ j l. h.some_strategy j 0 l }) in
    omega (arith, most, ap (λ s. s * get_or strategies k 0) c.loop-index.invariant.stride_is, h.of_each)

pub loop-index-preserved : goal.loop-index-preserved
loop-index-preserved c =
    let k = c.loop-index.index in
    let strategies : List ℕ = c.args.strategies.now in
    let inv = c.loop-index.invariant in
    let nodes = c.args.columns.nodes in
    let long = c.loop-index.auto.passing in
    let below : k < length c.args.choosers.now = omega arith in
    record {
      stride_is = ap (λ s. s * get_or strategies k 0) inv.stride_is ∙ sym (stride-next strategies k (omega (arith, below, c.requires.payoffs.1.one_for_each))) ∙ ap (stride strategies) (sym (add-one k));
      kept = λ games h.
          let at_this : KeepsThose (PlaysBestAtAll games nodes k) c.loop-index.passing c.if-strategies-index-gt1.passing =
          elim c.if-strategies-index-gt1.branch [
            | then-strategies-index-gt1 v ↦ subst (KeepsThose (PlaysBestAtAll games nodes k) c.loop-index.passing) (sym v.passing-is) (v.keep_best_at_all.ensures games k (columns-of games _ _ _ _ _ _ k h below long inv.stride_is))
            | else-strategies-index-gt1 v ↦ subst (KeepsThose (PlaysBestAtAll games nodes k) c.loop-index.passing) (sym v.passing-is) (KeepsThose-single games _ _ _ _ k c.loop-index.passing h long below (omega (arith, v.if-strategies-index-gt1.false)))
          ] in
          KeepsThose-then (λ n. (j : ℕ) → j < k → PlaysBestAtAll games nodes j n) (PlaysBestAtAll games nodes k) (λ n. (j : ℕ) → j < k + 1 → PlaysBestAtAll games nodes j n) _ _ _ long (inv.kept games h) at_this (all_below-next (PlaysBestAtAll games nodes) k);
    }

pub returns : goal.returns
returns c games h =
    let all : c.loop-index.index ≡ length c.args.choosers.now = omega (arith, c.loop-index-test.false) in
    KeepsThose-all_players games _ _ _ _ _ _ h (subst (λ m. KeepsThose (λ n. (j : ℕ) → j < m → PlaysBestAtAll games c.args.columns.nodes j n) c.args.passing.now c.loop-index.passing) all (c.loop-index.invariant.kept games h))
