use Rattle.std.proofs.Common.{ℕ, ◌+◌, ◌*◌, ◌≡◌, [], ◌∷◌, ◌++◌, length, ap, ◌∙◌, arith}
use Rattle.std.proofs.Math.Nat.{add-mul, mul_comm}
use Rattle.std.proofs.lemmas.List.{length_push}
use Rattle.extreme_equilibria.specs.KeptTable.{kept_table}
use Rattle.game_core.specs.Table.{game_of}
use Rattle.kept_strategies.proofs.KeptCellLemmas.{cells-next, pays-cell}
use Rattle.kept_strategies.proofs.kept.payoffs_at.Goals as goal

pub loop-row-preserved : goal.loop-row-preserved
loop-row-preserved c =
    let g = game_of c.args.table.now in
    let first = c.args.first.now in
    let second = c.args.second.now in
    let column : ℕ = c.loop-column.column-index in
    let row : ℕ = c.loop-row.row-index in
    let n : ℕ = column * length first + row in
    let before = c.loop-row.payoffs.items in
    let a = c.payoff.result in
    let b = c.payoff-in-loop-row.result in
    let is : c.push-in-loop-row.new.self.items ≡ (before ++ a ∷ []) ++ b ∷ [] = (c.in_ok-push-2.ensures {u = tt}).items ∙ ap (λ xs. xs ++ b ∷ []) (c.in_ok-push.ensures {u = tt}).items in
    record {
      count = ap length is ∙ length_push (before ++ a ∷ []) b ∙ omega (arith, length_push before a, c.loop-row.invariant.count);
      cells = λ i k h l. cells-next (kept_table g (first ∷ second ∷ [])).pays n before c.push-in-loop-row.new.self.items a b c.loop-row.invariant.count c.loop-row.invariant.cells is (c.payoff.ensures ∙ pays-cell g first second 0 row column c.loop-row-test.true c.loop-column-test.true) (c.payoff-in-loop-row.ensures ∙ pays-cell g first second 1 row column c.loop-row-test.true c.loop-column-test.true) i k h (omega (arith, l));
    }

pub loop-column-preserved : goal.loop-column-preserved
loop-column-preserved c =
    let m : ℕ = length c.args.first.now in
    let next : (c.loop-column.column-index + 1) * m ≡ c.loop-column.column-index * m + 1 * m = add-mul c.loop-column.column-index 1 m in
    let all : c.loop-row.row-index ≡ m = omega (arith, c.loop-row-test.false) in
    record {
      count = omega (arith, next, all, c.loop-row.invariant.count);
      cells = λ i k h l. c.loop-row.invariant.cells i k h (omega (arith, next, all, l));
    }

pub returns-clause-so_many : goal.returns-clause-so_many
returns-clause-so_many c =
    let end : c.loop-column.column-index ≡ length c.args.second.now = omega (arith, c.loop-column-test.false) in
    c.loop-column.invariant.count ∙ ap (λ n. n * length c.args.first.now * 2) end ∙ ap (λ n. n * 2) (mul_comm (length c.args.second.now) (length c.args.first.now))

pub returns-clause-cells : goal.returns-clause-cells
returns-clause-cells c = λ i k h l.
    let end : c.loop-column.column-index ≡ length c.args.second.now = omega (arith, c.loop-column-test.false) in
    let same : c.loop-column.column-index * length c.args.first.now ≡ length c.args.first.now * length c.args.second.now = ap (λ n. n * length c.args.first.now) end ∙ mul_comm (length c.args.second.now) (length c.args.first.now) in
    c.loop-column.invariant.cells i k h (omega (arith, same, l))
