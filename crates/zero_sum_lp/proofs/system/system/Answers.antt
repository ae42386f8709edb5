use Rattle.std.proofs.Common.{◌≡◌, ◌+◌, ◌∙◌, ap, List, length, subst, sym, arith}
use Rattle.sequence_data.specs.Data.{side_of}
use Rattle.sequence_data.specs.declared.types.SetRow.{SetRow}
use Rattle.sequence_forms.specs.Sides.{sequences}
use Rattle.zero_sum_lp.specs.Programs.{columns_of, constraints}
use Rattle.zero_sum_lp.specs.Systems.{IsSystemFor}
use Rattle.sequence_data.specs.Matrices.{number_at}
use Rattle.zero_sum_lp.proofs.OptimumLemmas.{sets_are}
use Rattle.zero_sum_lp.proofs.SystemLemmas.{system_for}
use Rattle.zero_sum_lp.proofs.system.system.Goals as goal

pub returns : goal.returns
returns c =
    let first = c.args.first.now in
    let second = c.args.second.now in
    let m = 1 + length c.sets.result.now + c.sequences.result in
    let n = c.sequences-2.result + length c.sets-2.result.now + 1 in
    let a = ap (λ (xs : List SetRow). length xs) c.sets.ensures ∙ sym (sets_are first) in
    let b = ap (λ (xs : List SetRow). length xs) c.sets-2.ensures ∙ sym (sets_are second) in
    let x = c.sequences-2.ensures ∙ c.requires.first_side.sequences_are in
    let y = c.sequences.ensures ∙ c.requires.second_side.sequences_are in
    let m_is : m ≡ constraints (side_of first) (side_of second) = omega (arith, a, y) in
    let n_is : n ≡ columns_of (side_of first) (side_of second) = omega (arith, b, x) in
    subst (IsSystemFor first second (number_at c.args.gains.now (sequences (side_of second)))) (sym c.new.ensures.value)
    (system_for first second (number_at c.args.gains.now (sequences (side_of second))) m n c.push.new.self.items c.in_ok-basics.basics.items c.in_ok-nonbasics.nonbasics.items c.in_ok-cells.cells.items m_is n_is (omega (arith, c.requires.few, m_is, n_is))
    c.in_ok-basics.ensures c.in_ok-push.ensures.items c.in_ok-nonbasics.ensures c.in_ok-cells.ensures)
