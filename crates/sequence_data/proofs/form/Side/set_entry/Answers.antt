use Rattle.std.proofs.Common.{◌≢◌, ◌≤◌, ◌<◌, ◌-◌, length, sym, ◌∙◌, ap, arith}
use Rattle.rational.specs.Rational.{neg_ℚ}
use Rattle.sequence_data.proofs.SetEntryLemmas.{whole_at_empty, whole_elsewhere, entry_at_action, entry_past, entry_at_before, entry_elsewhere}
use Rattle.sequence_data.specs.Data.{side_of}
use Rattle.sequence_forms.specs.Matrices.{set_row}
use Rattle.sequence_data.proofs.form.Side.set_entry.Goals as goal

pub returns-then-sequence-eq0 : goal.returns-then-sequence-eq0
returns-then-sequence-eq0 c = c.one.ensures ∙ sym (ap (λ k. set_row (side_of c.args.self.now) k c.args.sequence) c.if-row-eq0.true ∙ whole_at_empty (side_of c.args.self.now) c.args.sequence c.if-sequence-eq0.true)

pub returns-then-row-eq0 : goal.returns-then-row-eq0
returns-then-row-eq0 c = c.zero.ensures ∙ sym (ap (λ k. set_row (side_of c.args.self.now) k c.args.sequence) c.if-row-eq0.true ∙ whole_elsewhere (side_of c.args.self.now) c.args.sequence c.requires.sequence c.if-sequence-eq0.false)

pub returns-then-sequence-first : goal.returns-then-sequence-first
returns-then-sequence-first c =
    let n : c.args.row ≢ 0 = c.if-row-eq0.false in let r : c.args.row ≤ length c.args.self.now.sets = c.requires.row in let h : c.args.row - 1 < length c.args.self.now.sets = omega (arith, n, r) in let set = c.own_set-set in
    c.one-then-sequence-first.ensures ∙ entry_at_action c.args.self.now c.requires.side c.args.row c.args.sequence set.result h n set.ensures.before set.ensures.first set.ensures.count c.if-first-sequence.true c.if-sequence-first.true

pub returns-then-first-sequence : goal.returns-then-first-sequence
returns-then-first-sequence c =
    let n : c.args.row ≢ 0 = c.if-row-eq0.false in let r : c.args.row ≤ length c.args.self.now.sets = c.requires.row in let h : c.args.row - 1 < length c.args.self.now.sets = omega (arith, n, r) in let set = c.own_set-set in
    let m = c.if-sequence-first.false in c.zero-then-first-sequence.ensures ∙ entry_past c.args.self.now c.requires.side c.args.row c.args.sequence set.result h n set.ensures.before set.ensures.first set.ensures.count c.requires.sequence c.if-first-sequence.true (λ l. absurd (omega (arith, l, m)))

pub returns-then-sequence-set : goal.returns-then-sequence-set
returns-then-sequence-set c =
    let n : c.args.row ≢ 0 = c.if-row-eq0.false in let r : c.args.row ≤ length c.args.self.now.sets = c.requires.row in let h : c.args.row - 1 < length c.args.self.now.sets = omega (arith, n, r) in let set = c.own_set-set in
    c.neg.ensures ∙ ap neg_ℚ c.one-then-sequence-set.ensures ∙ entry_at_before c.args.self.now c.requires.side c.args.row c.args.sequence set.result h n set.ensures.before set.ensures.first set.ensures.count c.if-sequence-set.true

pub returns : goal.returns
returns c =
    let n : c.args.row ≢ 0 = c.if-row-eq0.false in let r : c.args.row ≤ length c.args.self.now.sets = c.requires.row in let h : c.args.row - 1 < length c.args.self.now.sets = omega (arith, n, r) in let set = c.own_set-set in
    let m = c.if-first-sequence.false in c.zero-2.ensures ∙ entry_elsewhere c.args.self.now c.requires.side c.args.row c.args.sequence set.result h n set.ensures.before set.ensures.first set.ensures.count c.requires.sequence (λ l. absurd (omega (arith, l, m))) c.if-sequence-set.false
