use Rattle.std.specs.List.{between}
use Rattle.std.proofs.Common.{ℕ, ◌≡◌, ◌+◌, ◌*◌, ◌/◌, ◌∙◌, ◌∷◌, [], inl, inr, length, get_or, sym, ap, subst, arith}
use Rattle.std.proofs.lemmas.Bool.{cases_lt}
use Rattle.std.proofs.lemmas.List.{get_or_push, get_or_append_left, length-append}
use Rattle.std.proofs.lemmas.List.Edits.{get_or-between, length-between}
use Rattle.label_pairing.specs.Matches.{HasBitsOf}
use Rattle.label_pairing.proofs.counting.unions.Goals as goal

pub loop-block-preserved : goal.loop-block-preserved
loop-block-preserved c =
    let words = c.args.words.now in
    let old = c.loop-block.unions.items in
    let block : ℕ = c.loop-block.block in
    let at : ℕ = 8 * block in
    let word = c.union.result in
    let here : length (between at (at + 8) words) ≡ 8 = length-between words at (at + 8) (omega (arith, c.loop-block-test.true)) ∙ omega arith in
    record {
      so_many = ap length c.in_ok-push.ensures.items ∙ length-append old (word ∷ []) ∙ ap (λ n. n + 1) c.loop-block.invariant.so_many;
      have = λ b i l k. elim (cases_lt b block) [
        | inl below ↦
            subst (λ u. HasBitsOf u (get_or words (8 * b + i) 0))
            (sym (ap (λ v. get_or v b 0) c.in_ok-push.ensures.items ∙ get_or_append_left old (word ∷ []) 0 b (omega (arith, below, c.loop-block.invariant.so_many))))
            (c.loop-block.invariant.have b i below k)
        | inr last ↦
            let same : block ≡ b = omega (arith, l, last) in
            subst (λ j. HasBitsOf (get_or c.push.new.self.items j 0) (get_or words (8 * j + i) 0)) same
            (subst (λ u. HasBitsOf u (get_or words (at + i) 0)) (sym (ap (λ v. get_or v block 0) c.in_ok-push.ensures.items ∙ get_or_push old word 0 block c.loop-block.invariant.so_many))
            (subst (HasBitsOf word) (get_or-between words at (at + 8) i 0 (omega (arith, k))) (c.union.ensures i (omega (arith, k, here)))))
      ];
    }

pub returns : goal.returns
returns c =
    let end : c.loop-block.block ≡ length c.args.words.now / 8 = omega (arith, c.loop-block-test.false, c.loop-block.auto.block-end) in
    record {
      so_many = c.loop-block.invariant.so_many ∙ end;
      have = λ b i l k. c.loop-block.invariant.have b i (omega (arith, l, end)) k;
    }
