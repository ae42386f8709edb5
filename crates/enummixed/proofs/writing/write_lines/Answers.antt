use Rattle.std.proofs.Common.{ℕ, ◌≡◌, ◌+◌, ◌∙◌, [], inr, refl, map, length, get_or, ap, arith}
use Rattle.game_theory.specs.Lines.{lines_text}
use Rattle.ne_printer.specs.Entries.{entries_text}
use Rattle.enumpure.proofs.OneTextLaws.{text-refused}
use Rattle.enummixed.specs.Order.{line_of}
use Rattle.enummixed.proofs.LineTextLemmas.{text-next, text-grows, entries-at}
use Rattle.enummixed.proofs.writing.write_lines.Goals as goal

pub returns-then-len-gt-MOST_TEXT : goal.returns-then-len-gt-MOST_TEXT
returns-then-len-gt-MOST_TEXT c =
    let line = line_of (map (λ v. v.items) c.args.firsts.now) (map (λ v. v.items) c.args.seconds.now) in
    let pairs = c.args.pairs.now in
    let pair : ℕ × ℕ = get_or pairs c.loop-pair.pair-index (0, 0) in
    let first : c.text_at-first.result.now ≡ entries_text (get_or (map (λ v. v.items) c.args.firsts.now) pair.0 []) = c.text_at-first.ensures ∙ ap (λ xs. get_or xs pair.0 []) (ap (map (λ v. v.items)) c.deref.ensures.value ∙ c.in_ok-first_texts.ensures) ∙ entries-at (λ v. v.items) c.args.firsts.now pair.0 in
    let second : c.text_at-second.result.now ≡ entries_text (get_or (map (λ v. v.items) c.args.seconds.now) pair.1 []) = c.text_at-second.ensures ∙ ap (λ xs. get_or xs pair.1 []) (ap (map (λ v. v.items)) c.deref-in-loop-pair.ensures.value ∙ c.in_ok-second_texts.ensures) ∙ entries-at (λ v. v.items) c.args.seconds.now pair.1 in
    let text = text-next line pairs c.loop-pair.pair-index (0, 0) c.loop-pair-test.true c.loop-pair.text.items c.push_joined.new.text.items (line pair) c.loop-pair.invariant.text refl (c.in_ok-push_joined.ensures _ _ first second) in
    inr (text-refused (λ text. text ≡ lines_text (map line pairs)) (lines_text (map line pairs)) _ refl (omega (arith, c.if-len-gt-MOST_TEXT.true, c.len.ensures, c.push_joined.new.text.ok.0, ap length text, text-grows line pairs (c.loop-pair.pair-index + 1))) c.too_long_text.ensures)

pub loop-pair-preserved : goal.loop-pair-preserved
loop-pair-preserved c =
    let line = line_of (map (λ v. v.items) c.args.firsts.now) (map (λ v. v.items) c.args.seconds.now) in
    let pairs = c.args.pairs.now in
    let pair : ℕ × ℕ = get_or pairs c.loop-pair.pair-index (0, 0) in
    let first : c.text_at-first.result.now ≡ entries_text (get_or (map (λ v. v.items) c.args.firsts.now) pair.0 []) = c.text_at-first.ensures ∙ ap (λ xs. get_or xs pair.0 []) (ap (map (λ v. v.items)) c.deref.ensures.value ∙ c.in_ok-first_texts.ensures) ∙ entries-at (λ v. v.items) c.args.firsts.now pair.0 in
    let second : c.text_at-second.result.now ≡ entries_text (get_or (map (λ v. v.items) c.args.seconds.now) pair.1 []) = c.text_at-second.ensures ∙ ap (λ xs. get_or xs pair.1 []) (ap (map (λ v. v.items)) c.deref-in-loop-pair.ensures.value ∙ c.in_ok-second_texts.ensures) ∙ entries-at (λ v. v.items) c.args.seconds.now pair.1 in
    record {
      text = text-next line pairs c.loop-pair.pair-index (0, 0) c.loop-pair-test.true c.loop-pair.text.items c.push_joined.new.text.items (line pair) c.loop-pair.invariant.text refl (c.in_ok-push_joined.ensures _ _ first second);
      few = omega (arith, c.if-len-gt-MOST_TEXT.false, c.len.ensures, c.push_joined.new.text.ok.0);
    }
