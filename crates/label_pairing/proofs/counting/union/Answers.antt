use Rattle.std.proofs.Common.{inl, inr, bit_or, get_or, subst, arith}
use Rattle.std.proofs.lemmas.Bool.{cases_lt}
use Rattle.label_pairing.specs.Matches.{HasBitsOf}
use Rattle.label_pairing.proofs.PartnerLemmas.{has_given, has_more}
use Rattle.label_pairing.proofs.counting.union.Goals as goal

pub loop-word-preserved : goal.loop-word-preserved
loop-word-preserved c = λ k l.
    let word = get_or c.args.words.now c.loop-word.word-index 0 in
    elim (cases_lt k c.loop-word.word-index) [
      | inl below ↦ has_more c.loop-word.union word (get_or c.args.words.now k 0) (c.loop-word.invariant k below)
      | inr last ↦ subst (λ j. HasBitsOf (bit_or c.loop-word.union word) (get_or c.args.words.now j 0)) (omega (arith, l, last)) (has_given c.loop-word.union word)
    ]
