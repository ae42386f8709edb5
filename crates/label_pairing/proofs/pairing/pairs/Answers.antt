use Rattle.std.proofs.Common.{◌≡◌, ◌<◌, ◌^◌, ◌∙◌, inl, inr, Ok, Err, refl, length, get_or, sym, ap, subst, arith}
use Rattle.std.specs.Prelude.{sum}
use Rattle.std.proofs.lemmas.List.{length-map}
use Rattle.std.proofs.lemmas.Result.{err_from_is_err_and}
use Rattle.basis_enum.specs.Vertices.{marks_of}
use Rattle.basis_enum.specs.declared.vertex.Vertex.{Vertex}
use Rattle.label_pairing.specs.Pairs.{all_pairs, most_pairs}
use Rattle.game_core.specs.Limits.{within}
use Rattle.game_core.specs.declared.too_large.What.TheVariants as what
use Rattle.label_pairing.proofs.PartnerLemmas.{partners_fit, pairs-counted}
use Rattle.label_pairing.proofs.RowLemmas.{words_of}
use Rattle.label_pairing.proofs.pairing.pairs.Goals as goal

pub pair_count-count-requires : goal.pair_count-count-requires
pair_count-count-requires g c =
    let few : length c.deref.result.now < 2 ^ 32 = omega (arith, ap length (c.deref.ensures.value ∙ c.in_ok-low.ensures), length-map c.args.second.now (λ (vertex : Vertex). get_or vertex.mask 0 0), c.requires.few_second) in
    subst (λ counts. sum counts < 2 ^ 64) (sym (c.deref-3.ensures.value ∙ c.in_ok-counts.ensures)) (partners_fit c.args.all c.deref.result.now c.deref-2.result.now c.args.first.now c.requires.few_first few)

pub collected-requires-clause-counts : goal.collected-requires-clause-counts
collected-requires-clause-counts g c = c.deref-4.ensures.value ∙ c.in_ok-counts.ensures

pub returns-in_err-within : goal.returns-in_err-within
returns-in_err-within g c =
    let marks = marks_of c.args.second.now in
    let so_many : c.pair_count-count.result ≡ length (all_pairs c.args.all (marks_of c.args.first.now) marks) = c.pair_count-count.ensures ∙ ap sum (c.deref-3.ensures.value ∙ c.in_ok-counts.ensures) ∙ pairs-counted c.args.all c.deref.result.now c.deref-2.result.now marks (words_of c.args.second.now c.deref.result.now c.deref-2.result.now (c.deref.ensures.value ∙ c.in_ok-low.ensures) (c.deref-2.ensures.value ∙ c.in_ok-high.ensures)) c.args.first.now in
    let stop = subst (λ n. within what.Pairs most_pairs n (Err c.in_err-within.field-0.0)) so_many c.in_err-within.ensures in
    let p = err_from_is_err_and c.from_residual-in_err-within.result c.from_residual-in_err-within.ensures.1 in
    rw (p.1, p.2) (inr (inl (c.in_err-within.field-0.0, stop, refl)))

pub returns : goal.returns
returns g c =
    let marks = marks_of c.args.second.now in
    let so_many : c.pair_count-count.result ≡ length (all_pairs c.args.all (marks_of c.args.first.now) marks) = c.pair_count-count.ensures ∙ ap sum (c.deref-3.ensures.value ∙ c.in_ok-counts.ensures) ∙ pairs-counted c.args.all c.deref.result.now c.deref-2.result.now marks (words_of c.args.second.now c.deref.result.now c.deref-2.result.now (c.deref.ensures.value ∙ c.in_ok-low.ensures) (c.deref-2.ensures.value ∙ c.in_ok-high.ensures)) c.args.first.now in
    let are_all : c.in_ok-collected.field-0.items ≡ all_pairs c.args.all (marks_of c.args.first.now) marks = c.in_ok-collected.ensures marks (words_of c.args.second.now c.deref.result.now c.deref-2.result.now (c.deref.ensures.value ∙ c.in_ok-low.ensures) (c.deref-2.ensures.value ∙ c.in_ok-high.ensures)) in
    (tt, subst (λ n. ¬ (most_pairs < n)) so_many c.in_ok-within.ensures, ap Ok are_all)
