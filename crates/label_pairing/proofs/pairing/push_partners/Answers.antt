use Rattle.std.proofs.Common.{◌≡◌, ◌∙◌, ◌++◌, OnOk, ap, sym, subst}
use Rattle.std.proofs.lemmas.List.{append-nil}
use Rattle.label_pairing.proofs.PartnerLemmas.{no-partners}
use Rattle.label_pairing.proofs.RowLemmas.{found-partners}
use Rattle.label_pairing.proofs.pairing.push_partners.Goals as goal

pub returns-then-count-eq0-clause-pairs : goal.returns-then-count-eq0-clause-pairs
returns-then-count-eq0-clause-pairs c =
    sym (ap (λ more. c.args.pairs.now.items ++ more) (no-partners c.args.i c.args.mask c.args.candidates.now.all c.args.candidates.now.low.now c.args.candidates.now.high.now (sym c.requires.count ∙ c.if-count-eq0.true)) ∙ append-nil c.args.pairs.now.items)

pub returns-clause-pairs : goal.returns-clause-pairs
returns-clause-pairs c =
    subst (λ more. OnOk c.push_found.result (c.push_found.new.pairs.items ≡ c.args.pairs.now.items ++ more)) (found-partners c.args.i c.args.mask c.args.candidates.now.all c.args.candidates.now.low.now c.args.candidates.now.high.now c.matches.new.found c.matches.ensures) c.push_found.ensures
