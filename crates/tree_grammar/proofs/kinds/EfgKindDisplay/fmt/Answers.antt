use Rattle.std.proofs.Common.{ℕ, List, ◌++◌, codes, sym, subst}
use Rattle.std.proofs.lemmas.List.{append_assoc}
use Rattle.std.specs.Fmt.{HasWritten, decimal}
use Rattle.frac128.specs.Texts.{step_text}
use Rattle.tree_grammar.proofs.kinds.EfgKindDisplay.fmt.Goals as goal

pub returns-in-ProbabilityRange-clause-writes : goal.returns-in-ProbabilityRange-clause-writes
returns-in-ProbabilityRange-clause-writes g c = λ plain ok.
    let written = λ (text : List ℕ). HasWritten g.W.Write.write_str_gives c.args.f.now (codes "probability of set " ++ text) c.write-in-ProbabilityRange.new.self in
    let same = sym (append_assoc (decimal c.in-ProbabilityRange.set) (codes " out of range: ") (step_text c.in-ProbabilityRange.unfit)) in
    rw c.in-ProbabilityRange.is (subst written same (c.write-in-ProbabilityRange.ensures.writes plain ok))
