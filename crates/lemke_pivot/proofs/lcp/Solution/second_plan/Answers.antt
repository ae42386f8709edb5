use Rattle.std.proofs.Common.{◌≡◌, ◌∙◌, ap, arith, []}
use Rattle.game_theory.specs.Lines.{listed}
use Rattle.game_theory.proofs.EntryLemmas.{listed-push}
use Rattle.sequence_data.specs.Data.{side_of}
use Rattle.sequence_forms.specs.Sides.{sequences}
use Rattle.lemke_pivot.specs.Parts.{Problem, plan_two}
use Rattle.lemke_pivot.proofs.lcp.Solution.second_plan.Goals as goal

pub loop-sequence-preserved : goal.loop-sequence-preserved
loop-sequence-preserved c = listed-push _ c.loop-sequence.plan.items [] c.loop-sequence.sequence (plan_two c.args.self.now) _ c.loop-sequence.invariant c.in_ok-push.ensures.items c.two.ensures

pub returns : goal.returns
returns c =
    let all : c.loop-sequence.sequence ≡ c.sequences-sequence-end.result = omega arith in
    let has : c.sequences-sequence-end.result ≡ sequences (side_of c.args.self.now.second) = c.sequences-sequence-end.ensures ∙ c.self.invariant.1.sequences_are ∙ ap (λ (p : Problem). sequences (side_of p.second)) c.self.view_is in
    c.loop-sequence.invariant ∙ ap (λ n. listed n (plan_two c.args.self.now)) (all ∙ has)
