use Rattle.std.proofs.Common.{◌≡◌, ◌≤◌, ◌∙◌, ap, subst}
use Rattle.outside.specs.Counts.{next_count}
use Rattle.outside.specs.MemInputs.{InputsState}
use Rattle.outside.proofs.mem_inputs.MemInputsInputs.select.Goals as goal

pub returns-then-fails-clause-counts : goal.returns-then-fails-clause-counts
returns-then-fails-clause-counts c =
    let before : c.self.inside.selection.open_faults ≡ c.args.self.now.open_faults = ap (λ (s : InputsState). s.open_faults) (c.self.view_is ∙ c.counts_failing-fails.ensures.counts) in
    let began : c.begin.new.self.open_faults ≡ c.args.self.now.open_faults = ap (λ s. s.open_faults) c.begin.ensures ∙ before in
    record {
      never_falls = subst (λ n. n ≤ c.refuse.new.self.open_faults) began c.refuse.ensures.never_falls;
      same_at_ok = tt;
      next_at_err = ap (λ s. s.open_faults) c.refuse.ensures.state ∙ ap next_count began;
    }
