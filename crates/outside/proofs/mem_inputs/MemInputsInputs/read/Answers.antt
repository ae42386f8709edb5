use Rattle.std.proofs.Common.{◌≡◌, ◌≤◌, ◌∙◌, ap, sym, subst, rules, drop}
use Rattle.std.proofs.lemmas.List.{drop-drop}
use Rattle.outside.specs.Counts.{next_count}
use Rattle.outside.specs.MemInputs.{InputsState, bytes_left}
use Rattle.outside.proofs.MemInputsLemmas.{read_front}
use Rattle.outside.proofs.mem_inputs.MemInputsInputs.read.Goals as goal

pub returns-clause-bytes : goal.returns-clause-bytes
returns-clause-bytes c =
    let n = c.copy_front-count.result in
    let same = ap (λ s. drop n (bytes_left s)) (c.self.view_is ∙ c.counts_failing-fails.ensures.counts) in
    let chosen : c.count_end.new.self.selected ≡ c.self.inside.selection.selected = ap (λ s. s.selected) c.count_end.ensures.others in
    read_front (bytes_left c.args.self.now) c.args.buf.now c.copy_front-count.new.buf _ n (search rules) (search rules) (rw chosen (sym (drop-drop n c.self.inside.position _) ∙ same))

pub returns-then-fails-clause-counts : goal.returns-then-fails-clause-counts
returns-then-fails-clause-counts c =
    let before : c.self.inside.selection.read_faults ≡ c.args.self.now.read_faults = ap (λ (s : InputsState). s.read_faults) (c.self.view_is ∙ c.counts_failing-fails.ensures.counts) in
    record {
      never_falls = subst (λ n. n ≤ c.fail.new.self.read_faults) before c.fail.ensures.never_falls;
      same_at_ok = tt;
      next_at_err = ap (λ s. s.read_faults) c.fail.ensures.state ∙ ap next_count before;
    }
