use Rattle.std.proofs.Common.{List, map, refl, subst, Ok, Err}
use Rattle.std.proofs.lemmas.Result.{err_from_is_err_and}
use Rattle.answers.specs.Answers.{Gives, such_that}
use Rattle.answers.proofs.AnswerLemmas.{gives_first}
use Rattle.rational.specs.Extremes.{IsGreatest, IsLeast}
use Rattle.sequence_data.specs.Cells.{AreCells}
use Rattle.sequence_data.specs.Data.{IsFormOf}
use Rattle.sequence_data.specs.Steps.{gathering_in}
use Rattle.sequence_data.specs.declared.stop.SeqStop.TheVariants as stops
use Rattle.sequence_data.specs.declared.types.Leaf.{Leaf}
use Rattle.sequence_data.proofs.form.SeqForm.of_leaves.Goals as goal

pub returns-in_err-cells : goal.returns-in_err-cells
returns-in_err-cells c =
    let p = err_from_is_err_and c.from_residual.result c.from_residual.ensures.1 in
    rw (p.1, p.2) (gives_first stops.Memory (gathering_in c.args.leaves.items) (λ _. such_that (IsFormOf c.args.first c.args.second c.args.leaves.items)) c.in_err-cells.field-0.0
    (subst (λ (ls : List Leaf). Gives stops.Memory (gathering_in ls) (Err c.in_err-cells.field-0.0)) c.deref.ensures.value c.in_err-cells.ensures.steps))

pub returns : goal.returns
returns c =
    let extremes = c.extreme_payoffs-extremes in (
      tt,
      subst (λ (ls : List Leaf). gathering_in ls (Ok tt)) c.deref.ensures.value c.in_ok-cells.ensures.steps,
      record {
        first_is = refl;
        second_is = refl;
        leaves_are = refl;
        of_leaves = record {
          cells_are = subst (λ (ls : List Leaf). AreCells ls c.in_ok-cells.cells.items) c.deref.ensures.value c.in_ok-cells.ensures.cells;
          greatest_one_is = subst (λ (ls : List Leaf). IsGreatest (map (λ l. l.one) ls) extremes.result.greatest_one) c.deref-2.ensures.value extremes.ensures.greatest_one;
          greatest_two_is = subst (λ (ls : List Leaf). IsGreatest (map (λ l. l.two) ls) extremes.result.greatest_two) c.deref-2.ensures.value extremes.ensures.greatest_two;
          least_one_is = subst (λ (ls : List Leaf). IsLeast (map (λ l. l.one) ls) extremes.result.least_one) c.deref-2.ensures.value extremes.ensures.least_one;
        };
      },
    )
