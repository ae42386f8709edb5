use Rattle.std.proofs.Common.{◌∙◌, ◌*◌, ◌+◌, ◌*ℤ◌, ap₂, length, sym, int_cmp}
use Rattle.std.specs.Int.{w128}
use Rattle.std.proofs.lemmas.Int.{to_z-of_z}
use Rattle.rational.proofs.PartLemmas.{pos_nat_abs}
use Rattle.whole_rows.proofs.FittingStepLemmas.{read_at}
use Rattle.lex_tableau.specs.Keys.{tableau_in}
use Rattle.lex_tableau.specs.Rows.{row_of}
use Rattle.lex_tableau.proofs.RatioRowLemmas.{compared}
use Rattle.lex_tableau.proofs.TableauPivotLemmas.{numbers_fit}
use Rattle.lex_tableau.proofs.ratio.Keys.compare_at.Goals as goal

pub returns : goal.returns
returns c =
    compared (tableau_in c.args.self.now) c.args.column c.args.row c.args.best c.args.place c.number.result c.number-2.result c.compare_quotients.result c.requires.keys.is_tableau c.requires.row_in c.requires.best_in c.requires.positive c.requires.best_positive c.number.ensures c.number-2.ensures
    (c.compare_quotients.ensures ∙ ap₂ int_cmp
    (ap₂ (λ k n. k *ℤ n) (to_z-of_z w128 c.number.result (record { sfits = c.number.type_inv })) (read_at c.args.self.now.numbers.now (c.args.best * (length c.args.self.now.nonbasics.now + 2) + (c.args.column + 1)) (numbers_fit (tableau_in c.args.self.now) c.requires.keys.is_tableau) ∙ sym (pos_nat_abs (row_of (tableau_in c.args.self.now) c.args.best (c.args.column + 1)) c.requires.best_positive)))
    (ap₂ (λ k n. k *ℤ n) (to_z-of_z w128 c.number-2.result (record { sfits = c.number-2.type_inv })) (read_at c.args.self.now.numbers.now (c.args.row * (length c.args.self.now.nonbasics.now + 2) + (c.args.column + 1)) (numbers_fit (tableau_in c.args.self.now) c.requires.keys.is_tableau) ∙ sym (pos_nat_abs (row_of (tableau_in c.args.self.now) c.args.row (c.args.column + 1)) c.requires.positive))))
