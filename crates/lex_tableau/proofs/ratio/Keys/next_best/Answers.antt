use Rattle.std.proofs.Common.{arith, subst, ◌+◌, ◌*◌, ◌≤ℤ◌, ◌<ℤ◌, pos, length}
use Rattle.linear_systems.specs.Rows.{IsLexicographicRowAmong}
use Rattle.whole_rows.proofs.FittingStepLemmas.{read_at}
use Rattle.lex_tableau.specs.Keys.{tableau_in}
use Rattle.lex_tableau.specs.Ratio.{IsBest, variable_at}
use Rattle.lex_tableau.specs.Rows.{WholeTableau, tableau}
use Rattle.lex_tableau.proofs.RatioRowLemmas.{best_passed, best_first, best_taken, best_kept, cell_positive, cell_not_positive, number_positive}
use Rattle.lex_tableau.proofs.TableauPivotLemmas.{numbers_fit, rated_in}
use Rattle.lex_tableau.proofs.ratio.Keys.next_best.Goals as goal

pub returns-then-not-is_positive : goal.returns-then-not-is_positive
returns-then-not-is_positive c =
    let n : WholeTableau = tableau_in c.args.self.now in
    best_passed c.args.row n.rated n.starts (tableau n) c.args.column c.args.best
    (cell_not_positive n c.args.row c.args.column c.requires.keys.is_tableau (rated_in n c.args.row c.requires.keys.is_tableau c.requires.row_in)
    (subst (λ z. z ≤ℤ pos 0) (read_at n.numbers (c.args.row * (length n.nonbasics + 2) + (c.args.column + 1)) (numbers_fit n c.requires.keys.is_tableau)) (c.is_positive.ensures.otherwise c.if-not-is_positive.true)))
    c.requires.best

pub returns-in_default : goal.returns-in_default
returns-in_default c =
    let n : WholeTableau = tableau_in c.args.self.now in
    best_first c.args.row n.rated n.starts (tableau n) c.args.column
    (cell_positive n c.args.row c.args.column c.requires.keys.is_tableau (rated_in n c.args.row c.requires.keys.is_tableau c.requires.row_in)
    (subst (λ z. pos 0 <ℤ z) (read_at n.numbers (c.args.row * (length n.nonbasics + 2) + (c.args.column + 1)) (numbers_fit n c.requires.keys.is_tableau)) (c.is_positive.ensures.positive c.if-not-is_positive.false)))
    (subst (IsBest c.args.row n.rated n.starts (tableau n) c.args.column) c.in_default.is c.requires.best)

pub compare_rows-requires-clause-best_positive : goal.compare_rows-requires-clause-best_positive
compare_rows-requires-clause-best_positive c =
    let n : WholeTableau = tableau_in c.args.self.now in
    let old : IsLexicographicRowAmong c.args.row n.rated (variable_at n.starts) (tableau n) c.args.column c.in-Some.old = subst (IsBest c.args.row n.rated n.starts (tableau n) c.args.column) c.in-Some.is c.requires.best in
    number_positive n c.in-Some.old c.args.column c.requires.keys.is_tableau (rated_in n c.in-Some.old c.requires.keys.is_tableau (omega (arith, old.within, c.requires.row_in))) old.positive

pub returns-in-Less : goal.returns-in-Less
returns-in-Less c =
    let n : WholeTableau = tableau_in c.args.self.now in
    best_taken c.args.row n.rated n.starts (tableau n) c.args.column c.in-Some.old
    (cell_positive n c.args.row c.args.column c.requires.keys.is_tableau (rated_in n c.args.row c.requires.keys.is_tableau c.requires.row_in)
    (subst (λ z. pos 0 <ℤ z) (read_at n.numbers (c.args.row * (length n.nonbasics + 2) + (c.args.column + 1)) (numbers_fit n c.requires.keys.is_tableau)) (c.is_positive.ensures.positive c.if-not-is_positive.false)))
    (subst (IsBest c.args.row n.rated n.starts (tableau n) c.args.column) c.in-Some.is c.requires.best) c.in-Less.ensures

pub returns-in_default-compare_rows : goal.returns-in_default-compare_rows
returns-in_default-compare_rows c =
    let n : WholeTableau = tableau_in c.args.self.now in
    best_kept c.args.row n.rated n.starts (tableau n) c.args.column c.in-Some.old c.compare_rows.result c.requires.keys.is_tableau.reached c.requires.row_in c.in_default-compare_rows.not-Less
    (cell_positive n c.args.row c.args.column c.requires.keys.is_tableau (rated_in n c.args.row c.requires.keys.is_tableau c.requires.row_in)
    (subst (λ z. pos 0 <ℤ z) (read_at n.numbers (c.args.row * (length n.nonbasics + 2) + (c.args.column + 1)) (numbers_fit n c.requires.keys.is_tableau)) (c.is_positive.ensures.positive c.if-not-is_positive.false)))
    (subst (IsBest c.args.row n.rated n.starts (tableau n) c.args.column) c.in-Some.is c.requires.best) c.compare_rows.ensures
