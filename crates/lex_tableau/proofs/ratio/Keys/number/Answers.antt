use Rattle.std.proofs.Common.{◌∙◌, ◌≡◌, suc, ◌*◌, ◌+◌, ◌-◌, ◌≤◌, ap, subst, length, get_or, nat_abs, arith, mul-le-mul_right}
use Rattle.rational.specs.Rational.{frac}
use Rattle.whole_rows.proofs.FittingStepLemmas.{read_at, read_first}
use Rattle.lex_tableau.specs.Columns.{IsColumnOf}
use Rattle.lex_tableau.specs.Keys.{tableau_in}
use Rattle.lex_tableau.specs.Rows.{row_of}
use Rattle.lex_tableau.proofs.ColumnLemmas.{column_is, column_within}
use Rattle.lex_tableau.proofs.RatioRowLemmas.{key_own, key_column, key_absent}
use Rattle.lex_tableau.proofs.TableauPivotLemmas.{numbers_fit}
use Rattle.lex_tableau.proofs.ratio.Keys.number.Goals as goal

pub bounds-self-first-then-column-gt0 : goal.bounds-self-first-then-column-gt0
bounds-self-first-then-column-gt0 c =
    let within = column_within c.args.self.now.nonbasics.now _ _ (column_is c.requires.keys.columns c.args.place c.if-place-eq0.false c.requires.place_in) in
    let up : suc c.args.row * (length c.args.self.now.nonbasics.now + 2) ≤ length c.args.self.now.basics.now * (length c.args.self.now.nonbasics.now + 2) = mul-le-mul_right (length c.args.self.now.nonbasics.now + 2) c.requires.row_in in
    omega (arith, within, up, c.requires.keys.is_tableau.shape)

pub returns-then-column-gt0 : goal.returns-then-column-gt0
returns-then-column-gt0 c =
    ap (λ n. frac n (nat_abs (row_of (tableau_in c.args.self.now) c.args.row 0))) (read_at c.args.self.now.numbers.now (c.args.row * (length c.args.self.now.nonbasics.now + 2) + get_or c.args.self.now.columns.now (c.args.place - 1) 0) (numbers_fit (tableau_in c.args.self.now) c.requires.keys.is_tableau))
    ∙ key_column (tableau_in c.args.self.now) c.args.row c.args.place c.requires.keys.is_tableau c.requires.row_in c.if-place-eq0.false (get_or c.args.self.now.columns.now (c.args.place - 1) 0) c.if-column-gt0.true (column_is c.requires.keys.columns c.args.place c.if-place-eq0.false c.requires.place_in)

pub returns-then-self-row : goal.returns-then-self-row
returns-then-self-row c =
    ap (λ n. frac n (nat_abs (row_of (tableau_in c.args.self.now) c.args.row 0))) (read_first c.args.self.now.numbers.now (c.args.row * (length c.args.self.now.nonbasics.now + 2)) (numbers_fit (tableau_in c.args.self.now) c.requires.keys.is_tableau))
    ∙ key_own (tableau_in c.args.self.now) c.args.row c.args.place c.requires.keys.is_tableau c.requires.row_in c.if-place-eq0.false c.if-self-row.true

pub returns-else-self-row : goal.returns-else-self-row
returns-else-self-row c =
    let none : get_or c.args.self.now.columns.now (c.args.place - 1) 0 ≡ 0 = omega (arith, c.if-column-gt0.false) in
    key_absent (tableau_in c.args.self.now) c.args.row c.args.place c.requires.keys.is_tableau c.requires.row_in c.if-place-eq0.false c.if-self-row.false
    (subst (IsColumnOf c.args.self.now.nonbasics.now (get_or c.args.self.now.starts.now (c.args.place - 1) 0)) none (column_is c.requires.keys.columns c.args.place c.if-place-eq0.false c.requires.place_in))
