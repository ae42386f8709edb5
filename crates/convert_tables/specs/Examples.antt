-- The prisoners' dilemma as its layouts.
use Rattle.std.specs.Prelude.{pos, ◌≡◌, [], ◌∷◌, ◌++◌, map, codes}
use Rattle.rational.specs.Rational.{whole}
use Rattle.game_core.specs.Table.{GameTable}
use Rattle.convert_tables.specs.declared.marks.Style.TheVariants.{Html, Sgame}
use Rattle.convert_tables.specs.Layouts.{layout}

-- payoffs in file order: row 1 and row 2 of column 1, then of column 2
abbrev pub prisoners_dilemma : GameTable
prisoners_dilemma = record {
  title = codes "PD";
  players = codes "A" ∷ codes "B" ∷ [];
  strategies = (codes "1" ∷ codes "2" ∷ []) ∷ (codes "1" ∷ codes "2" ∷ []) ∷ [];
  payoffs = map (λ n. whole (pos n)) (3 ∷ 3 ∷ 5 ∷ 0 ∷ 0 ∷ 5 ∷ 1 ∷ 1 ∷ []);
}

pub record PrisonersDilemmaIsLaidOut : Type 0 where
  pub html : layout Html prisoners_dilemma 0 1
      ≡ codes "<h1>PD</h1>\n<table>\n<tr><th></th><th>1</th><th>2</th></tr>\n"
      ++ codes "<tr><th>1</th><td>3,3</td><td>0,5</td></tr>\n"
      ++ codes "<tr><th>2</th><td>5,0</td><td>1,1</td></tr>\n</table>\n"
  pub sgame : layout Sgame prisoners_dilemma 0 1
      ≡ codes "\\begin{game}{2}{2}[A][B]\n& 1 & 2 \\\\\n"
      ++ codes "1 & $3,3$ & $0,5$ \\\\\n"
      ++ codes "2 & $5,0$ & $1,1$\n\\end{game}\n"
