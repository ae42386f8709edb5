-- The marks around the parts of a layout: tags of HTML, and commands of the LaTeX package sgame.
-- Source: WHATWG, "HTML"; Osborne 2008, "LaTeX style file for strategic games".
use Rattle.std.specs.Prelude.{ℕ, List, [], codes}
use Rattle.convert_tables.specs.declared.marks.Style.{Style}
use Rattle.convert_tables.specs.declared.marks.Style.TheVariants.{Html, Sgame}
use Rattle.convert_tables.specs.declared.marks.Mark.{Mark}
use Rattle.convert_tables.specs.declared.marks.Mark.TheVariants.{HeadingStart, HeadingEnd, ColumnStart, ColumnEnd, ColumnsEnd, RowStart, RowNameEnd, CellStart, CellEnd, RowEnd, LastRowEnd, TableEnd}

-- the text of a mark in HTML
abbrev pub html_mark : Mark → List ℕ
html_mark HeadingStart = codes "<h2>"
html_mark HeadingEnd = codes "</h2>\n"
html_mark ColumnStart = codes "<th>"
html_mark ColumnEnd = codes "</th>"
html_mark ColumnsEnd = codes "</tr>\n"
html_mark RowStart = codes "<tr><th>"
html_mark RowNameEnd = codes "</th>"
html_mark CellStart = codes "<td>"
html_mark CellEnd = codes "</td>"
html_mark RowEnd = codes "</tr>\n"
html_mark LastRowEnd = codes "</tr>\n"
html_mark TableEnd = codes "</table>\n"

-- the text of a mark in a game of sgame
abbrev pub sgame_mark : Mark → List ℕ
sgame_mark HeadingStart = []
sgame_mark HeadingEnd = codes "\n"
sgame_mark ColumnStart = codes "& "
sgame_mark ColumnEnd = codes " "
sgame_mark ColumnsEnd = codes "\\\\\n"
sgame_mark RowStart = []
sgame_mark RowNameEnd = []
sgame_mark CellStart = codes " & $"
sgame_mark CellEnd = codes "$"
sgame_mark RowEnd = codes " \\\\\n"
sgame_mark LastRowEnd = codes "\n"
sgame_mark TableEnd = codes "\\end{game}\n"

-- the text of a mark in a style
abbrev pub mark_text : Style → Mark → List ℕ
mark_text Html = html_mark
mark_text Sgame = sgame_mark
