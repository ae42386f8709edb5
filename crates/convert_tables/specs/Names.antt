-- Names in a layout: what stands for a byte that means something else there. A line feed and a
-- carriage return are spaces.
use Rattle.std.specs.Prelude.{ℕ, ◌==◌, if◌then◌else◌, List, [], ◌∷◌, ◌++◌, codes, Option, Some, None, unwrap_or}
use Rattle.std.specs.List.{flat_map}
use Rattle.convert_tables.specs.declared.marks.Mark.{Mark}
use Rattle.convert_tables.specs.declared.marks.Style.{Style}
use Rattle.convert_tables.specs.declared.marks.Style.TheVariants.{Html, Sgame}
use Rattle.convert_tables.specs.Marks.{mark_text}

-- what stands for a byte in HTML
abbrev pub html_escapes : List (ℕ × List ℕ)
html_escapes =
    (10, codes " ") ∷ (13, codes " ")
    ∷ (38, codes "&amp;") ∷ (60, codes "&lt;") ∷ (62, codes "&gt;") ∷ (34, codes "&quot;") ∷ []

-- what stands for a byte in LaTeX
abbrev pub sgame_escapes : List (ℕ × List ℕ)
sgame_escapes =
    (10, codes " ") ∷ (13, codes " ")
    ∷ (35, codes "\\#") ∷ (36, codes "\\$") ∷ (37, codes "\\%") ∷ (38, codes "\\&")
    ∷ (95, codes "\\_") ∷ (123, codes "\\{") ∷ (125, codes "\\}")
    ∷ (91, codes "{[}") ∷ (93, codes "{]}")
    ∷ (92, codes "\\textbackslash{}") ∷ (126, codes "\\textasciitilde{}")
    ∷ (94, codes "\\textasciicircum{}") ∷ []

-- what stands for a byte in a style
abbrev pub escapes : Style → List (ℕ × List ℕ)
escapes Html = html_escapes
escapes Sgame = sgame_escapes

-- what a list has for a byte
abbrev pub found : List (ℕ × List ℕ) → ℕ → Option (List ℕ)
found [] byte = None
found (escape ∷ rest) byte = if byte == escape.0 then Some escape.1 else found rest byte

-- a byte as it is written: by what stands for it, or as it is
abbrev pub written : Style → ℕ → List ℕ
written style byte = unwrap_or (found (escapes style) byte) (byte ∷ [])

-- a name as it is written
abbrev pub name_text : Style → List ℕ → List ℕ
name_text style name = flat_map (written style) name

-- a name between two marks
abbrev pub marked_text : Style → Mark → List ℕ → Mark → List ℕ
marked_text style start name end =
    mark_text style start ++ name_text style name ++ mark_text style end
