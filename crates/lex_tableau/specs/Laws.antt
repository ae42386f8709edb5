-- The laws of systems and tableaux, as statements. Each is proved by a function of src/lib.rt.
use Rattle.std.specs.Prelude.{◌≡◌}
use Rattle.answers.specs.Answers.{IsSingle}
use Rattle.linear_systems.specs.Rows.{Alike}
use Rattle.lex_tableau.specs.Rows.{WholeTableau, tableau, IsTableau}
use Rattle.lex_tableau.specs.Starts.{LinearSystem}
use Rattle.lex_tableau.specs.StartStops.{start_in}

-- Tableaux of the same fractions, from the same start's variables and with as many rated rows, are
-- equal.
abbrev pub TableauxAreDetermined : Type 0
TableauxAreDetermined =
    (a b : WholeTableau) → IsTableau a → IsTableau b → a.starts ≡ b.starts → a.rated ≡ b.rated
    → Alike (tableau a) (tableau b) → a ≡ b

-- A system has at most one answer: a start, or the first step of its rows that does not fit.
abbrev pub StartsAreSingle : Type 0
StartsAreSingle = (s : LinearSystem) → IsSingle (start_in s)
