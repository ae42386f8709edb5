-- The words for a fault in a text.
use Rattle.std.specs.Prelude.{ℕ, List, codes}
use Rattle.game_text.specs.declared.reading.TextKind.{TextKind}
use Rattle.game_text.specs.declared.reading.TextKind.TheVariants as text_kind

-- the kind of a fault
abbrev pub text_kind_text : TextKind → List ℕ
text_kind_text text_kind.BadChar = codes "bad character"
text_kind_text text_kind.OpenText = codes "unclosed text"
text_kind_text text_kind.BadNumber = codes "bad number"
text_kind_text text_kind.NumberTooLarge = codes "number too large"
