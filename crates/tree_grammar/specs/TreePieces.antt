-- Pieces at the front of a tree's tokens: the brace after actions, and the words of nodes.
use Rattle.std.specs.Prelude.{ℕ, ◌||◌, if◌then◌else◌, nat_le, Bool, false, List, ◌∷◌, Option, Some, None, codes}
use Rattle.std.specs.Str.{bytes_eq}
use Rattle.lists.specs.Options.{◌>>=◌}
use Rattle.game_core.specs.declared.token.Token.{Token}
use Rattle.game_core.specs.declared.token.Token.TheVariants.{Word}
use Rattle.file_parts.specs.Reading.{closing_brace_at}

-- the tokens after the brace that closes so many actions, which are at least one
abbrev pub closed_at : ℕ → List Token → Option (List Token)
closed_at count tokens =
    closing_brace_at tokens >>= λ rest. if nat_le 1 count then Some rest else None

-- whether the word of a node comes
abbrev pub is_node_word : List ℕ → Bool
is_node_word word =
    bytes_eq word (codes "c") || (bytes_eq word (codes "p") || bytes_eq word (codes "t"))

-- whether a node begins here
abbrev pub begins_node : List Token → Bool
begins_node (Word word ∷ rest) = is_node_word word
begins_node _ = false
