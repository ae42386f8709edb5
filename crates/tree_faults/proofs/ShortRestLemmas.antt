-- What is left after a part that was read is short where all tokens are.
use Rattle.std.proofs.Common.{◌≡◌, ℕ, List, ◌∷◌, Some, ap, ◌∙◌, subst}
use Rattle.std.specs.Prelude.{Ok}
use Rattle.std.specs.List.{AllByRecursion}
use Rattle.game_core.specs.declared.token.Token.{Token}
use Rattle.game_core.specs.declared.token.Token.TheVariants.{Text, Word}
use Rattle.game_core.specs.Spacing.{IsShortToken}
use Rattle.file_parts.specs.Reading.{word_at, text_at}
use Rattle.file_parts.proofs.TokenLaws.{word_is, text_is}
use Rattle.written_trees.specs.Building.{PartialSet, UsedSet}
use Rattle.tree_grammar.specs.TreeParsing.{FrontPart, parse_front, parse_player, parse_choice}
use Rattle.tree_grammar.proofs.FrontLaws.{front_read_is}
use Rattle.tree_grammar.proofs.NodeLaws.{of_back}
use Rattle.tree_faults.proofs.TokenEndLemmas.{Ends, player_within, choice_within}

-- all are short
abbrev pub AreShort : List Token → Type 0
AreShort tokens = AllByRecursion IsShortToken tokens

-- so is an end of them
end_short : (rest tokens : List Token) → Ends rest tokens → AreShort tokens → AreShort rest
end_short rest tokens e short = of_back IsShortToken e.0 rest (subst AreShort e.1 short)

-- after the front
pub front_leaves : (tokens : List Token) (x : FrontPart × List Token) → parse_front tokens ≡ Ok x → AreShort tokens → AreShort x.1
front_leaves tokens x e short = let h = front_read_is tokens x e in end_short x.1 tokens (h.front, h.is) short

-- after the word and the name of a node
pub short_after : (tokens name_on following : List Token) (word name : List ℕ) → word_at tokens ≡ Some (word, name_on) → text_at name_on ≡ Some (name, following) → AreShort tokens → AreShort following
short_after tokens name_on following word name w n short =
    let all : tokens ≡ Word word ∷ Text name ∷ following = word_is tokens (word, name_on) w ∙ ap (λ (r : List Token). Word word ∷ r) (text_is name_on (name, following) n) in
    let s : AreShort (Word word ∷ Text name ∷ following) = subst AreShort all short in
    s.1.1

-- after a player's number
pub player_leaves : (players : ℕ) (tokens rest : List Token) (player : ℕ) → parse_player players tokens ≡ Ok (player, rest) → AreShort tokens → AreShort rest
player_leaves players tokens rest player e short = end_short rest tokens ((player_within players).ok tokens (player, rest) e) short

-- after a choice
pub choice_leaves : (players k : ℕ) (sets : List PartialSet) (tokens : List Token) (x : UsedSet × List Token) → parse_choice players k sets tokens ≡ Ok x → AreShort tokens → AreShort x.1
choice_leaves players k sets tokens x e short = end_short x.1 tokens ((choice_within players k sets).ok tokens x e) short
