-- Nodes up to a comma that stands where a node may begin are a reader. No file has a comma there, so it may come after any nodes,
-- also where no branch is open or a further node would pass a limit.
use Rattle.std.proofs.Common.{◌≡◌, ℕ, zero, suc, ◌≤◌, if◌then◌else◌, List, [], ◌∷◌, length, true, false, Option, Some, None, ◌⊎◌, inl, inr, codes, refl, sym, ap, ◌∙◌}
use Rattle.std.specs.Prelude.{Ok, Err}
use Rattle.game_core.specs.declared.tree.Kind.TheVariants.{End}
use Rattle.game_core.specs.Tree.{kind_of_owner}
use Rattle.game_core.specs.declared.token.Token.{Token}
use Rattle.game_core.specs.declared.token.Token.TheVariants.{Left, Comma, Text, Word}
use Rattle.file_parts.specs.Reading.{text_at, whole_at}
use Rattle.file_parts.specs.Parsing.{Parsed, ◌>>=◌, wanted}
use Rattle.file_parts.proofs.ReaderLemmas.{IsReader, bind_reader, pure_reader, choose, choose_reader, same_reader, token_reader, ok_err, result_of, chain}
use Rattle.file_parts.proofs.TokenReaderLemmas.{text_reader, some_or_none}
use Rattle.written_trees.specs.Building.{PartialTree, Branching, PartialSet, passed, UsedSet, with_parts}
use Rattle.tree_grammar.specs.TreePieces.{is_node_word, begins_node}
use Rattle.tree_grammar.specs.TreeParsing.{parse_set, parse_player, parse_outcome, parse_set_choice, parse_own_choice, parse_choice, parse_after, parse_next}
use Rattle.tree_grammar.specs.declared.kinds.EfgKind.{EfgKind}
use Rattle.tree_grammar.specs.declared.kinds.EfgKind.TheVariants.{Node}
use Rattle.tree_faults.proofs.PartReaderLemmas.{has_comma, comma, comma_first, comma_reader, own_list_reader}
use Rattle.tree_faults.proofs.ChanceReaderLemmas.{chance_list_reader}
use Rattle.tree_faults.proofs.NodeReaderLemmas.{ReadsNoText, ReadsNoBrace, map_then, first_list_reader}
use Rattle.tree_faults.proofs.MarkedReaderLemmas.{outcome_part_reader, set_part_reader, player_reader}
use Rattle.std.proofs.lemmas.Bool.{cases_Bool}
use Rattle.std.specs.Str.{bytes_eq}
use Rattle.game_core.specs.declared.too_large.What.{What}
use Rattle.tree_faults.proofs.LocatedReadingLemmas.{located_at, located_unlimited}

-- the comma after nodes
abbrev pub mark_here : PartialTree → List Token → Parsed EfgKind PartialTree
mark_here partial tokens = comma tokens >>= λ x. Ok (partial, x.1)

-- at most so many nodes, and a comma
abbrev pub marked : ℕ → ℕ → PartialTree → List Token → Parsed EfgKind PartialTree
marked zero players partial tokens = mark_here partial tokens
marked (suc most) players partial tokens = if has_comma tokens then mark_here partial tokens else (located_at players partial partial.branchings tokens >>= λ x. marked most players x.0 x.1)

mark_reader : (partial : PartialTree) → IsReader (mark_here partial)
mark_reader partial = bind_reader comma (λ _ tokens. Ok (partial, tokens)) comma_reader (λ _ _ _. pure_reader partial)

-- ---- the word of a node
abbrev node_word : List Token → Parsed EfgKind (List ℕ)
node_word (Word word ∷ rest) = if is_node_word word then Ok (word, rest) else Err (Node, Word word ∷ rest)
node_word tokens = Err (Node, tokens)

node_word_token : (t : Token) → ((x : List ℕ) × ((rest : List Token) → node_word (t ∷ rest) ≡ Ok (x, rest))) ⊎ ((k : EfgKind) × ((rest : List Token) → node_word (t ∷ rest) ≡ Err (k, t ∷ rest)))
node_word_token (Word word) = elim (cases_Bool (is_node_word word)) [
  | inl e ↦ inl (word, λ rest. rw e refl)
  | inr e ↦ inr (Node, λ rest. rw e refl)
]
node_word_token _ = inr (Node, λ rest. refl)

node_word_reader : IsReader node_word
node_word_reader = token_reader node_word (record { token = Word (codes "t"); value = codes "t"; is_read = λ rest. refl; kind = Node; at_end = refl; by_token = node_word_token })

-- ---- what follows the choice
-- the outcome, and further nodes
then_outcome : ℕ → ℕ → PartialTree → Branching → List Branching → UsedSet → List Token → Parsed EfgKind PartialTree
then_outcome most players partial b rest choice tokens = parse_outcome players partial.outcomes tokens >>= λ o. marked most players (with_parts partial b rest choice o.0) o.1

marked_no_brace : (most players : ℕ) (partial : PartialTree) → ReadsNoBrace (marked most players partial)
marked_no_brace zero players partial = record { no_brace = λ rest y e. ok_err y (Node, Left ∷ rest) (sym e) }
marked_no_brace (suc most) players partial = record { no_brace = λ rest y e. by partial.branchings rest y e }
  where
    by : (branchings : List Branching) (rest : List Token) (y : PartialTree × List Token) → (located_at players partial branchings (Left ∷ rest) >>= λ x. marked most players x.0 x.1) ≡ Ok y → ⊥
    by [] rest y e = ok_err y (Node, Left ∷ rest) (sym e)
    by (b ∷ branchings) rest y e = ok_err y (Node, Left ∷ rest) (sym e)

marked_no_text : (most players : ℕ) (partial : PartialTree) → ReadsNoText (marked most players partial)
marked_no_text zero players partial = record { no_text = λ text rest y e. ok_err y (Node, Text text ∷ rest) (sym e) }
marked_no_text (suc most) players partial = record { no_text = λ text rest y e. by partial.branchings text rest y e }
  where
    by : (branchings : List Branching) (text : List ℕ) (rest : List Token) (y : PartialTree × List Token) → (located_at players partial branchings (Text text ∷ rest) >>= λ x. marked most players x.0 x.1) ≡ Ok y → ⊥
    by [] text rest y e = ok_err y (Node, Text text ∷ rest) (sym e)
    by (b ∷ branchings) text rest y e = ok_err y (Node, Text text ∷ rest) (sym e)

outcome_no_brace : (most players : ℕ) (partial : PartialTree) (b : Branching) (rest : List Branching) (choice : UsedSet) → ReadsNoBrace (then_outcome most players partial b rest choice)
unfolding then_outcome parse_outcome whole_at
outcome_no_brace most players partial b rest choice = record { no_brace = λ tokens y e. ok_err y (Node, Left ∷ tokens) (sym e) }

outcome_no_name : (most players : ℕ) (partial : PartialTree) (b : Branching) (rest : List Branching) (choice : UsedSet) → ReadsNoText (then_outcome most players partial b rest choice)
unfolding then_outcome parse_outcome whole_at
outcome_no_name most players partial b rest choice = record { no_text = λ text tokens y e. ok_err y (Node, Text text ∷ tokens) (sym e) }

-- ---- what follows the word and the name
-- a set, and what follows it
then_set : ℕ → ℕ → PartialTree → Branching → List Branching → Option ℕ → List Token → Parsed EfgKind PartialTree
then_set most players partial b rest owner tokens = parse_set_choice (length partial.nodes) partial.sets owner tokens >>= λ c. then_outcome most players partial b rest c.0 c.1

-- by the word
by_word : ℕ → ℕ → PartialTree → Branching → List Branching → List ℕ → List Token → Parsed EfgKind PartialTree
by_word most players partial b rest word tokens =
    if bytes_eq word (codes "c") then then_set most players partial b rest None tokens
    else if bytes_eq word (codes "p") then (parse_player players tokens >>= λ player. then_set most players partial b rest (Some player.0) player.1) else then_outcome most players partial b rest (partial.sets, (End, None)) tokens

-- a further node, and what follows it
further : ℕ → ℕ → PartialTree → Branching → List Branching → List Token → Parsed EfgKind PartialTree
further most players partial b rest tokens = node_word tokens >>= λ word. wanted Node word.1 (text_at word.1) >>= λ name. by_word most players partial b rest word.0 name.1

-- ---- one after another
-- a choice, an outcome, and what follows
in_a_row : {X Y Z : Type 0} (c : Parsed EfgKind X) (o : X × List Token → Parsed EfgKind Y) (f : X → Y → PartialTree) (m : PartialTree → List Token → Parsed EfgKind Z)
    → chain (chain {B = PartialTree × List Token} c (λ x. chain (o x) (λ y. Ok (f x.0 y.0, y.1)))) (λ z. m z.0 z.1) ≡ chain c (λ x. chain (o x) (λ y. m (f x.0 y.0) y.1))
in_a_row {X} {Y} {Z} (Ok x) o f m = by (o x)
  where
    by : (p : Parsed EfgKind Y) → chain (chain {B = PartialTree × List Token} p (λ y. Ok (f x.0 y.0, y.1))) (λ z. m z.0 z.1) ≡ chain p (λ y. m (f x.0 y.0) y.1)
    by (Ok y) = refl
    by (Err fault) = refl
in_a_row (Err fault) o f m = refl

next_row : (most players : ℕ) (partial : PartialTree) (b : Branching) (rest : List Branching) (tokens : List Token)
    → (parse_next players partial b rest tokens >>= λ x. marked most players x.0 x.1) ≡ (parse_choice players (length partial.nodes) partial.sets tokens >>= λ c. then_outcome most players partial b rest c.0 c.1)
unfolding parse_next then_outcome
next_row most players partial b rest tokens = in_a_row (parse_choice players (length partial.nodes) partial.sets tokens) (λ c. parse_outcome players partial.outcomes c.1) (λ c o. with_parts partial b rest c o) (λ z. marked most players z)

-- a player's choice, and what follows
own_row : (players k : ℕ) (sets : List PartialSet) (tokens : List Token) (g : UsedSet → List Token → Parsed EfgKind PartialTree)
    → (parse_own_choice players k sets tokens >>= λ c. g c.0 c.1) ≡ (parse_player players tokens >>= λ player. parse_set_choice k sets (Some player.0) player.1 >>= λ c. g c.0 c.1)
unfolding parse_own_choice
own_row players k sets tokens g = elim (result_of (parse_player players tokens)) [
  | inl y ↦ rw y.1 refl
  | inr f ↦ rw f.1 refl
]

-- a word of a node that is neither of chance nor of a player is one of an end
end_word : (word : List ℕ) → is_node_word word ≡ true → bytes_eq word (codes "c") ≡ false → bytes_eq word (codes "p") ≡ false → bytes_eq word (codes "t") ≡ true
end_word word n c p = let t : bytes_eq word (codes "t") ≡ true = rw (c, p) at n in t

-- after the word and the name
choice_row : (most players : ℕ) (partial : PartialTree) (b : Branching) (rest : List Branching) (word : List ℕ) (start tokens : List Token) → is_node_word word ≡ true
    → (parse_after players (length partial.nodes) partial.sets word start tokens >>= λ c. then_outcome most players partial b rest c.0 c.1) ≡ by_word most players partial b rest word tokens
unfolding by_word then_set
choice_row most players partial b rest word start tokens n = elim (cases_Bool (bytes_eq word (codes "c"))) [
  | inl c ↦ rw c refl
  | inr c ↦ elim (cases_Bool (bytes_eq word (codes "p"))) [
    | inl p ↦ rw (c, p) (own_row players (length partial.nodes) partial.sets tokens (then_outcome most players partial b rest))
    | inr p ↦ rw (c, p, end_word word n c p) refl
  ]
]

-- after the word
named_row : (most players : ℕ) (partial : PartialTree) (b : Branching) (rest : List Branching) (word : List ℕ) (tokens : List Token) → is_node_word word ≡ true
    → (parse_choice players (length partial.nodes) partial.sets (Word word ∷ tokens) >>= λ c. then_outcome most players partial b rest c.0 c.1) ≡ (wanted Node tokens (text_at tokens) >>= λ name. by_word most players partial b rest word name.1)
unfolding parse_choice
named_row most players partial b rest word tokens n = elim (some_or_none (text_at tokens)) [
  | inl y ↦ rw y.1 (choice_row most players partial b rest word (Word word ∷ tokens) y.0.1 n)
  | inr none ↦ rw none refl
]

further_is : (most players : ℕ) (partial : PartialTree) (b : Branching) (rest : List Branching) → passed partial ≡ None → (tokens : List Token)
    → (located_at players partial (b ∷ rest) tokens >>= λ x. marked most players x.0 x.1) ≡ further most players partial b rest tokens
unfolding further
further_is most players partial b rest room (Word word ∷ tokens) = elim (cases_Bool (is_node_word word)) [
  | inl n ↦ rw (n, room, located_unlimited (Word word ∷ tokens) (parse_next players partial b rest (Word word ∷ tokens))) (next_row most players partial b rest (Word word ∷ tokens) ∙ named_row most players partial b rest word tokens n)
  | inr n ↦ rw n refl
]
further_is most players partial b rest room tokens = refl

-- ---- readers
-- what may follow the choice
outcome_part : (most players : ℕ) (partial : PartialTree) (b : Branching) (rest : List Branching) → ((next : PartialTree) → IsReader (marked most players next)) → (choice : UsedSet) → IsReader (then_outcome most players partial b rest choice)
unfolding then_outcome
outcome_part most players partial b rest M choice =
    outcome_part_reader players partial.outcomes (λ o. marked most players (with_parts partial b rest choice o)) (λ o. M (with_parts partial b rest choice o)) (λ o. marked_no_brace most players (with_parts partial b rest choice o)) (λ o. marked_no_text most players (with_parts partial b rest choice o))

-- a set, and what follows it
set_row : (most players : ℕ) (partial : PartialTree) (b : Branching) (rest : List Branching) (owner : Option ℕ) (tokens : List Token)
    → then_set most players partial b rest owner tokens ≡ (parse_set (length partial.nodes) partial.sets owner tokens >>= λ x. then_outcome most players partial b rest (x.0.0, (kind_of_owner owner, Some x.0.1)) x.1)
unfolding then_set parse_set_choice
set_row most players partial b rest owner tokens = map_then (parse_set (length partial.nodes) partial.sets owner tokens) (λ used. (used.0, (kind_of_owner owner, Some used.1))) (then_outcome most players partial b rest)

set_part : (most players : ℕ) (partial : PartialTree) (b : Branching) (rest : List Branching) → ((next : PartialTree) → IsReader (marked most players next)) → (owner : Option ℕ) → IsReader (then_set most players partial b rest owner)
set_part most players partial b rest M owner =
    let g : List PartialSet × ℕ → List Token → Parsed EfgKind PartialTree = λ x. then_outcome most players partial b rest (x.0, (kind_of_owner owner, Some x.1)) in
    same_reader (then_set most players partial b rest owner) (λ tokens. parse_set (length partial.nodes) partial.sets owner tokens >>= λ x. g x.0 x.1) (set_row most players partial b rest owner)
    (set_part_reader (length partial.nodes) partial.sets owner g (λ label. first_list_reader owner label chance_list_reader (λ _ _. own_list_reader)) (λ x. outcome_part most players partial b rest M (x.0, (kind_of_owner owner, Some x.1)))
    (λ x. outcome_no_brace most players partial b rest (x.0, (kind_of_owner owner, Some x.1))) (λ x. outcome_no_name most players partial b rest (x.0, (kind_of_owner owner, Some x.1))))

by_word_reader : (most players : ℕ) (partial : PartialTree) (b : Branching) (rest : List Branching) → 1 ≤ players → ((next : PartialTree) → IsReader (marked most players next)) → (word : List ℕ) → IsReader (by_word most players partial b rest word)
unfolding by_word
by_word_reader most players partial b rest h M word = elim (cases_Bool (bytes_eq word (codes "c"))) [
  | inl c ↦ same_reader (by_word most players partial b rest word) (then_set most players partial b rest None) (λ tokens. rw c refl) (set_part most players partial b rest M None)
  | inr c ↦ elim (cases_Bool (bytes_eq word (codes "p"))) [
    | inl p ↦
        same_reader (by_word most players partial b rest word) (λ tokens. parse_player players tokens >>= λ player. then_set most players partial b rest (Some player.0) player.1) (λ tokens. rw (c, p) refl)
        (bind_reader (parse_player players) (λ player tokens. then_set most players partial b rest (Some player) tokens) (player_reader players h) (λ _ player _. set_part most players partial b rest M (Some player)))
    | inr p ↦ same_reader (by_word most players partial b rest word) (then_outcome most players partial b rest (partial.sets, (End, None))) (λ tokens. rw (c, p) refl) (outcome_part most players partial b rest M (partial.sets, (End, None)))
  ]
]

further_reader : (most players : ℕ) (partial : PartialTree) (b : Branching) (rest : List Branching) → 1 ≤ players → ((next : PartialTree) → IsReader (marked most players next)) → IsReader (further most players partial b rest)
unfolding further
further_reader most players partial b rest h M =
    bind_reader node_word (λ word tokens. wanted Node tokens (text_at tokens) >>= λ name. by_word most players partial b rest word name.1) node_word_reader
    (λ _ word _. bind_reader (λ tokens. wanted Node tokens (text_at tokens)) (λ _ tokens. by_word most players partial b rest word tokens) (text_reader Node) (λ _ _ _. by_word_reader most players partial b rest h M word))

-- a comma or a node
no_mark : (partial : PartialTree) (tokens : List Token) (y : PartialTree × List Token) → has_comma tokens ≡ false → mark_here partial tokens ≡ Ok y → ⊥
no_mark partial (Comma ∷ rest) y h e = cc
no_mark partial tokens y h e = ok_err y (Node, tokens) (sym e)

no_further : (most players : ℕ) (partial : PartialTree) (b : Branching) (rest : List Branching) (tokens : List Token) (y : PartialTree × List Token) → has_comma tokens ≡ true → further most players partial b rest tokens ≡ Ok y → ⊥
unfolding further
no_further most players partial b rest (Comma ∷ tokens) y h e = ok_err y (Node, Comma ∷ tokens) (sym e)
no_further most players partial b rest _ y h e = cc

-- where no node may come
only_mark : (most players : ℕ) (partial : PartialTree) → ((tokens : List Token) → located_at players partial partial.branchings tokens ≡ Err (Node, tokens)) → (tokens : List Token) → marked (suc most) players partial tokens ≡ mark_here partial tokens
only_mark most players partial none (Comma ∷ rest) = refl
only_mark most players partial none tokens = rw none refl

-- where one may
or_further : (most players : ℕ) (partial : PartialTree) (b : Branching) (rest : List Branching) → partial.branchings ≡ b ∷ rest → passed partial ≡ None → (tokens : List Token)
    → marked (suc most) players partial tokens ≡ choose has_comma (mark_here partial) (further most players partial b rest) tokens
or_further most players partial b rest free room tokens =
    ap (λ (branchings : List Branching). if has_comma tokens then mark_here partial tokens else (located_at players partial branchings tokens >>= λ x. marked most players x.0 x.1)) free
    ∙ ap (λ (o : Parsed EfgKind PartialTree). if has_comma tokens then mark_here partial tokens else o) (further_is most players partial b rest room tokens)

-- no node may come where it would pass a limit
full_at : (players : ℕ) (partial : PartialTree) (b : Branching) (rest : List Branching) (what : What) → passed partial ≡ Some what → (tokens : List Token) → located_at players partial (b ∷ rest) tokens ≡ Err (Node, tokens)
full_at players partial b rest what full tokens = elim (cases_Bool (begins_node tokens)) [
  | inl n ↦ rw (n, full) refl
  | inr n ↦ rw n refl
]

-- the branches that are open
by_branchings : (players : ℕ) (partial : PartialTree) (branchings : List Branching) → partial.branchings ≡ branchings → ((tokens : List Token) → located_at players partial branchings tokens ≡ Err (Node, tokens)) → (tokens : List Token) → located_at players partial partial.branchings tokens ≡ Err (Node, tokens)
by_branchings players partial branchings are none tokens = ap (λ (branchings : List Branching). located_at players partial branchings tokens) are ∙ none tokens

marked_by : (most players : ℕ) (partial : PartialTree) (branchings : List Branching) → partial.branchings ≡ branchings → 1 ≤ players → ((next : PartialTree) → IsReader (marked most players next)) → IsReader (marked (suc most) players partial)
marked_by most players partial [] none h M = same_reader (marked (suc most) players partial) (mark_here partial) (only_mark most players partial (by_branchings players partial [] none (λ tokens. refl))) (mark_reader partial)
marked_by most players partial (b ∷ rest) free h M = elim (some_or_none (passed partial)) [
  | inl full ↦ same_reader (marked (suc most) players partial) (mark_here partial) (only_mark most players partial (by_branchings players partial (b ∷ rest) free (full_at players partial b rest full.0 full.1))) (mark_reader partial)
  | inr room ↦
      same_reader (marked (suc most) players partial) (choose has_comma (mark_here partial) (further most players partial b rest)) (or_further most players partial b rest free room)
      (choose_reader has_comma (mark_here partial) (further most players partial b rest) (record { heads = comma_first; only_p = no_mark partial; only_q = no_further most players partial b rest }) (mark_reader partial) (further_reader most players partial b rest h M))
]

pub marked_reader : (most players : ℕ) → 1 ≤ players → (partial : PartialTree) → IsReader (marked most players partial)
marked_reader zero players h partial = mark_reader partial
marked_reader (suc most) players h partial = marked_by most players partial partial.branchings refl h (marked_reader most players h)
