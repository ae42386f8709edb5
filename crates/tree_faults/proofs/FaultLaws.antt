-- A list of tokens has one fault at most, a file has none, and a list without a fault is a file.
use Rattle.std.proofs.Common.{◌≡◌, ◌≢◌, ℕ, suc, ◌<◌, ◌^◌, List, [], ◌∷◌, ◌++◌, length, codes, None, ◌⊎◌, inl, inr, refl, sym, ap, ◌∙◌, subst, append_assoc, arith}
use Rattle.std.proofs.lemmas.List.{append-nil, length-map}
use Rattle.std.specs.Prelude.{Ok, Err}
use Rattle.rational.specs.Rational.{ℚ}
use Rattle.game_core.specs.Tree.{GameTree, OpenBranch}
use Rattle.game_core.specs.TokenList.{TokenList, bare}
use Rattle.game_core.specs.declared.token.Token.{Token}
use Rattle.game_core.specs.declared.token.Token.TheVariants.{Right, Text, Word, Number}
use Rattle.file_parts.specs.Parts.{whole_number, braced_texts, IsOpen, NamesPlayers}
use Rattle.file_parts.specs.Parsing.{Parsed, parse_title, parse_names}
use Rattle.file_parts.proofs.PartReaderLemmas.{title_reader, names_reader, title_faults, names_faults}
use Rattle.file_parts.proofs.ReaderLemmas.{ReadsAs, reads_alone, result_of, bind_err, ok_same, err_same, ok_err, ends_early, same_front}
use Rattle.file_parts.specs.Reading.{after_text, offset_of}
use Rattle.file_parts.proofs.FrontLemmas.{fronts}
use Rattle.file_parts.proofs.FrontLemmas.Goes.{same, first, second}
use Rattle.file_parts.proofs.ValueLemmas.{value, value_title}
use Rattle.written_trees.specs.Written.{SetUse, OutcomeUse}
use Rattle.written_trees.specs.Building.{PartialTree, root_alone, tree_so_far, open_branches}
use Rattle.written_trees.proofs.BuiltTreeLemmas.{built_is_so}
use Rattle.tree_grammar.specs.TreeFile.{IsFront, IsPartialFile, IsTreeFile}
use Rattle.file_parts.proofs.HeaderLaws.{title_is}
use Rattle.tree_grammar.specs.TreeParsing.{FrontPart, parse_front, parse_tree}
use Rattle.tree_faults.specs.TreeFaults.{IsFile, BeginsFile, IsTitle, StopsInPlayers, StopsAtSet, StopsAtOutcome, HasActions, WantsProbability}
use Rattle.tree_faults.specs.FaultKinds.{TextComes, BraceComes, NumberComes, IsNodeKind, IsKind, IsFault}
use Rattle.tree_grammar.specs.declared.kinds.EfgKind.{EfgKind}
use Rattle.tree_grammar.specs.declared.kinds.EfgKind.TheVariants.{Header, Players, Node, UnknownPlayer, SetMismatch, Probability, ProbabilityRange, OutcomeMismatch, Unfinished, Trailing}
use Rattle.tree_grammar.proofs.FileLaws.{partial_front}
use Rattle.tree_grammar.proofs.NodesLaws.{no_branching, all_written}
use Rattle.tree_grammar.proofs.NodesReadLaws.{nothing_keeps, nodes_are}
use Rattle.tree_faults.proofs.FrontLemmas.{names_go_on, front_stops, CannotCome}
use Rattle.tree_grammar.proofs.FrontLaws.{ReadsFront, title_again_so, names_again_so}
use Rattle.tree_grammar.proofs.WholeFileLaws.{few_players, few_is_file, read_is_file}
use Rattle.tree_faults.proofs.FileStopLaws.{nodes_begin, file_is_located, inner_fault, body_stops}
use Rattle.tree_faults.proofs.NodeKindLemmas.{node_kind_told}
use Rattle.tree_faults.proofs.NodePointLemmas.{nodes_stops}
use Rattle.tree_faults.proofs.PointKindLemmas.{KindBefore, node_kind_at}
use Rattle.tree_faults.proofs.TrailingTokenLemmas.{file_trails}
use Rattle.tree_faults.proofs.LocatedReadingLemmas.{located_nodes, located_end, located_all_nodes, in_located, located_tree, nodes_read_back, tree_read_back, fault_located}
use Rattle.file_parts.specs.Faults.{IsFaultFrom as IsFaultFromIn}

-- a fault of this kind, from these last tokens on
abbrev pub IsFaultFrom : List Token → EfgKind → List Token → Type 0
IsFaultFrom = IsFaultFromIn IsFile BeginsFile IsKind

-- ---- where reading stops is a fault
-- some tokens are not none
some_token : (t : Token) (r : List Token) → t ∷ r ≢ []
some_token t r e = cc

-- a title that stops
title_open : (tokens : List Token) (kind : EfgKind) (rest : List Token) → parse_title Header (codes "EFG") 2 tokens ≡ Err (kind, rest) → (before : List Token) × (tokens ≡ before ++ rest) × IsOpen IsTitle before
title_open tokens kind rest e =
    let s = ((title_reader Header (codes "EFG") 2).at tokens).sticks kind rest e in
    let all : List Token = s.before ++ s.next ∷ s.more in
    let t = title_is (codes "EFG") 2 all (s.value, []) (sym (value_title Header (codes "EFG") 2 all) ∙ ap value (reads_alone (parse_title Header (codes "EFG") 2) all s.value s.goes_on)) in
    (s.before, s.is, (s.next, s.more, (Word (codes "EFG") ∷ whole_number 2 ∷ Word t.0 ∷ [], s.value, (t.0, t.1, refl), t.2)))

-- a title that is read
title_whole : (tokens following : List Token) (title : List ℕ) → parse_title Header (codes "EFG") 2 tokens ≡ Ok (title, following) → (front : List Token) × (tokens ≡ front ++ following) × IsTitle front
title_whole tokens following title e =
    let t = title_is (codes "EFG") 2 tokens (title, following) (sym (value_title Header (codes "EFG") 2 tokens) ∙ ap value e) in
    (Word (codes "EFG") ∷ whole_number 2 ∷ Word t.0 ∷ Text title ∷ [], t.2, (Word (codes "EFG") ∷ whole_number 2 ∷ Word t.0 ∷ [], title, (t.0, t.1, refl), refl))

-- the kind where the front stops
front_kind : (tokens : List Token) (kind : EfgKind) (rest : List Token) → parse_front tokens ≡ Err (kind, rest) → (before : List Token) × (tokens ≡ before ++ rest) × IsKind kind before rest
unfolding parse_front
front_kind tokens kind rest e = elim (bind_err (parse_title Header (codes "EFG") 2 tokens) _ (kind, rest) e) [
  | inl f ↦
      let o = title_open tokens kind rest f in
      (o.0, o.1, subst (λ (k : EfgKind). IsKind k o.0 rest) (sym (title_faults Header (codes "EFG") 2 tokens (kind, rest) f)) o.2)
  | inr a ↦ elim (bind_err (parse_names Players a.0.1) (λ players. Ok ((a.0.0, players.0), after_text players.1)) (kind, rest) a.2) [
    | inl f ↦
        let t = title_whole tokens a.0.1 a.0.0 a.1 in
        let g = names_go_on a.0.1 (kind, rest) f in
        let partial : IsOpen NamesPlayers g.before = (g.next, g.more, (g.players, (g.some, g.go_on))) in
        (t.0 ++ g.before, t.1 ∙ ap (λ (r : List Token). t.0 ++ r) g.is ∙ sym (append_assoc t.0 g.before rest), subst (λ (k : EfgKind). IsKind k (t.0 ++ g.before) rest) (sym (names_faults Players a.0.1 (kind, rest) f)) (t.0, g.before, refl, t.2, partial))
    | inr b ↦ absurd (ok_err ((a.0.0, b.0.0), after_text b.0.1) (kind, rest) b.2)
  ]
]

-- ---- after the front
-- the title and the players are whole
abbrev IsAfterFront : List Token → Type 0
IsAfterFront tokens = (title names more : List Token) × (tokens ≡ title ++ names ++ more) × IsTitle title × NamesPlayers names

-- tokens after a front come after a title and names
after_front : (front inner : List Token) (title : List ℕ) (players : List (List ℕ)) → IsFront front title players → IsAfterFront (front ++ inner)
after_front front inner title players f =
    let h = f.is_header in
    let names : List Token = braced_texts players in
    let header : List Token = Word (codes "EFG") ∷ whole_number 2 ∷ Word h.0 ∷ [] in
    let all : front ++ inner ≡ Word (codes "EFG") ∷ whole_number 2 ∷ Word h.0 ∷ Text title ∷ (names ++ (f.comment ++ inner)) =
    rw (f.is_front, h.2) (ap (λ (r : List Token). Word (codes "EFG") ∷ whole_number 2 ∷ Word h.0 ∷ Text title ∷ r) (append_assoc names f.comment inner)) in
    (header ++ Text title ∷ [], names, f.comment ++ inner, all, (header, title, (h.0, h.1, refl), refl), (players, (f.some_player, refl)))

-- and so after a partial file
after_file : (tokens partial tail : List Token) (tree : GameTree) (free : List OpenBranch) → IsPartialFile partial tree free → tokens ≡ partial ++ tail → IsAfterFront tokens
after_file tokens partial tail tree free f e =
    let all : tokens ≡ f.front ++ (f.nodes ++ tail) = e ∙ ap (λ (q : List Token). q ++ tail) f.are_tokens ∙ append_assoc f.front f.nodes tail in
    subst IsAfterFront (sym all) (after_front f.front (f.nodes ++ tail) tree.title tree.players f.is_front)

-- ---- the kind among the nodes
-- a kind that has a name of its own
as_kind : (kind : EfgKind) (before rest : List Token) → IsNodeKind kind before rest → IsKind kind before rest
as_kind Header before rest h = absurd h
as_kind Players before rest h = absurd h
as_kind Node before rest h = absurd h
as_kind Unfinished before rest h = absurd h
as_kind Trailing before rest h = absurd h
as_kind _ before rest h = h

-- the others are ones of the node's form
node_kind : (before : List Token) (t : Token) (r : List Token) → IsAfterFront before → located_tree (before ++ t ∷ r) ≡ Err (Node, t ∷ r) → IsKind Node before (t ∷ r)
node_kind before t r inside e = (
  (inside, λ file. let same = file_trails before t r Node file e in cc),
  some_token t r,
  λ kind h. subst (λ (k : EfgKind). IsNodeKind k before (t ∷ r)) (sym (node_kind_told kind Node before t r h e)) h,
)

-- nodes that leave no branch open are a file
whole_file : (tokens : List Token) (x : FrontPart × List Token) (h : ReadsFront tokens x) (partial : PartialTree) (left : List Token) → length x.0.1 < 2 ^ 32 → located_nodes (suc (length x.1)) (length x.0.1) root_alone x.1 ≡ Ok (partial, left) → (before : List Token) × (tokens ≡ before ++ left) × IsFile before
whole_file tokens x h partial left few e =
    let players = length x.0.1 in
    let n = nodes_are (suc (length x.1)) players root_alone x.1 (partial, left) (nothing_keeps players) (nodes_read_back (suc (length x.1)) players root_alone x.1 (partial, left) e) in
    let file = nodes_begin h.front n.0.nodes x.0 partial n.0.written h.is_front few n.0.are_nodes n.0.added in
    let whole : IsTreeFile (h.front ++ n.0.nodes) (tree_so_far x.0.0 x.0.1 partial) = subst (IsPartialFile (h.front ++ n.0.nodes) (tree_so_far x.0.0 x.0.1 partial)) (no_branching partial.branchings n.1) file in
    (h.front ++ n.0.nodes, h.is ∙ ap (λ (q : List Token). h.front ++ q) n.0.is ∙ sym (append_assoc h.front n.0.nodes left), (tree_so_far x.0.0 x.0.1 partial, whole))

-- where nodes stop, their point has a kind, or the kind is that of the node's form
point_kind : (tokens : List Token) (x : FrontPart × List Token) (h : ReadsFront tokens x) (kind : EfgKind) (t : Token) (r : List Token) → length x.0.1 < 2 ^ 32 → located_nodes (suc (length x.1)) (length x.0.1) root_alone x.1 ≡ Err (kind, t ∷ r) → (kind ≡ Node) ⊎ KindBefore tokens kind (t ∷ r)
point_kind tokens x h kind t r few e = elim (nodes_stops (suc (length x.1)) (length x.0.1) root_alone x.1 (kind, t ∷ r) (nothing_keeps (length x.0.1)) (omega arith) e) [
  | inl n ↦ inl n
  | inr s ↦
      let n = s.1 in
      let partial : List Token = h.front ++ n.nodes in
      let file : IsPartialFile partial (tree_so_far x.0.0 x.0.1 s.0.0) (open_branches s.0.0.branchings) = record {
        front = h.front;
        is_front = h.is_front;
        written = n.written;
        nodes = n.nodes;
        are_nodes = n.are_nodes;
        describe = built_is_so x.0.0 x.0.1 n.written s.0.0 few (all_written (length x.0.1) n.nodes n.written n.are_nodes) n.added;
        are_tokens = refl;
      } in
      let all : tokens ≡ partial ++ s.0.1 = h.is ∙ ap (λ (q : List Token). h.front ++ q) n.is ∙ sym (append_assoc h.front n.nodes s.0.1) in
      let k = node_kind_at partial (tree_so_far x.0.0 x.0.1 s.0.0) (open_branches s.0.0.branchings) file s.0.0 n.added s.2 s.0.1 (t ∷ r) (some_token t r) kind s.3 in
      inr (k.0, all ∙ k.1, k.2)
]

-- where all nodes stop before a token
stop_kind_is : (tokens : List Token) (x : FrontPart × List Token) (h : ReadsFront tokens x) (kind : EfgKind) (t : Token) (r before : List Token) → length x.0.1 < 2 ^ 32 → tokens ≡ before ++ t ∷ r → IsAfterFront before → located_tree tokens ≡ Err (kind, t ∷ r) → located_all_nodes (length x.0.1) x.1 ≡ Err (kind, t ∷ r) → IsKind kind before (t ∷ r)
unfolding located_all_nodes
stop_kind_is tokens x h kind t r before few are inside e f = elim (bind_err (located_nodes (suc (length x.1)) (length x.0.1) root_alone x.1) located_end (kind, t ∷ r) f) [
  | inl g ↦ elim (point_kind tokens x h kind t r few g) [
    | inl n ↦
        let there : located_tree (before ++ t ∷ r) ≡ Err (Node, t ∷ r) = ap located_tree (sym are) ∙ e ∙ ap (λ (k : EfgKind). Err (k, t ∷ r)) n in
        subst (λ (k : EfgKind). IsKind k before (t ∷ r)) (sym n) (node_kind before t r inside there)
    | inr k ↦
        let same : k.0 ≡ before = same_front k.0 before (t ∷ r) (sym k.1 ∙ are) in
        as_kind kind before (t ∷ r) (subst (λ (q : List Token). IsNodeKind kind q (t ∷ r)) same k.2)
  ]
  | inr a ↦ following a.0 a.1 a.2
]
  where
    following : (y : PartialTree × List Token) → located_nodes (suc (length x.1)) (length x.0.1) root_alone x.1 ≡ Ok y → located_end y ≡ Err (kind, t ∷ r) → IsKind kind before (t ∷ r)
    following (partial, []) g o = absurd (ok_err partial (kind, t ∷ r) o)
    following (partial, u ∷ left) g o =
        let same = err_same {A = PartialTree} (Trailing, u ∷ left) (kind, t ∷ r) o in
        let w = whole_file tokens x h partial (u ∷ left) few g in
        let place : u ∷ left ≡ t ∷ r = ap (λ (z : EfgKind × List Token). z.1) same in
        let front : w.0 ≡ before = same_front w.0 before (t ∷ r) (ap (λ (q : List Token). w.0 ++ q) (sym place) ∙ sym w.1 ∙ are) in
        subst (λ (k : EfgKind). IsKind k before (t ∷ r)) (ap (λ (z : EfgKind × List Token). z.0) same) (subst IsFile front w.2)

-- where reading stops after a front is a fault
inner_stop : (tokens : List Token) (x : FrontPart × List Token) (kind : EfgKind) (rest : List Token) → length x.0.1 < 2 ^ 32 → parse_front tokens ≡ Ok x → located_tree tokens ≡ Err (kind, rest) → in_located (located_all_nodes (length x.0.1) x.1) ≡ Err (kind, rest) → IsFaultFrom tokens kind rest
inner_stop tokens x kind rest few front e f =
    let i = inner_fault (located_all_nodes (length x.0.1) x.1) kind rest f in
    let no_file : IsFile tokens → ⊥ = λ file. absurd (ok_err file.0 (kind, rest) (sym (file_is_located tokens file.0 file.1) ∙ e)) in
    let b = body_stops tokens x i.0 rest few front i.1 no_file in
    let s = b.1 in
    let inside : IsAfterFront s.before = subst IsAfterFront (sym b.3) (after_front b.0.front b.2 x.0.0 x.0.1 b.0.is_front) in
    let is_kind : IsKind kind s.before rest = elim i.2 [
      | inl end ↦
          let whole : tokens ≡ s.before = s.are_tokens ∙ ap (λ (q : List Token). s.before ++ q) end.0 ∙ append-nil s.before in
          subst (λ (k : EfgKind). IsKind k s.before rest) (sym end.1) ((inside, λ file. no_file (subst IsFile (sym whole) file)), end.0)
      | inr there ↦
          let t = there.1 in
          let r = there.2 in
          let stops : located_tree tokens ≡ Err (kind, t ∷ r) = e ∙ ap (λ (q : List Token). Err (kind, q)) there.3 in
          let own : located_all_nodes (length x.0.1) x.1 ≡ Err (kind, t ∷ r) = i.1 ∙ ap (λ (k : EfgKind). Err (k, rest)) (sym there.0) ∙ ap (λ (q : List Token). Err (kind, q)) there.3 in
          subst (IsKind kind s.before) (sym there.3) (stop_kind_is tokens x b.0 kind t r s.before few (s.are_tokens ∙ ap (λ (q : List Token). s.before ++ q) there.3) inside stops own)
    ] in
    record { before = s.before; are_tokens = s.are_tokens; begins = s.begins; stops = s.stops; is_kind = is_kind }

-- where reading stops is a fault
located_is_fault : (tokens : List Token) (kind : EfgKind) (rest : List Token) → length tokens < 2 ^ 32 → located_tree tokens ≡ Err (kind, rest) → IsFaultFrom tokens kind rest
unfolding located_tree
located_is_fault tokens kind rest short e = elim (bind_err (parse_front tokens) _ (kind, rest) e) [
  | inl f ↦
      let s = front_stops tokens kind rest short f in
      let k = front_kind tokens kind rest f in
      let same : k.0 ≡ s.before = same_front k.0 s.before rest (sym k.1 ∙ s.are_tokens) in
      record { before = s.before; are_tokens = s.are_tokens; begins = s.begins; stops = s.stops; is_kind = subst (λ (q : List Token). IsKind kind q rest) same k.2 }
  | inr a ↦ elim (bind_err (in_located (located_all_nodes (length a.0.0.1) a.0.1)) _ (kind, rest) a.2) [
    | inl f ↦ inner_stop tokens a.0 kind rest (few_players tokens a.0 short a.1) a.1 e f
    | inr x ↦ absurd (ok_err _ (kind, rest) x.2)
  ]
]

-- so is what is read as one
pub stop_is_fault : (tokens : List Token) (kind : EfgKind) (rest : List Token) → length tokens < 2 ^ 32 → parse_tree tokens ≡ Err (inl (kind, rest)) → IsFaultFrom tokens kind rest
stop_is_fault tokens kind rest short e = located_is_fault tokens kind rest short (fault_located tokens (kind, rest) e)

-- a list of tokens has a fault or is a file
pub fault_or_file : (tokens : List Token) → length tokens < 2 ^ 32 → IsFile tokens ⊎ ((kind : EfgKind) × (rest : List Token) × IsFaultFrom tokens kind rest)
fault_or_file tokens short = elim (result_of (located_tree tokens)) [
  | inl x ↦ inl (x.0, read_is_file tokens x.0 short (tree_read_back tokens x.0 x.1))
  | inr f ↦ inr (f.0.0, f.0.1, located_is_fault tokens f.0.0 f.0.1 short f.1)
]

-- ---- one place
-- what goes on to begin a file begins one with its next token
goes_to : (a : List Token) (t : Token) (b w : List Token) → b ≡ a ++ t ∷ w → BeginsFile b → BeginsFile (a ++ t ∷ [])
goes_to a t b w e f =
    let all : b ++ f.0 ≡ (a ++ t ∷ []) ++ (w ++ f.0) = ap (λ (q : List Token). q ++ f.0) e ∙ append_assoc a (t ∷ w) f.0 ∙ sym (append_assoc a (t ∷ []) (w ++ f.0)) in
    (w ++ f.0, f.1, f.2, subst (λ (q : List Token). IsPartialFile q f.1 f.2) all f.3)

-- a file begins one
file_begins : (tokens : List Token) → IsFile tokens → BeginsFile tokens
file_begins tokens f = ([], f.0, [], subst (λ (q : List Token). IsPartialFile q f.0 []) (sym (append-nil tokens)) f.1)

-- a file has no fault
pub file_is_faultless : (tokens : List Token) (kind : EfgKind) (rest : List Token) → IsFile tokens → IsFaultFrom tokens kind rest → ⊥
file_is_faultless tokens kind rest f s = by s.before rest s.stops (subst IsFile s.are_tokens f)
  where
    by : (before rest : List Token) → CannotCome before rest → IsFile (before ++ rest) → ⊥
    by before [] c f = c (subst IsFile (append-nil before) f)
    by before (t ∷ rest) c f = c (goes_to before t (before ++ t ∷ rest) rest refl (file_begins (before ++ t ∷ rest) f))

-- two faults are at the same token
one_place : (tokens : List Token) (kind other : EfgKind) (rest place : List Token) → IsFaultFrom tokens kind rest → IsFaultFrom tokens other place → rest ≡ place
one_place tokens kind other rest place f g = elim (fronts f.before rest g.before place (sym f.are_tokens ∙ g.are_tokens)) [
  | same e ↦ e
  | first t w b r ↦ absurd (subst (CannotCome f.before) r f.stops (goes_to f.before t g.before w b g.begins))
  | second t w a s ↦ absurd (subst (CannotCome g.before) s g.stops (goes_to g.before t f.before w a f.begins))
]

-- ---- the part
-- a title, and players
title_as : (part : List Token) → IsTitle part → (title : List ℕ) × ReadsAs (parse_title Header (codes "EFG") 2) part title
title_as part h =
    let all : (rest : List Token) → part ++ rest ≡ Word (codes "EFG") ∷ whole_number 2 ∷ Word h.2.0 ∷ Text h.1 ∷ rest = λ rest. rw (h.3, h.2.2) refl in
    (h.1, λ rest. ap (parse_title Header (codes "EFG") 2) (all rest) ∙ title_again_so h.2.0 h.1 rest h.2.1)

players_as : (part : List Token) (h : NamesPlayers part) → ReadsAs (parse_names Players) part h.0
players_as part h rest = ap (λ (q : List Token). parse_names Players (q ++ rest)) h.1.1 ∙ names_again_so h.0 rest h.1.0

-- the front is whole, whatever follows
front_whole : (before rest : List Token) (h : IsAfterFront before) → (left : List Token) × (parse_front (before ++ rest) ≡ Ok (((title_as h.0 h.4).0, h.5.0), left))
unfolding parse_front
front_whole before rest h =
    let t = title_as h.0 h.4 in
    let all : before ++ rest ≡ h.0 ++ (h.1 ++ (h.2 ++ rest)) = ap (λ (q : List Token). q ++ rest) h.3 ∙ append_assoc (h.0 ++ h.1) h.2 rest ∙ append_assoc h.0 h.1 (h.2 ++ rest) in
    (after_text (h.2 ++ rest), rw (all, t.1 (h.1 ++ (h.2 ++ rest)), players_as h.1 h.5 (h.2 ++ rest)) refl)

-- the part of the file in which tokens stop: its kind, where those among the nodes are one, but the end's
abbrev part_of : EfgKind → EfgKind
part_of Header = Header
part_of Players = Players
part_of Unfinished = Unfinished
part_of _ = Node

-- it is told by what is read of the front
abbrev told : Parsed EfgKind FrontPart → List Token → EfgKind
told (Err fault) rest = fault.0
told (Ok x) [] = Unfinished
told (Ok x) (t ∷ rest) = Node

title_told : (before rest : List Token) → IsOpen IsTitle before → told (parse_front before) rest ≡ Header
unfolding parse_front
title_told before rest h =
    let t = title_as (before ++ h.0 ∷ h.1) h.2 in
    let f = ends_early (parse_title Header (codes "EFG") 2) (title_reader Header (codes "EFG") 2) before h.0 h.1 t.0 t.1 in
    let k : f.0 ≡ Header = title_faults Header (codes "EFG") 2 before (f.0, []) f.1 in
    rw f.1 k

players_told : (before rest : List Token) → StopsInPlayers before → told (parse_front before) rest ≡ Players
unfolding parse_front
players_told before rest h =
    let t = title_as h.0 h.3 in
    let p = h.4 in
    let names = players_as (h.1 ++ p.0 ∷ p.1) p.2 in
    let f = ends_early (parse_names Players) (names_reader Players) h.1 p.0 p.1 p.2.0 names in
    let k : f.0 ≡ Players = names_faults Players h.1 (f.0, []) f.1 in
    rw (h.2, t.1 h.1, f.1) k

some_told : (before rest : List Token) → IsAfterFront before → (rest ≡ [] → ⊥) → told (parse_front before) rest ≡ Node
some_told before [] h some = absurd (some refl)
some_told before (t ∷ rest) h some =
    let w = front_whole before [] h in
    let front : parse_front before ≡ Ok (((title_as h.0 h.4).0, h.5.0), w.0) = ap parse_front (sym (append-nil before)) ∙ w.1 in
    rw front refl

end_told : (before rest : List Token) → IsAfterFront before → rest ≡ [] → told (parse_front before) rest ≡ Unfinished
end_told before rest h e =
    let w = front_whole before [] h in
    let front : parse_front before ≡ Ok (((title_as h.0 h.4).0, h.5.0), w.0) = ap parse_front (sym (append-nil before)) ∙ w.1 in
    rw (front, e) refl

-- after the points of a node the front is whole, and something comes
set_after : (before : List Token) (used : SetUse) (earlier : List (ℕ × SetUse)) (list : List Token) → StopsAtSet before used earlier list → IsAfterFront before
set_after before used earlier list s = after_file before s.partial (s.front ++ list) s.tree s.free s.is_partial (s.are_tokens ∙ append_assoc s.partial s.front list)

outcome_after : (before : List Token) (used : OutcomeUse) (earlier : List (ℕ × OutcomeUse)) (list : List Token) → StopsAtOutcome before used earlier list → IsAfterFront before
outcome_after before used earlier list s =
    after_file before s.partial (s.choice ++ (s.front ++ list)) s.tree s.free s.is_partial (s.are_tokens ∙ append_assoc (s.partial ++ s.choice) s.front list ∙ append_assoc s.partial s.choice (s.front ++ list))

comes_some : (rest : List Token) (t : Token) (more : List Token) → rest ≡ t ∷ more → rest ≡ [] → ⊥
comes_some rest t more e none = some_token t more (sym e ∙ none)

node_after : (kind : EfgKind) (before rest : List Token) → IsNodeKind kind before rest → IsAfterFront before × (rest ≡ [] → ⊥)
node_after UnknownPlayer before rest h = (after_file before h.0.0 (Word (codes "p") ∷ Text h.0.3 ∷ []) h.0.1 h.0.2 h.0.4 h.0.5, comes_some rest (whole_number h.1.0) h.1.1 h.1.2)
node_after SetMismatch before rest (inl l) = (set_after before l.0 [] [] l.1, l.2)
node_after SetMismatch before rest (inr d) = (set_after before d.0 (d.1 ∷ d.2) d.4 d.5, differs_some d.6)
  where
    differs_some : ((HasActions d.0.owner d.3 d.4 × (TextComes rest ⊎ BraceComes rest)) ⊎ ((d.0.owner ≡ None) × WantsProbability d.3 d.4 × (v : ℚ) × NumberComes v rest)) → rest ≡ [] → ⊥
    differs_some (inl (has, inl c)) = comes_some rest (Text c.0) c.1 c.2
    differs_some (inl (has, inr c)) = comes_some rest Right c.0 c.1
    differs_some (inr n) = comes_some rest (Number n.2) n.3.0 n.3.1
node_after (Probability set sum) before rest (actions, inl p) = (set_after before p.0.0 [] p.0.1 p.0.2, comes_some rest (Number p.1) p.2.0 p.2.1)
node_after (Probability set sum) before rest (actions, inr p) = (set_after before p.0.0 [] p.0.1 p.0.2, comes_some rest Right p.2.0 p.2.1)
node_after (ProbabilityRange set step) before rest h = (set_after before h.2.0 [] h.2.1 h.2.2, comes_some rest (Number h.1) h.3.0 h.3.1)
node_after OutcomeMismatch before rest (used, inl s) = (outcome_after before used [] [] s.0, s.1)
node_after OutcomeMismatch before rest (used, inr o) = (outcome_after before used o.0 o.1 o.2, payoff_some o.4)
  where
    payoff_some : ((v : ℚ) × NumberComes v rest) ⊎ BraceComes rest → rest ≡ [] → ⊥
    payoff_some (inl n) = comes_some rest (Number n.0) n.1.0 n.1.1
    payoff_some (inr b) = comes_some rest Right b.0 b.1
node_after _ before rest h = absurd h

-- so it is with the kinds among the nodes
inner_after : (kind : EfgKind) (before rest : List Token) → CannotCome before rest → IsKind kind before rest → part_of kind ≡ Node → IsAfterFront before × (rest ≡ [] → ⊥)
inner_after Header before rest c h p = cc
inner_after Players before rest c h p = cc
inner_after Unfinished before rest c h p = cc
inner_after Node before rest c h p = (h.0.0, h.1)
inner_after Trailing before rest c h p = (after_file before before [] h.0 [] h.1 (sym (append-nil before)), λ none. subst (CannotCome before) none c h)
inner_after kind before rest c h p = node_after kind before rest h

-- the part is told
part_told : (kind : EfgKind) (before rest : List Token) → CannotCome before rest → IsKind kind before rest → told (parse_front before) rest ≡ part_of kind
part_told Header before rest c h = title_told before rest h
part_told Players before rest c h = players_told before rest h
part_told Unfinished before rest c h = end_told before rest h.0.0 h.1
part_told kind before rest c h = let n = inner_after kind before rest c h refl in some_told before rest n.0 n.1

-- ---- one kind
-- after the front there are few players
few_after : (before : List Token) (h : IsAfterFront before) → BeginsFile before → length h.5.0 < 2 ^ 32
few_after before h b =
    let all : List Token = before ++ b.0 in
    let w = front_whole before b.0 h in
    let read = partial_front all all [] b.1 b.2 b.3 (sym (append-nil all)) (record { no_text = refl; no_list = refl }) in
    let same : length b.1.players ≡ length h.5.0 = ap (λ (z : FrontPart × List Token). length z.0.1) (ok_same ((b.1.title, b.1.players), b.3.nodes ++ []) (((title_as h.0 h.4).0, h.5.0), w.0) (sym read ∙ w.1)) in
    subst (λ (n : ℕ). n < 2 ^ 32) same b.3.describe.partial.few_players

-- after the front reading stops at the place of a fault
inner_run : (tokens : List Token) (kind : EfgKind) (rest : List Token) (f : IsFaultFrom tokens kind rest) → IsAfterFront f.before → (own : EfgKind) × (located_tree tokens ≡ Err (own, rest)) × IsKind own f.before rest
unfolding located_tree
inner_run tokens kind rest f h = elim (result_of (located_tree tokens)) [
  | inl y ↦ absurd (file_is_faultless tokens kind rest (y.0, few_is_file tokens y.0 few (tree_read_back tokens y.0 y.1)) f)
  | inr g ↦ elim (bind_err (parse_front tokens) _ g.0 g.1) [
    | inl e ↦ absurd (ok_err _ g.0 (sym front ∙ e))
    | inr a ↦ elim (bind_err (in_located (located_all_nodes (length a.0.0.1) a.0.1)) _ g.0 a.2) [
      | inl e ↦
          let s = inner_stop tokens a.0 g.0.0 g.0.1 (few a.0 a.1) a.1 g.1 e in
          let place : g.0.1 ≡ rest = one_place tokens g.0.0 kind g.0.1 rest s f in
          let front : s.before ≡ f.before = same_front s.before f.before rest (ap (λ (q : List Token). s.before ++ q) (sym place) ∙ sym s.are_tokens ∙ f.are_tokens) in
          (g.0.0, g.1 ∙ ap (λ (q : List Token). Err (g.0.0, q)) place, subst (λ (q : List Token). IsKind g.0.0 q rest) front (subst (IsKind g.0.0 s.before) place s.is_kind))
      | inr x ↦ absurd (ok_err _ g.0 x.2)
    ]
  ]
]
  where
    left : List Token
    left = (front_whole f.before rest h).0

    front : parse_front tokens ≡ Ok (((title_as h.0 h.4).0, h.5.0), left)
    front = ap parse_front f.are_tokens ∙ (front_whole f.before rest h).1

    few : (x : FrontPart × List Token) → parse_front tokens ≡ Ok x → length x.0.1 < 2 ^ 32
    few x e = subst (λ (z : FrontPart × List Token). length z.0.1 < 2 ^ 32) (ok_same (((title_as h.0 h.4).0, h.5.0), left) x (sym front ∙ e)) (few_after f.before h f.begins)

-- a kind that excludes the others is the only one
only_node : (own : EfgKind) (before rest : List Token) → IsKind own before rest → IsKind Node before rest → part_of own ≡ Node → own ≡ Node
only_node Header before rest h n p = p
only_node Players before rest h n p = p
only_node Unfinished before rest h n p = p
only_node Node before rest h n p = refl
only_node Trailing before rest h n p = absurd (n.0.1 h)
only_node own before rest h n p = absurd (n.2 own h)

-- the kind is the one that reading names
kind_told : (kind own : EfgKind) (before : List Token) (t : Token) (r : List Token) → IsKind kind before (t ∷ r) → part_of kind ≡ Node → IsKind own before (t ∷ r) → part_of own ≡ Node → located_tree (before ++ t ∷ r) ≡ Err (own, t ∷ r) → own ≡ kind
kind_told Header own before t r h p k o e = cc
kind_told Players own before t r h p k o e = cc
kind_told Unfinished own before t r h p k o e = cc
kind_told Node own before t r h p k o e = only_node own before (t ∷ r) k h o
kind_told Trailing own before t r h p k o e = file_trails before t r own h e
kind_told kind own before t r h p k o e = node_kind_told kind own before t r h e

-- faults of one place among the nodes have one kind
inner_same : (tokens : List Token) (kind other : EfgKind) (rest : List Token) (f : IsFaultFrom tokens kind rest) → IsKind other f.before rest → part_of kind ≡ Node → part_of other ≡ Node → kind ≡ other
inner_same tokens kind other [] f g p q = absurd ((inner_after kind f.before [] f.stops f.is_kind p).1 refl)
inner_same tokens kind other (t ∷ r) f g p q =
    let run = inner_run tokens kind (t ∷ r) f (inner_after kind f.before (t ∷ r) f.stops f.is_kind p).0 in
    let e : located_tree (f.before ++ t ∷ r) ≡ Err (run.0, t ∷ r) = ap located_tree (sym f.are_tokens) ∙ run.1 in
    let o : part_of run.0 ≡ Node = sym (part_told run.0 f.before (t ∷ r) f.stops run.2) ∙ part_told kind f.before (t ∷ r) f.stops f.is_kind ∙ p in
    sym (kind_told kind run.0 f.before t r f.is_kind p run.2 o e) ∙ kind_told other run.0 f.before t r g q run.2 o e

-- the other parts have one kind each
only_header : (other : EfgKind) → Header ≡ part_of other → Header ≡ other
only_header Header p = p
only_header Players p = p
only_header Unfinished p = p
only_header other p = cc

only_players : (other : EfgKind) → Players ≡ part_of other → Players ≡ other
only_players Header p = p
only_players Players p = p
only_players Unfinished p = p
only_players other p = cc

only_unfinished : (other : EfgKind) → Unfinished ≡ part_of other → Unfinished ≡ other
only_unfinished Header p = p
only_unfinished Players p = p
only_unfinished Unfinished p = p
only_unfinished other p = cc

-- faults of one place have one kind
same_kind : (tokens : List Token) (kind other : EfgKind) (rest : List Token) (f : IsFaultFrom tokens kind rest) → IsKind other f.before rest → part_of kind ≡ part_of other → kind ≡ other
same_kind tokens Header other rest f g p = only_header other p
same_kind tokens Players other rest f g p = only_players other p
same_kind tokens Unfinished other rest f g p = only_unfinished other p
same_kind tokens kind other rest f g p = inner_same tokens kind other rest f g refl (sym p)

-- a list of tokens has one fault at most
pub one_fault : (tokens : List Token) (kind other : EfgKind) (rest place : List Token) → IsFaultFrom tokens kind rest → IsFaultFrom tokens other place → (kind ≡ other) × (rest ≡ place)
one_fault tokens kind other rest place f g =
    let p = one_place tokens kind other rest place f g in
    let b : f.before ≡ g.before = same_front f.before g.before rest (sym f.are_tokens ∙ g.are_tokens ∙ ap (λ (q : List Token). g.before ++ q) (sym p)) in
    let k : IsKind other f.before rest = subst (λ (q : List Token). IsKind other q rest) (sym b) (subst (IsKind other g.before) (sym p) g.is_kind) in
    (same_kind tokens kind other rest f k (sym (part_told kind f.before rest f.stops f.is_kind) ∙ part_told other f.before rest f.stops k), p)

-- ---- faults of a source
-- at most one
pub one_fault_at : (tokens : TokenList) (kind other : EfgKind) (at place : ℕ) → IsFault tokens kind at → IsFault tokens other place → (kind ≡ other) × (at ≡ place)
one_fault_at tokens kind other at place f g =
    let same = one_fault (bare tokens.list) kind other f.0 g.0 f.1 g.1 in
    (same.0, f.2 ∙ ap (λ (q : List Token). offset_of tokens (length q)) same.1 ∙ sym g.2)

-- none of a file
pub no_fault_of_file : (tokens : TokenList) (kind : EfgKind) (at : ℕ) → IsFile (bare tokens.list) → IsFault tokens kind at → ⊥
no_fault_of_file tokens kind at file f = file_is_faultless (bare tokens.list) kind f.0 file f.1

-- one of any other
pub fault_of_others : (tokens : TokenList) → length tokens.list < 2 ^ 32 → IsFile (bare tokens.list) ⊎ ((kind : EfgKind) × (at : ℕ) × IsFault tokens kind at)
fault_of_others tokens few = elim (fault_or_file (bare tokens.list) (rw (length-map tokens.list (λ s. s.token)) few)) [
  | inl f ↦ inl f
  | inr f ↦ inr (f.0, offset_of tokens (length f.1), (f.1, f.2, refl))
]
