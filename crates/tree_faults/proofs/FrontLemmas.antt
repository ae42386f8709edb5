-- Where the reading of the title and the players stops, the tokens so far begin a file, and no more of them do.
use Rattle.std.proofs.Common.{◌≡◌, ℕ, suc, ◌+◌, ◌<◌, ◌≤◌, ◌^◌, nat_eq, List, [], ◌∷◌, ◌++◌, length, map, inl, inr, refl, sym, ap, ◌∙◌, subst, append_assoc, length-append, arith}
use Rattle.std.proofs.lemmas.List.{append-nil, length-map, map-append}
use Rattle.std.specs.Prelude.{Ok, Err, codes}
use Rattle.game_core.specs.declared.token.Token.{Token}
use Rattle.game_core.specs.declared.token.Token.TheVariants.{Left, Right, Text}
use Rattle.file_parts.specs.Parts.{braced_texts}
use Rattle.file_parts.specs.Reading.{closing_brace_at, texts_at, after_text}
use Rattle.file_parts.specs.Parsing.{Parsed, ◌>>=◌, expected_mark, parse_title, parse_names}
use Rattle.file_parts.proofs.HeaderLaws.{title_is}
use Rattle.file_parts.proofs.PartReaderLemmas.{title_reader, names_reader}
use Rattle.file_parts.proofs.ReaderLemmas.{chain, bind_err, err_same, ok_err, same_front, cut}
use Rattle.file_parts.proofs.TokenLaws.{texts_is}
use Rattle.file_parts.proofs.ValueLemmas.{value, value_title}
use Rattle.written_trees.specs.Building.{root_alone, tree_so_far, open_branches}
use Rattle.tree_grammar.specs.TreeFile.{IsPartialFile}
use Rattle.tree_grammar.specs.TreeParsing.{FrontPart, parse_front}
use Rattle.file_parts.specs.Faults.{CannotCome as CannotComeIn}
use Rattle.tree_faults.specs.TreeFaults.{IsFile, BeginsFile}
use Rattle.tree_grammar.specs.declared.kinds.EfgKind.{EfgKind}
use Rattle.tree_grammar.specs.declared.kinds.EfgKind.TheVariants.{Header, Players}
use Rattle.tree_grammar.proofs.FileLaws.{partial_is, partial_front, tree_front}
use Rattle.tree_grammar.proofs.NodesLaws.{none_more}
use Rattle.tree_grammar.proofs.FrontLaws.{names_again_so}
use Rattle.std.proofs.lemmas.Bool.{cases_Bool}

-- what comes cannot come in a file of a tree
abbrev pub CannotCome : List Token → List Token → Type 0
CannotCome = CannotComeIn IsFile BeginsFile

-- ---- beginning a file
-- with more tokens the front and whole nodes are read
pub begins_by : (before more : List Token) (x : FrontPart × List Token) → parse_front (before ++ more) ≡ Ok x → length x.0.1 < 2 ^ 32 → x.1 ≡ [] → BeginsFile before
begins_by before more x e few none =
    let f = partial_is (before ++ more) (x.0, []) (root_alone, []) few (e ∙ ap (λ (r : List Token). Ok (x.0, r)) none) (none_more (length x.0.1) root_alone []) in
    let same : f.0 ≡ before ++ more = sym (f.2 ∙ append-nil f.0) in
    (more, tree_so_far x.0.0 x.0.1 root_alone, open_branches root_alone.branchings, subst (λ (all : List Token). IsPartialFile all (tree_so_far x.0.0 x.0.1 root_alone) (open_branches root_alone.branchings)) same f.1)

-- ---- where the front stops
-- what comes where the front stops cannot come
pub front_cannot : (before rest : List Token) (kind : EfgKind) → ((t : Token) (r more : List Token) → rest ≡ t ∷ r → parse_front (before ++ t ∷ more) ≡ Err (kind, t ∷ more)) → (rest ≡ [] → parse_front before ≡ Err (kind, [])) → CannotCome before rest
front_cannot before [] kind stays ends = λ f.
    let read = tree_front before f.0 f.1 in
    absurd (ok_err _ (kind, []) (sym read ∙ ends refl))
front_cannot before (t ∷ rest) kind stays ends = λ b.
    let file = b.3 in
    let tokens : List Token = (before ++ t ∷ []) ++ b.0 in
    let read = partial_front tokens tokens [] b.1 b.2 file (sym (append-nil tokens)) (record { no_text = refl; no_list = refl }) in
    absurd (ok_err _ (kind, t ∷ b.0) (sym read ∙ ap parse_front (cut before t b.0) ∙ stays t rest b.0 refl))

-- where reading stops before a token or at the end
pub record Stops (tokens : List Token) (rest : List Token) : Type 0 where
  pub before : List Token
  pub are_tokens : tokens ≡ before ++ rest
  pub begins : BeginsFile before
  pub stops : CannotCome before rest

-- where the title stops
title_stops : (tokens : List Token) (kind : EfgKind) (rest : List Token) → parse_title Header (codes "EFG") 2 tokens ≡ Err (kind, rest) → Stops tokens rest
unfolding parse_front parse_names
title_stops tokens kind rest e =
    let s = ((title_reader Header (codes "EFG") 2).at tokens).sticks kind rest e in
    let names : List Token = braced_texts ([] ∷ []) in
    let title : parse_title Header (codes "EFG") 2 ((s.before ++ s.next ∷ s.more) ++ names) ≡ Ok (s.value, names) = s.goes_on names in
    let all : s.before ++ (s.next ∷ s.more ++ names) ≡ (s.before ++ s.next ∷ s.more) ++ names = sym (append_assoc s.before (s.next ∷ s.more) names) in
    let read : parse_front (s.before ++ (s.next ∷ s.more ++ names)) ≡ Ok ((s.value, [] ∷ []), []) = rw (all, title) (front_of_names s.value) in
    record {
      before = s.before;
      are_tokens = s.is;
      begins = begins_by s.before (s.next ∷ s.more ++ names) ((s.value, [] ∷ []), []) read (omega arith) refl;
      stops = front_cannot s.before rest kind (λ t r more f. rw (s.stays t r more f) refl) (λ none. let same : tokens ≡ s.before = s.is ∙ ap (λ (r : List Token). s.before ++ r) none ∙ append-nil s.before in rw (← same, e, none) refl);
    }
  where
    front_of_names : (title : List ℕ) → chain {B = FrontPart × List Token} (parse_names Players (braced_texts ([] ∷ []))) (λ players. Ok ((title, players.0), after_text players.1)) ≡ Ok ((title, [] ∷ []), [])
    front_of_names title = refl

-- how names that stop go on
pub record GoOn (tokens rest : List Token) : Type 0 where
  pub before : List Token
  pub is : tokens ≡ before ++ rest
  pub next : Token
  pub more : List Token
  pub players : List (List ℕ)
  pub some : 1 ≤ length players
  pub few : length players ≤ suc (length before)
  pub go_on : before ++ next ∷ more ≡ braced_texts players

-- after texts that are not closed
open_texts : (inner rest : List Token) → rest ≡ (texts_at inner).1 → GoOn (Left ∷ inner) rest
open_texts inner rest e =
    let texts = (texts_at inner).0 in
    let size : length (texts ++ [] ∷ []) ≡ length texts + 1 = length-append texts ([] ∷ []) in
    let before : length (map Text texts) ≡ length texts = length-map texts Text in
    record {
      before = Left ∷ map Text texts;
      is = ap (λ (r : List Token). Left ∷ r) (texts_is inner ∙ ap (λ (r : List Token). map Text texts ++ r) (sym e));
      next = Text [];
      more = Right ∷ [];
      players = texts ++ [] ∷ [];
      some = omega (arith, size);
      few = omega (arith, size, before);
      go_on = ap (λ (r : List Token). Left ∷ r) (sym (append_assoc (map Text texts) (Text [] ∷ []) (Right ∷ [])) ∙ ap (λ (r : List Token). r ++ Right ∷ []) (sym (map-append Text texts ([] ∷ []))));
    }

-- no list opens
no_names : (tokens : List Token) → GoOn tokens tokens
no_names tokens = record { before = []; is = refl; next = Left; more = Text [] ∷ Right ∷ []; players = [] ∷ []; some = omega arith; few = omega arith; go_on = refl }

pub names_go_on : (tokens : List Token) (fault : EfgKind × List Token) → parse_names Players tokens ≡ Err fault → GoOn tokens fault.1
unfolding parse_names
names_go_on (Left ∷ inner) fault e = elim (cases_Bool (nat_eq (length (texts_at inner).0) 0)) [
  | inl z ↦ let o : ◌≡◌ {A = Parsed EfgKind (List (List ℕ))} (Err (Players, (texts_at inner).1)) (Err fault) = rw z at e in open_texts inner fault.1 (sym (ap (λ (f : EfgKind × List Token). f.1) (err_same (Players, (texts_at inner).1) fault o)))
  | inr z ↦
      let o : (expected_mark Players (texts_at inner).1 (closing_brace_at (texts_at inner).1) >>= λ rest. Ok ((texts_at inner).0, rest.1)) ≡ Err fault = rw z at e in
      open_texts inner fault.1 (sym (closed (texts_at inner).0 (texts_at inner).1 fault o))
]
  where
    closed : (texts : List (List ℕ)) (tokens : List Token) (fault : EfgKind × List Token) → chain {B = List (List ℕ) × List Token} (expected_mark Players tokens (closing_brace_at tokens)) (λ rest. Ok (texts, rest.1)) ≡ Err fault → tokens ≡ fault.1
    closed texts (Right ∷ rest) fault e = absurd (ok_err (texts, rest) fault e)
    closed texts tokens fault e = ap (λ (f : EfgKind × List Token). f.1) (err_same (Players, tokens) fault e)
names_go_on tokens fault e = subst (GoOn tokens) (ap (λ (f : EfgKind × List Token). f.1) (err_same (Players, tokens) fault e)) (no_names tokens)

-- where the players stop
names_stop : (tokens following : List Token) (title : List ℕ) (kind : EfgKind) (rest : List Token) → length tokens < 2 ^ 32 → parse_title Header (codes "EFG") 2 tokens ≡ Ok (title, following) → parse_names Players following ≡ Err (kind, rest) → Stops tokens rest
unfolding parse_front
names_stop tokens following title kind rest short t e =
    let one = ((title_reader Header (codes "EFG") 2).at tokens).reads title following t in
    let s = ((names_reader Players).at following).sticks kind rest e in
    let g = names_go_on following (kind, rest) e in
    let same : s.before ≡ g.before = same_front s.before g.before rest (sym s.is ∙ g.is) in
    let before : List Token = one.0 ++ g.before in
    let all : tokens ≡ before ++ rest = one.1 ∙ ap (λ (r : List Token). one.0 ++ r) g.is ∙ sym (append_assoc one.0 g.before rest) in
    let size : length tokens ≡ length one.0 + length following = ap length one.1 ∙ length-append one.0 following in
    let inner : length following ≡ length g.before + length rest = ap length g.is ∙ length-append g.before rest in
    let header : suc (length following) ≤ length tokens = title_takes tokens following title t in
    let few : length g.players < 2 ^ 32 = omega (arith, g.few, size, inner, header, short) in
    let names : parse_names Players (g.before ++ g.next ∷ g.more) ≡ Ok (g.players, []) = ap (parse_names Players) (g.go_on ∙ sym (append-nil (braced_texts g.players))) ∙ names_again_so g.players [] g.some in
    let read : parse_front (before ++ g.next ∷ g.more) ≡ Ok ((title, g.players), []) = rw (append_assoc one.0 g.before (g.next ∷ g.more), one.2 (g.before ++ g.next ∷ g.more), names) refl in
    record {
      before = before;
      are_tokens = all;
      begins = begins_by before (g.next ∷ g.more) ((title, g.players), []) read few refl;
      stops = front_cannot before rest kind
          (λ u r more f. let there : parse_names Players (g.before ++ u ∷ more) ≡ Err (kind, u ∷ more) = subst (λ (q : List Token). parse_names Players (q ++ u ∷ more) ≡ Err (kind, u ∷ more)) same (s.stays u r more f) in rw (append_assoc one.0 g.before (u ∷ more), one.2 (g.before ++ u ∷ more), there) refl)
          (λ none. let whole : before ≡ tokens = sym (all ∙ ap (λ (r : List Token). before ++ r) none ∙ append-nil before) in rw (whole, t, e, none) refl);
    }
  where
    title_takes : (tokens following : List Token) (title : List ℕ) → parse_title Header (codes "EFG") 2 tokens ≡ Ok (title, following) → suc (length following) ≤ length tokens
    title_takes tokens following title t =
        let h = title_is (codes "EFG") 2 tokens (title, following) (sym (value_title Header (codes "EFG") 2 tokens) ∙ ap value t) in
        let n : length tokens ≡ suc (suc (suc (suc (length following)))) = ap length h.2 in
        omega arith

-- where the front stops
pub front_stops : (tokens : List Token) (kind : EfgKind) (rest : List Token) → length tokens < 2 ^ 32 → parse_front tokens ≡ Err (kind, rest) → Stops tokens rest
unfolding parse_front
front_stops tokens kind rest short e = elim (bind_err (parse_title Header (codes "EFG") 2 tokens) _ (kind, rest) e) [
  | inl f ↦ title_stops tokens kind rest f
  | inr a ↦ elim (bind_err (parse_names Players a.0.1) (λ players. Ok ((a.0.0, players.0), after_text players.1)) (kind, rest) a.2) [
    | inl f ↦ names_stop tokens a.0.1 a.0.0 kind rest short a.1 f
    | inr b ↦ absurd (ok_err ((a.0.0, b.0.0), after_text b.0.1) (kind, rest) b.2)
  ]
]
