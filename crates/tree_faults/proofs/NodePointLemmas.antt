-- Where the reading of nodes stops, and what its fault there is: the point of the node, by what was found of the set or the outcome.
use Rattle.std.proofs.Common.{◌≡◌, ℕ, zero, suc, ◌-◌, ◌<◌, ◌≤◌, ◌&&◌, if◌then◌else◌, nat_le, nat_eq, slice_get, List, [], ◌∷◌, ◌++◌, length, Bool, true, false, Option, Some, None, ◌⊎◌, inl, inr, refl, sym, ap, ◌∙◌, subst, append_assoc, append-nil, arith}
use Rattle.std.specs.Prelude.{Ok, Err, codes}
use Rattle.std.proofs.lemmas.Bool.{cases_Bool}
use Rattle.std.proofs.lemmas.Option.{same_Some}
use Rattle.std.specs.Str.{bytes_eq}
use Rattle.lists.proofs.NumberLemmas.{positive}
use Rattle.lists.proofs.OptionLemmas.{bind_some}
use Rattle.game_core.specs.declared.tree.Action.{Action}
use Rattle.game_core.specs.declared.tree.Kind.TheVariants.{End}
use Rattle.game_core.specs.declared.token.Token.{Token}
use Rattle.game_core.specs.declared.token.Token.TheVariants.{Left, Text, Word}
use Rattle.file_parts.specs.Parts.{whole_number, optional_text}
use Rattle.file_parts.specs.Reading.{whole_at, optional_text_at, texts_at, count_at}
use Rattle.file_parts.specs.Parsing.{Parsed, wanted}
use Rattle.file_parts.proofs.ReaderLemmas.{chain, bind_err, err_same, ok_err}
use Rattle.file_parts.proofs.TokenLaws.{whole_is, optional_text_is, count_is}
use Rattle.file_parts.proofs.TokenReaderLemmas.{wanted_faults}
use Rattle.file_parts.proofs.ValueLemmas.{value, value_wanted}
use Rattle.written_trees.specs.Written.{SetUse, OutcomeUse}
use Rattle.written_trees.specs.Described.{key_of}
use Rattle.written_trees.specs.Building.{PartialTree, PartialSet, PartialOutcome, Branching, set_place, outcome_place, use_some_set, UsedSet}
use Rattle.tree_grammar.specs.TreeFile.{IsSetPart, IsInnerPart, IsChoicePart, IsOutcomePart}
use Rattle.tree_grammar.proofs.PartValueLemmas.{choice_at, choice_part_at}
use Rattle.tree_grammar.specs.TreeParsing.{is_whole, parse_own_list, parse_first_list, parse_later_list, bare_use, parse_use, parse_set, parse_player, parse_set_choice, parse_own_choice, parse_after, parse_choice, parse_first_payoffs, parse_later_payoffs, bare_outcome_use, parse_outcome_use, parse_named, parse_outcome, parse_next}
use Rattle.file_parts.specs.Faults.{WholeComes}
use Rattle.tree_grammar.specs.declared.kinds.EfgKind.{EfgKind}
use Rattle.tree_grammar.specs.declared.kinds.EfgKind.TheVariants.{Node, UnknownPlayer, SetMismatch, OutcomeMismatch}
use Rattle.tree_grammar.proofs.NodeLaws.{player_is, word_passes, choice_is}
use Rattle.tree_grammar.proofs.NodesLaws.{BeginsWithNodes, none_more, one_before}
use Rattle.tree_grammar.proofs.NodeValueLemmas.{Keeps, value_player, value_choice}
use Rattle.tree_grammar.proofs.NodesReadLaws.{next_is, next_keeps, next_takes}
use Rattle.tree_faults.proofs.ChanceListLemmas.{ChanceListStops, chance_list_stops, closed_err}
use Rattle.tree_faults.proofs.RepeatedListLemmas.{LaterListStops, later_list_stops}
use Rattle.tree_faults.proofs.PayoffListLemmas.{PayoffsStop, first_payoffs_stop, later_payoffs_stop}
use Rattle.tree_faults.proofs.LocatedReadingLemmas.{located_at, located_nodes, at_read, located_err}

-- ---- kinds that are named outright
node_only : {X : Type 0} {P : Type 0} (tokens : List Token) (f : EfgKind × List Token) → ◌≡◌ {A = Parsed EfgKind X} (Err (Node, tokens)) (Err f) → (f.0 ≡ Node) ⊎ P
node_only {X} tokens f e = inl (sym (ap (λ (z : EfgKind × List Token). z.0) (err_same {A = X × List Token} (Node, tokens) f e)))

-- ---- the list of a set
-- a first list is wanted, or stops where chance chooses; a later one differs
abbrev pub UseStops : SetUse → Option PartialSet → List Token → EfgKind → List Token → Type 0
UseStops used None tokens kind rest = ((kind ≡ SetMismatch) × (tokens ≡ rest)) ⊎ ((used.owner ≡ None) × ChanceListStops used.label tokens kind rest)
UseStops used (Some set) tokens kind rest = (kind ≡ SetMismatch) × LaterListStops set.owner tokens rest

own_list_stops : {P : Type 0} (tokens : List Token) (f : EfgKind × List Token) → parse_own_list tokens ≡ Err f → (f.0 ≡ Node) ⊎ P
unfolding parse_own_list
own_list_stops tokens f e = elim (bind_err _ _ f e) [
  | inl g ↦ inl (sym (ap (λ (z : EfgKind × List Token). z.0) (closed_err (length (texts_at tokens).0) (texts_at tokens).1 f g)))
  | inr a ↦ absurd (ok_err _ f a.2)
]

first_stops : (owner : Option ℕ) (set : ℕ) (tokens : List Token) (f : EfgKind × List Token) → parse_first_list owner set tokens ≡ Err f → (f.0 ≡ Node) ⊎ (((f.0 ≡ SetMismatch) × (tokens ≡ f.1)) ⊎ ((owner ≡ None) × ChanceListStops set tokens f.0 f.1))
unfolding parse_first_list
first_stops None set (Left ∷ inner) f e = elim (chance_list_stops set inner f.0 f.1 e) [
  | inl n ↦ inl n
  | inr s ↦ inr (inr (refl, s))
]
first_stops (Some i) set (Left ∷ inner) f e = own_list_stops inner f e
first_stops owner set tokens f e =
    let same = err_same {A = List Action × List Token} (SetMismatch, tokens) f e in
    inr (inl (sym (ap (λ (z : EfgKind × List Token). z.0) same), ap (λ (z : EfgKind × List Token). z.1) same))

use_stops : (k : ℕ) (sets : List PartialSet) (used : SetUse) (found : Option PartialSet) (tokens : List Token) (f : EfgKind × List Token) → parse_use k sets used found tokens ≡ Err f → (f.0 ≡ Node) ⊎ UseStops used found tokens f.0 f.1
use_stops k sets used None tokens f e = elim (bind_err (parse_first_list used.owner used.label tokens) _ f e) [
  | inl g ↦ first_stops used.owner used.label tokens f g
  | inr a ↦ absurd (ok_err _ f a.2)
]
use_stops k sets used (Some set) tokens f e = elim (bind_err (parse_later_list set.owner set.actions tokens) _ f e) [
  | inl g ↦ later_list_stops set.owner set.actions tokens f g
  | inr a ↦ absurd (ok_err _ f a.2)
]

-- after the number of a set, and maybe its name
record SetStops (sets : List PartialSet) (owner : Option ℕ) (tokens : List Token) (kind : EfgKind) (rest : List Token) : Type 0 where
  pub label : ℕ
  pub name : Option (List ℕ)
  pub after : List Token
  pub some : 1 ≤ label
  pub are : tokens ≡ whole_number label ∷ (optional_text name ++ after)
  pub stops : UseStops (bare_use owner label name) (slice_get sets (set_place sets (owner, label))) after kind rest

set_stops : (k : ℕ) (sets : List PartialSet) (owner : Option ℕ) (tokens : List Token) (f : EfgKind × List Token) → parse_set k sets owner tokens ≡ Err f → (f.0 ≡ Node) ⊎ SetStops sets owner tokens f.0 f.1
unfolding parse_set
set_stops k sets owner tokens f e = elim (bind_err (wanted Node tokens (count_at tokens)) _ f e) [
  | inl g ↦ inl (wanted_faults Node count_at tokens f g)
  | inr a ↦
      let name = (optional_text_at a.0.1).0 in
      let after = (optional_text_at a.0.1).1 in
      let p = count_is tokens a.0 (sym (value_wanted Node tokens (count_at tokens)) ∙ ap value a.1) in
      let found = slice_get sets (set_place sets (owner, a.0.0)) in
      elim (bind_err (parse_use k sets (bare_use owner a.0.0 name) found after) _ f a.2) [
        | inl g ↦ elim (use_stops k sets (bare_use owner a.0.0 name) found after f g) [
          | inl n ↦ inl n
          | inr s ↦ inr (record { label = a.0.0; name = name; after = after; some = p.0; are = p.1 ∙ ap (λ (q : List Token). whole_number a.0.0 ∷ q) (optional_text_is a.0.1); stops = s })
        ]
        | inr b ↦ absurd (ok_err _ f b.2)
      ]
]

-- ---- a choice
-- a node up to the list of its set
pub record InnerStops (players : ℕ) (sets : List PartialSet) (tokens : List Token) (kind : EfgKind) (rest : List Token) : Type 0 where
  pub used : SetUse
  pub front : List Token
  pub after : List Token
  pub is_front : IsInnerPart players used.owner front used
  pub no_list : used.actions ≡ None
  pub are : tokens ≡ front ++ after
  pub stops : UseStops used (slice_get sets (set_place sets (key_of used))) after kind rest

-- the player's number, or the list
abbrev pub PlayerStops : List Token → EfgKind → List Token → Type 0
PlayerStops tokens kind rest = (name : List ℕ) × (tokens ≡ Word (codes "p") ∷ Text name ∷ rest) × WholeComes rest × (kind ≡ UnknownPlayer)

abbrev pub ChoiceStops : ℕ → List PartialSet → List Token → EfgKind → List Token → Type 0
ChoiceStops players sets tokens kind rest = PlayerStops tokens kind rest ⊎ InnerStops players sets tokens kind rest

-- the part of a set without a list
part_of : (sets : List PartialSet) (owner : Option ℕ) (tokens : List Token) (kind : EfgKind) (rest : List Token) (s : SetStops sets owner tokens kind rest) → IsSetPart (whole_number s.label ∷ (optional_text s.name ++ [])) (bare_use owner s.label s.name)
part_of sets owner tokens kind rest s = (s.some, [], refl, refl)

-- tokens after the front of a node
after_front : (start part rest : List Token) (label : ℕ) (name : Option (List ℕ)) → part ≡ whole_number label ∷ (optional_text name ++ rest) → start ++ part ≡ (start ++ whole_number label ∷ (optional_text name ++ [])) ++ rest
after_front start part rest label name e =
    ap (λ (q : List Token). start ++ q) (e ∙ ap (λ (q : List Token). whole_number label ∷ (q ++ rest)) (sym (append-nil (optional_text name))))
    ∙ sym (append_assoc start (whole_number label ∷ (optional_text name ++ [])) rest)

chance_stops : (players k : ℕ) (sets : List PartialSet) (name : List ℕ) (tokens : List Token) (f : EfgKind × List Token) → parse_set_choice k sets None tokens ≡ Err f → (f.0 ≡ Node) ⊎ InnerStops players sets (Word (codes "c") ∷ Text name ∷ tokens) f.0 f.1
unfolding parse_set_choice
chance_stops players k sets name tokens f e = elim (bind_err (parse_set k sets None tokens) _ f e) [
  | inl g ↦ elim (set_stops k sets None tokens f g) [
    | inl n ↦ inl n
    | inr s ↦
        let start : List Token = Word (codes "c") ∷ Text name ∷ [] in
        let part : List Token = whole_number s.label ∷ (optional_text s.name ++ []) in
        inr (record { used = bare_use None s.label s.name; front = start ++ part; after = s.after; is_front = (name, part, refl, part_of sets None tokens f.0 f.1 s); no_list = refl; are = after_front start tokens s.after s.label s.name s.are; stops = s.stops })
  ]
  | inr a ↦ absurd (ok_err _ f a.2)
]

own_stops : (players k : ℕ) (sets : List PartialSet) (name : List ℕ) (i : ℕ) (following tokens : List Token) (f : EfgKind × List Token) → i < players → tokens ≡ whole_number (suc i) ∷ following → parse_set_choice k sets (Some i) following ≡ Err f → (f.0 ≡ Node) ⊎ InnerStops players sets (Word (codes "p") ∷ Text name ∷ tokens) f.0 f.1
unfolding parse_set_choice
own_stops players k sets name i following tokens f few is e = elim (bind_err (parse_set k sets (Some i) following) _ f e) [
  | inl g ↦ elim (set_stops k sets (Some i) following f g) [
    | inl n ↦ inl n
    | inr s ↦
        let start : List Token = Word (codes "p") ∷ Text name ∷ whole_number (suc i) ∷ [] in
        let part : List Token = whole_number s.label ∷ (optional_text s.name ++ []) in
        let all : Word (codes "p") ∷ Text name ∷ tokens ≡ start ++ following = ap (λ (q : List Token). Word (codes "p") ∷ Text name ∷ q) is in
        inr (record { used = bare_use (Some i) s.label s.name; front = start ++ part; after = s.after; is_front = (few, name, part, refl, part_of sets (Some i) following f.0 f.1 s); no_list = refl; are = all ∙ after_front start following s.after s.label s.name s.are; stops = s.stops })
  ]
  | inr a ↦ absurd (ok_err _ f a.2)
]

-- a player's number
player_stops : (players : ℕ) (name : List ℕ) (tokens : List Token) (f : EfgKind × List Token) → parse_player players tokens ≡ Err f → (f.0 ≡ Node) ⊎ PlayerStops (Word (codes "p") ∷ Text name ∷ tokens) f.0 f.1
unfolding parse_player
player_stops players name tokens f e = elim (bind_err (wanted Node tokens (whole_at tokens)) _ f e) [
  | inl g ↦ inl (wanted_faults Node whole_at tokens f g)
  | inr a ↦
      let w = whole_is tokens a.0 (sym (value_wanted Node tokens (whole_at tokens)) ∙ ap value a.1) in
      by (nat_le 1 a.0.0 && nat_le a.0.0 players) (a.0.0 - 1, a.0.1) (a.0.0, a.0.1, w) a.2
]
  where
    by : (is : Bool) (x : ℕ × List Token) → WholeComes tokens → ◌≡◌ {A = Parsed EfgKind ℕ} (if is then Ok x else Err (UnknownPlayer, tokens)) (Err f) → (f.0 ≡ Node) ⊎ PlayerStops (Word (codes "p") ∷ Text name ∷ tokens) f.0 f.1
    by true x w e = absurd (ok_err x f e)
    by false x w e =
        let same = err_same {A = ℕ × List Token} (UnknownPlayer, tokens) f e in
        let place : tokens ≡ f.1 = ap (λ (z : EfgKind × List Token). z.1) same in
        inr (name, ap (λ (q : List Token). Word (codes "p") ∷ Text name ∷ q) place, subst WholeComes place w, sym (ap (λ (z : EfgKind × List Token). z.0) same))

player_choice_stops : (players k : ℕ) (sets : List PartialSet) (name : List ℕ) (tokens : List Token) (f : EfgKind × List Token) → parse_own_choice players k sets tokens ≡ Err f → (f.0 ≡ Node) ⊎ ChoiceStops players sets (Word (codes "p") ∷ Text name ∷ tokens) f.0 f.1
unfolding parse_own_choice
player_choice_stops players k sets name tokens f e = elim (bind_err (parse_player players tokens) _ f e) [
  | inl g ↦ elim (player_stops players name tokens f g) [
    | inl n ↦ inl n
    | inr s ↦ inr (inl s)
  ]
  | inr a ↦
      let p = player_is players tokens a.0 (sym (value_player players tokens) ∙ ap value a.1) in
      elim (own_stops players k sets name a.0.0 a.0.1 tokens f p.0 p.1 a.2) [
        | inl n ↦ inl n
        | inr s ↦ inr (inr s)
      ]
]

after_stops : (players k : ℕ) (sets : List PartialSet) (word name : List ℕ) (start tokens : List Token) (f : EfgKind × List Token) → parse_after players k sets word start tokens ≡ Err f → (f.0 ≡ Node) ⊎ ChoiceStops players sets (Word word ∷ Text name ∷ tokens) f.0 f.1
after_stops players k sets word name start tokens f e = elim (cases_Bool (bytes_eq word (codes "c"))) [
  | inl c ↦
      let g : parse_set_choice k sets None tokens ≡ Err f = rw c at e in
      elim (chance_stops players k sets name tokens f g) [
        | inl n ↦ inl n
        | inr s ↦ inr (inr (expected (codes "c") (word_passes word (codes "c") c) (λ q. InnerStops players sets q f.0 f.1) s))
      ]
  | inr c ↦ elim (cases_Bool (bytes_eq word (codes "p"))) [
    | inl p ↦
        let g : parse_own_choice players k sets tokens ≡ Err f = rw (c, p) at e in
        elim (player_choice_stops players k sets name tokens f g) [
          | inl n ↦ inl n
          | inr s ↦ inr (expected (codes "p") (word_passes word (codes "p") p) (λ q. ChoiceStops players sets q f.0 f.1) s)
        ]
    | inr p ↦ elim (cases_Bool (bytes_eq word (codes "t"))) [
      | inl t ↦ let g : ◌≡◌ {A = Parsed EfgKind UsedSet} (Ok ((sets, (End, None)), tokens)) (Err f) = rw (c, p, t) at e in absurd (ok_err _ f g)
      | inr t ↦ let g : ◌≡◌ {A = Parsed EfgKind UsedSet} (Err (Node, start)) (Err f) = rw (c, p, t) at e in node_only {X = UsedSet} start f g
    ]
  ]
]
  where
    expected : (other : List ℕ) → word ≡ other → (P : List Token → Type 0) → P (Word other ∷ Text name ∷ tokens) → P (Word word ∷ Text name ∷ tokens)
    expected other same P h = subst (λ (w : List ℕ). P (Word w ∷ Text name ∷ tokens)) (sym same) h

choice_stops : (players k : ℕ) (sets : List PartialSet) (tokens : List Token) (f : EfgKind × List Token) → parse_choice players k sets tokens ≡ Err f → (f.0 ≡ Node) ⊎ ChoiceStops players sets tokens f.0 f.1
unfolding parse_choice
choice_stops players k sets (Word word ∷ Text name ∷ tokens) f e = after_stops players k sets word name (Word word ∷ Text name ∷ tokens) tokens f e
choice_stops players k sets (Word word ∷ tokens) f e = node_only {X = UsedSet} tokens f e
choice_stops players k sets tokens f e = node_only {X = UsedSet} tokens f e

-- ---- an outcome
-- the payoffs of a first use are wanted, or stop; or later ones do
abbrev pub OutcomeUseStops : ℕ → Option PartialOutcome → List Token → List Token → Type 0
OutcomeUseStops players None tokens rest = (tokens ≡ rest) ⊎ PayoffsStop players tokens rest
OutcomeUseStops players (Some outcome) tokens rest = PayoffsStop (length outcome.payoffs) tokens rest

outcome_use_stops : (players : ℕ) (outcomes : List PartialOutcome) (used : OutcomeUse) (found : Option PartialOutcome) (tokens : List Token) (f : EfgKind × List Token) → parse_outcome_use players outcomes used found tokens ≡ Err f → (f.0 ≡ Node) ⊎ ((f.0 ≡ OutcomeMismatch) × OutcomeUseStops players found tokens f.1)
outcome_use_stops players outcomes used None tokens f e = elim (bind_err (parse_first_payoffs players tokens) _ f e) [
  | inl g ↦ first_payoffs_stop players tokens f g
  | inr a ↦ absurd (ok_err _ f a.2)
]
outcome_use_stops players outcomes used (Some outcome) tokens f e = elim (bind_err (parse_later_payoffs outcome.payoffs tokens) _ f e) [
  | inl g ↦ later_payoffs_stop outcome.payoffs tokens f g
  | inr a ↦ absurd (ok_err _ f a.2)
]

-- after the number of an outcome, and maybe its name
pub record OutcomeStops (players : ℕ) (outcomes : List PartialOutcome) (tokens : List Token) (kind : EfgKind) (rest : List Token) : Type 0 where
  pub used : OutcomeUse
  pub front : List Token
  pub after : List Token
  pub is_front : IsOutcomePart players front (Some used)
  pub no_list : used.payoffs ≡ None
  pub are : tokens ≡ front ++ after
  pub is_kind : kind ≡ OutcomeMismatch
  pub stops : OutcomeUseStops players (slice_get outcomes (outcome_place outcomes used.label)) after rest

named_stops : (players label : ℕ) (outcomes : List PartialOutcome) (tokens : List Token) (f : EfgKind × List Token) → 1 ≤ label → parse_named players label outcomes tokens ≡ Err f → (f.0 ≡ Node) ⊎ OutcomeStops players outcomes (whole_number label ∷ tokens) f.0 f.1
unfolding parse_named
named_stops players label outcomes tokens f some e =
    let name = (optional_text_at tokens).0 in
    let after = (optional_text_at tokens).1 in
    let used = bare_outcome_use label name in
    let found = slice_get outcomes (outcome_place outcomes label) in
    let part : List Token = whole_number label ∷ (optional_text name ++ []) in
    let are : whole_number label ∷ tokens ≡ part ++ after = after_front [] (whole_number label ∷ tokens) after label name (ap (λ (q : List Token). whole_number label ∷ q) (optional_text_is tokens)) in
    elim (bind_err (parse_outcome_use players outcomes used found after) _ f e) [
      | inl g ↦ elim (outcome_use_stops players outcomes used found after f g) [
        | inl n ↦ inl n
        | inr s ↦ inr (record { used = used; front = part; after = after; is_front = (some, [], refl, refl); no_list = refl; are = are; is_kind = s.0; stops = s.1 })
      ]
      | inr a ↦ absurd (ok_err _ f a.2)
    ]

outcome_stops : (players : ℕ) (outcomes : List PartialOutcome) (tokens : List Token) (f : EfgKind × List Token) → parse_outcome players outcomes tokens ≡ Err f → (f.0 ≡ Node) ⊎ OutcomeStops players outcomes tokens f.0 f.1
unfolding parse_outcome
outcome_stops players outcomes tokens f e = elim (bind_err (wanted Node tokens (whole_at tokens)) _ f e) [
  | inl g ↦ inl (wanted_faults Node whole_at tokens f g)
  | inr a ↦
      let w = whole_is tokens a.0 (sym (value_wanted Node tokens (whole_at tokens)) ∙ ap value a.1) in
      elim (cases_Bool (nat_eq a.0.0 0)) [
        | inl z ↦ let g : ◌≡◌ {A = Parsed EfgKind (List PartialOutcome × Option ℕ)} (Ok ((outcomes, None), a.0.1)) (Err f) = rw z at a.2 in absurd (ok_err _ f g)
        | inr z ↦
            let g : parse_named players a.0.0 outcomes a.0.1 ≡ Err f = rw z at a.2 in
            subst (λ (q : List Token). (f.0 ≡ Node) ⊎ OutcomeStops players outcomes q f.0 f.1) (sym w) (named_stops players a.0.0 outcomes a.0.1 f (positive a.0.0 z) g)
      ]
]

-- ---- a node
-- after a choice, its outcome stops
pub record AfterChoice (players : ℕ) (outcomes : List PartialOutcome) (tokens : List Token) (kind : EfgKind) (rest : List Token) : Type 0 where
  pub set : Option SetUse
  pub choice : List Token
  pub after : List Token
  pub is_choice : IsChoicePart players choice set
  pub are : tokens ≡ choice ++ after
  pub stops : OutcomeStops players outcomes after kind rest

abbrev pub NextStops : ℕ → PartialTree → List Token → EfgKind → List Token → Type 0
NextStops players partial tokens kind rest = ChoiceStops players partial.sets tokens kind rest ⊎ AfterChoice players partial.outcomes tokens kind rest

-- what is read as a choice comes first
choice_comes : (players k : ℕ) (sets : List PartialSet) (tokens : List Token) (x : UsedSet × List Token) → choice_part_at players k sets tokens ≡ Some x → (set : Option SetUse) × (choice : List Token) × IsChoicePart players choice set × (tokens ≡ choice ++ x.1)
unfolding choice_part_at
choice_comes players k sets tokens x e =
    let a = bind_some (choice_at players tokens) _ x e in
    let b = bind_some (use_some_set k sets a.0.0) _ x a.2 in
    let c = choice_is players tokens a.0 a.1 in
    (a.0.0, c.0, c.1, c.2 ∙ ap (λ (z : UsedSet × List Token). c.0 ++ z.1) (same_Some _ _ b.2))

next_stops : (players : ℕ) (partial : PartialTree) (b : Branching) (others : List Branching) (tokens : List Token) (f : EfgKind × List Token) → Keeps players partial → parse_next players partial b others tokens ≡ Err f → (f.0 ≡ Node) ⊎ NextStops players partial tokens f.0 f.1
unfolding parse_next
next_stops players partial b others tokens f kept e = elim (bind_err (parse_choice players (length partial.nodes) partial.sets tokens) _ f e) [
  | inl g ↦ elim (choice_stops players (length partial.nodes) partial.sets tokens f g) [
    | inl n ↦ inl n
    | inr s ↦ inr (inl s)
  ]
  | inr a ↦ elim (bind_err (parse_outcome players partial.outcomes a.0.1) _ f a.2) [
    | inl g ↦ elim (outcome_stops players partial.outcomes a.0.1 f g) [
      | inl n ↦ inl n
      | inr s ↦
          let c = choice_comes players (length partial.nodes) partial.sets tokens a.0 (sym (value_choice players (length partial.nodes) partial.sets tokens kept.listed) ∙ ap value a.1) in
          inr (inr (record { set = c.0; choice = c.1; after = a.0.1; is_choice = c.2; are = c.3; stops = s }))
    ]
    | inr o ↦ absurd (ok_err _ f o.2)
  ]
]

at_stops : (players : ℕ) (partial : PartialTree) (branchings : List Branching) (tokens : List Token) (f : EfgKind × List Token) → Keeps players partial → located_at players partial branchings tokens ≡ Err f → (f.0 ≡ Node) ⊎ NextStops players partial tokens f.0 f.1
at_stops players partial branchings tokens f kept e = elim (located_err players partial branchings tokens f e) [
  | inl n ↦ inl (sym (ap (λ (z : EfgKind × List Token). z.0) n))
  | inr s ↦ next_stops players partial s.0.first s.0.others tokens f kept s.1
]

-- ---- nodes
-- after whole nodes, a node stops
abbrev pub NodeStops : ℕ → PartialTree → List Token → EfgKind → List Token → Type 0
NodeStops players partial tokens kind rest = (x : PartialTree × List Token) × BeginsWithNodes players partial tokens x × Keeps players x.0 × NextStops players x.0 x.1 kind rest

pub nodes_stops : (steps players : ℕ) (partial : PartialTree) (tokens : List Token) (f : EfgKind × List Token) → Keeps players partial → length tokens < steps → located_nodes steps players partial tokens ≡ Err f → (f.0 ≡ Node) ⊎ NodeStops players partial tokens f.0 f.1
nodes_stops zero players partial tokens f kept enough e = absurd (omega arith)
nodes_stops (suc steps) players partial tokens f kept enough e = elim (cases_Bool (is_whole partial)) [
  | inl w ↦ let g : ◌≡◌ {A = Parsed EfgKind PartialTree} (Ok (partial, tokens)) (Err f) = rw w at e in absurd (ok_err (partial, tokens) f g)
  | inr w ↦
      let g : chain (located_at players partial partial.branchings tokens) (λ x. located_nodes steps players x.0 x.1) ≡ Err f = rw w at e in
      elim (bind_err (located_at players partial partial.branchings tokens) (λ x. located_nodes steps players x.0 x.1) f g) [
        | inl h ↦ elim (at_stops players partial partial.branchings tokens f kept h) [
          | inl n ↦ inl n
          | inr s ↦ inr ((partial, tokens), none_more players partial tokens, kept, s)
        ]
        | inr a ↦
            let n = next_is players partial tokens a.0 kept (at_read players partial partial.branchings tokens a.0 a.1) in
            let shorter = next_takes players partial tokens a.0 n in
            elim (nodes_stops steps players a.0.0 a.0.1 f (next_keeps players partial tokens a.0 kept n) (omega arith) a.2) [
              | inl m ↦ inl m
              | inr s ↦ inr (s.0, one_before players partial tokens a.0 s.0 n s.1, s.2, s.3)
            ]
      ]
]
