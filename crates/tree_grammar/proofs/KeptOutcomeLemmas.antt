-- The outcomes that are kept, when one of them is used.
use Rattle.std.proofs.Common.{◌≡◌, ℕ, ◌<◌, ◌≤◌, Bool, true, false, inl, inr, nat_eq, List, [], ◌∷◌, ◌++◌, length, map, get_or, slice_get, slice_set, Option, Some, None, true≢false, sym, ap, ap₂, ◌∙◌, refl, arith}
use Rattle.std.specs.Prelude.{Ok}
use Rattle.std.specs.List.{position_or_len, list_any}
use Rattle.std.proofs.Math.Seq.{map-set_same}
use Rattle.std.proofs.lemmas.Bool.{cases_Bool}
use Rattle.std.proofs.lemmas.Bool.Decides.{Decides-eqb}
use Rattle.std.proofs.lemmas.List.{length-map, map-set, map-append, get_or-map}
use Rattle.std.proofs.lemmas.Option.{slice_get-get_or, slice_get_past}
use Rattle.indexmap.specs.IndexSet.{insert_key}
use Rattle.file_parts.specs.declared.stop.PartStop.{PartStop}
use Rattle.file_parts.specs.Reading.{optional_text_at}
use Rattle.file_parts.specs.Parsing.{IsPartStop}
use Rattle.file_parts.proofs.ParseLemmas.{refused_first}
use Rattle.file_parts.proofs.ReaderLemmas.{chain}
use Rattle.written_trees.specs.Building.{PartialOutcome, outcome_place}
use Rattle.written_trees.proofs.InsertedKeyLemmas.{position-none, position-map, insert_key-known, insert_key-new}
use Rattle.tree_grammar.specs.declared.outcomes.KeptOutcome.{KeptOutcome}
use Rattle.tree_grammar.specs.declared.outcomes.Outcomes.TheInside.{Inside as Kept}
use Rattle.tree_grammar.specs.Uses.{partial_outcome, partial_outcomes, AreOutcomes}
use Rattle.tree_grammar.specs.TreeParsing.{bare_outcome_use, parse_first_payoffs, parse_later_payoffs, parse_outcome_use, parse_named}
use Rattle.tree_grammar.specs.declared.kinds.EfgKind.{EfgKind}
use Rattle.std.specs.Option.{option_or}
use Rattle.game_core.specs.declared.token.Token.{Token}

-- the number of an outcome
abbrev label_of : KeptOutcome → ℕ
label_of outcome = outcome.label

-- a place where something stands lies within the list
place_within : {X : Type 0} (p : X → Bool) (xs : List X) → list_any p xs ≡ true → position_or_len p xs < length xs
place_within p [] h = absurd (true≢false (sym h))
place_within p (x ∷ xs) h = elim (cases_Bool (p x)) [
  | inl e ↦ rw e (omega arith)
  | inr e ↦ let less : position_or_len p xs < length xs = place_within p xs (rw e at h) in rw e (omega arith)
]

-- the name comes first
step_is : (players label : ℕ) (outcomes : List PartialOutcome) (name : Option (List ℕ)) (tokens following : List Token) → (name, following) ≡ optional_text_at tokens
    → parse_named players label outcomes tokens ≡ chain {B = (List PartialOutcome × Option ℕ) × List Token} (parse_outcome_use players outcomes (bare_outcome_use label name) (slice_get outcomes (outcome_place outcomes label)) following) (λ more. Ok ((more.0, Some (outcome_place outcomes label)), more.1))
unfolding parse_named
step_is players label outcomes name tokens following text = rw (← text) refl

module _ (players label : ℕ) (old : Kept) (are : AreOutcomes old) where
  -- whether the label is known
  abbrev is_known : Bool
  is_known = list_any (nat_eq label) old.labels.keys

  -- where it stands, or will stand
  abbrev own_place : ℕ
  own_place = position_or_len (nat_eq label) old.labels.keys

  -- there are as many labels as outcomes
  as_many : length old.labels.keys ≡ length old.list.items
  as_many = ap length are.labels_are ∙ length-map old.list.items label_of

  -- an outcome stands where its label does
  place_is : outcome_place (partial_outcomes old) label ≡ own_place
  place_is =
      position-map (λ outcome. nat_eq label outcome.label) partial_outcome old.list.items
      ∙ sym (position-map (nat_eq label) label_of old.list.items) ∙ ap (position_or_len (nat_eq label)) (sym are.labels_are)

  -- ---- a first use
  module _ (new : is_known ≡ false) where
    -- no outcome stands there
    nothing_there : slice_get (partial_outcomes old) (outcome_place (partial_outcomes old) label) ≡ None
    nothing_there =
        let last : own_place ≡ length old.labels.keys = position-none (nat_eq label) old.labels.keys new in
        let past : length (partial_outcomes old) ≤ outcome_place (partial_outcomes old) label = omega (arith, last, place_is, as_many, length-map old.list.items partial_outcome) in
        slice_get_past (partial_outcomes old) (outcome_place (partial_outcomes old) label) past

    -- the outcomes are kept, with the new one
    pub first_kept : (after : Kept) (one : KeptOutcome) → after.labels.keys ≡ insert_key nat_eq old.labels.keys label → after.list.items ≡ old.list.items ++ one ∷ [] → one.label ≡ label → AreOutcomes after
    first_kept after one keys list own =
        let labels : insert_key nat_eq old.labels.keys label ≡ map label_of old.list.items ++ one.label ∷ [] = insert_key-new nat_eq Decides-eqb old.labels.keys label new ∙ ap₂ (λ front l. front ++ l ∷ []) are.labels_are (sym own) in
        record { labels_are = keys ∙ labels ∙ sym (map-append label_of old.list.items (one ∷ [])) ∙ ap (map label_of) (sym list) }

    module _ (name : Option (List ℕ)) (tokens following : List Token) (text : (name, following) ≡ optional_text_at tokens) where
      -- a first use begins an outcome
      first_is : parse_named players label (partial_outcomes old) tokens ≡ chain {B = (List PartialOutcome × Option ℕ) × List Token} (parse_outcome_use players (partial_outcomes old) (bare_outcome_use label name) None following) (λ more. Ok ((more.0, Some own_place), more.1))
      first_is =
          step_is players label (partial_outcomes old) name tokens following text
          ∙ ap₂ (λ (found : Option PartialOutcome) (p : ℕ). chain {B = (List PartialOutcome × Option ℕ) × List Token} (parse_outcome_use players (partial_outcomes old) (bare_outcome_use label name) found following) (λ more. Ok ((more.0, Some p), more.1))) nothing_there place_is

      -- it is refused without its payoffs
      pub first_refused : (stopped : PartStop EfgKind) → IsPartStop stopped (parse_first_payoffs players following) → IsPartStop stopped (parse_named players label (partial_outcomes old) tokens)
      first_refused stopped r = rw first_is (refused_first stopped _ _ (refused_first stopped (parse_first_payoffs players following) _ r))

      -- with them the new outcome is read
      pub first_used : (list : List KeptOutcome) (one : KeptOutcome) (place : ℕ) (rest : List Token) → place ≡ own_place → list ≡ old.list.items ++ one ∷ [] → one.label ≡ label → one.name ≡ name → parse_first_payoffs players following ≡ Ok (one.payoffs.items, rest)
          → parse_named players label (partial_outcomes old) tokens ≡ Ok ((map partial_outcome list, Some place), rest)
      first_used list one place rest at_place longer own named h =
          let is : record { label = label; name = name; payoffs = one.payoffs.items } ≡ partial_outcome one = λ i. record { label = sym own i; name = sym named i; payoffs = one.payoffs.items } in
          let all : map partial_outcome list ≡ partial_outcomes old ++ partial_outcome one ∷ [] = ap (map partial_outcome) longer ∙ map-append partial_outcome old.list.items (one ∷ []) in
          let read : parse_named players label (partial_outcomes old) tokens ≡ Ok ((partial_outcomes old ++ record { label = label; name = name; payoffs = one.payoffs.items } ∷ [], Some own_place), rest) = first_is ∙ rw h refl in
          read ∙ ap₂ (λ (o : PartialOutcome) (p : ℕ). Ok ((partial_outcomes old ++ o ∷ [], Some p), rest)) is (sym at_place) ∙ ap (λ (outcomes : List PartialOutcome). Ok ((outcomes, Some place), rest)) (sym all)

  -- ---- a later use
  module _ (known : is_known ≡ true) (before : KeptOutcome) (place : ℕ) (at_place : place ≡ own_place) (stands : before ≡ get_or old.list.items place before) where
    -- the place lies within the list
    inside : place < length old.list.items
    inside = omega (arith, as_many, at_place, place_within (nat_eq label) old.labels.keys known)

    -- the outcome stands there
    stands_there : slice_get (partial_outcomes old) (outcome_place (partial_outcomes old) label) ≡ Some (partial_outcome before)
    stands_there =
        let inside_too : place < length (partial_outcomes old) = omega (arith, inside, length-map old.list.items partial_outcome) in
        ap (slice_get (partial_outcomes old)) (place_is ∙ sym at_place) ∙ slice_get-get_or (partial_outcomes old) place (partial_outcome before) inside_too
        ∙ ap Some (get_or-map partial_outcome old.list.items place before (partial_outcome before) inside ∙ ap partial_outcome (sym stands))

    -- the outcomes are kept, with the one that goes on
    pub later_kept : (later : Kept) (after : KeptOutcome) → later.labels.keys ≡ insert_key nat_eq old.labels.keys label → later.list.items ≡ slice_set old.list.items place after → after.label ≡ before.label → AreOutcomes later
    later_kept later after keys list own =
        let labels : map label_of (slice_set old.list.items place after) ≡ map label_of old.list.items = map-set_same label_of old.list.items place after before (own ∙ ap label_of stands) in
        record { labels_are = keys ∙ insert_key-known nat_eq Decides-eqb old.labels.keys label known ∙ are.labels_are ∙ sym labels ∙ ap (map label_of) (sym list) }

    module _ (name : Option (List ℕ)) (tokens following : List Token) (text : (name, following) ≡ optional_text_at tokens) where
      -- a later use goes on with it
      later_is : parse_named players label (partial_outcomes old) tokens ≡ chain {B = (List PartialOutcome × Option ℕ) × List Token} (parse_outcome_use players (partial_outcomes old) (bare_outcome_use label name) (Some (partial_outcome before)) following) (λ more. Ok ((more.0, Some (outcome_place (partial_outcomes old) label)), more.1))
      later_is =
          step_is players label (partial_outcomes old) name tokens following text
          ∙ ap (λ (found : Option PartialOutcome). chain {B = (List PartialOutcome × Option ℕ) × List Token} (parse_outcome_use players (partial_outcomes old) (bare_outcome_use label name) found following) (λ more. Ok ((more.0, Some (outcome_place (partial_outcomes old) label)), more.1))) stands_there

      -- it is refused with other payoffs
      pub later_refused : (stopped : PartStop EfgKind) → IsPartStop stopped (parse_later_payoffs before.payoffs.items following) → IsPartStop stopped (parse_named players label (partial_outcomes old) tokens)
      later_refused stopped r = rw later_is (refused_first stopped _ _ (refused_first stopped (parse_later_payoffs before.payoffs.items following) _ r))

      -- with the same payoffs, or none, the outcome that goes on is read
      pub later_used : (after : KeptOutcome) (rest : List Token) → after.label ≡ before.label → after.name ≡ option_or before.name name → after.payoffs.items ≡ before.payoffs.items → parse_later_payoffs before.payoffs.items following ≡ Ok (tt, rest)
          → parse_named players label (partial_outcomes old) tokens ≡ Ok ((map partial_outcome (slice_set old.list.items place after), Some place), rest)
      later_used after rest own named paid h =
          let is : record { label = before.label; name = option_or before.name name; payoffs = before.payoffs.items } ≡ partial_outcome after = λ i. record { label = sym own i; name = sym named i; payoffs = sym paid i } in
          let read : parse_named players label (partial_outcomes old) tokens ≡ Ok ((slice_set (partial_outcomes old) (outcome_place (partial_outcomes old) label) (record { label = before.label; name = option_or before.name name; payoffs = before.payoffs.items }), Some (outcome_place (partial_outcomes old) label)), rest) = later_is ∙ rw h refl in
          read ∙ ap₂ (λ (o : PartialOutcome) (p : ℕ). Ok ((slice_set (partial_outcomes old) p o, Some p), rest)) is (place_is ∙ sym at_place) ∙ ap (λ (outcomes : List PartialOutcome). Ok ((outcomes, Some place), rest)) (sym (map-set partial_outcome old.list.items place after))
