-- The nodes that name each set, one node after another.
use Rattle.std.proofs.Common.{ℕ, ◌+◌, ◌<◌, ◌≡◌, inl, inr, Option, Some, None, List, [], ◌∷◌, ◌++◌, length, get_or, map, replicate, set, take, refl, sym, ap, ◌∙◌, subst, arith}
use Rattle.std.proofs.lemmas.Bool.{cases_eq, eqb-true, eq-eqb, false_from_ne_true}
use Rattle.std.proofs.lemmas.List.{get_or-replicate, get_or-set_other, get_or-set_same, length-map, length-replicate, length-set, length-take-le, map-set, take_more}
use Rattle.lists.proofs.ElementLemmas.{part-read}
use Rattle.game_theory.specs.Behaviour.{is_index}
use Rattle.game_theory.specs.OwnSets.{places_with}
use Rattle.game_theory.proofs.IndexLemmas.{places_with-last, places_with-other}
use Rattle.subgames.specs.CutParts.{AreMemberLists}

-- none at first
pub members-start : (count : ℕ) (lists : List (List ℕ)) → lists ≡ replicate count [] → AreMemberLists [] count lists
members-start count lists are = record {
  one_for_each = ap length are ∙ length-replicate count [];
  are = λ r below. ap (λ xs. get_or xs r []) are ∙ get_or-replicate count r [] [] below;
}

module _ (names : List (Option ℕ)) (k count : ℕ) (lists : List (List ℕ)) (below : k < length names) (h : AreMemberLists (take k names) count lists) where
  -- one more node that names no set
  pub members-none : get_or names k None ≡ None → AreMemberLists (take (k + 1) names) count lists
  members-none is = record {
    one_for_each = h.one_for_each;
    are = λ r inside. h.are r inside
        ∙ sym (places_with-other (λ (name : Option ℕ). name) (take k names) (get_or names k None) r (ap (λ o. is_index o r) is))
        ∙ ap (λ xs. places_with (λ (name : Option ℕ). name) xs r) (sym (take_more names k None below));
  }

  -- one more node that names set s, whose list takes its number
  pub members-some : (s : ℕ) (list : List ℕ) → get_or names k None ≡ Some s → s < count → list ≡ get_or lists s [] ++ k ∷ [] → AreMemberLists (take (k + 1) names) count (set lists s list)
  members-some s list is within pushed = record {
    one_for_each = length-set lists s list ∙ h.one_for_each;
    are = λ r inside. after r inside ∙ ap (λ xs. places_with (λ (name : Option ℕ). name) xs r) (sym (take_more names k None below));
  }
    where
      counted : length (take k names) ≡ k
      counted = length-take-le k names (omega arith)

      after : (r : ℕ) → r < count → get_or (set lists s list) r [] ≡ places_with (λ (name : Option ℕ). name) (take k names ++ get_or names k None ∷ []) r
      after r inside = elim (cases_eq r s) [
        | inl same ↦
            ap (λ x. get_or (set lists s list) x []) same ∙ get_or-set_same lists s list [] (omega (arith, within, h.one_for_each)) ∙ pushed
            ∙ ap (λ xs. xs ++ k ∷ []) (h.are s within) ∙ ap (λ n. places_with (λ (name : Option ℕ). name) (take k names) s ++ n ∷ []) (sym counted)
            ∙ sym (places_with-last (λ (name : Option ℕ). name) (take k names) (get_or names k None) s (ap (λ o. is_index o s) is ∙ eq-eqb s s refl))
            ∙ ap (places_with (λ (name : Option ℕ). name) (take k names ++ get_or names k None ∷ [])) (sym same)
        | inr other ↦
            get_or-set_other lists s r list [] other ∙ h.are r inside
            ∙ sym (places_with-other (λ (name : Option ℕ). name) (take k names) (get_or names k None) r (ap (λ o. is_index o r) is ∙ false_from_ne_true _ (λ e. other (sym (eqb-true s r e)))))
      ]

-- a list that takes one more number, where each list is part of something else
pub pushed-at : {V : Type 0} (f : V → List ℕ) (lists : List V) (s x : ℕ) (old new : V) → s < length lists → old ≡ get_or lists s old → f new ≡ f old ++ x ∷ [] → f new ≡ get_or (map f lists) s [] ++ x ∷ []
pushed-at f lists s x old new inside old_is new_is = new_is ∙ ap (λ v. v ++ x ∷ []) (part-read f lists s old [] inside old_is)

-- the same of a node that names a set
pub members-some_of : {V : Type 0} (f : V → List ℕ) (names : List (Option ℕ)) (k count s : ℕ) (lists : List V) (old new : V) → k < length names → get_or names k None ≡ Some s → s < count
    → old ≡ get_or lists s old → f new ≡ f old ++ k ∷ [] → AreMemberLists (take k names) count (map f lists) → AreMemberLists (take (k + 1) names) count (map f (set lists s new))
members-some_of f names k count s lists old new below is within old_is new_is h =
    let long : length (map f lists) ≡ length lists = length-map lists f in
    let inside : s < length lists = omega (arith, within, h.one_for_each, long) in
    let pushed = pushed-at f lists s k old new inside old_is new_is in
    subst (AreMemberLists (take (k + 1) names) count) (sym (map-set f lists s new)) (members-some names k count (map f lists) below h s (f new) is within pushed)
