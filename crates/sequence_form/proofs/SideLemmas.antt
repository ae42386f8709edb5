-- A player's side of a tree as data.
use Rattle.std.proofs.Common.{ℕ, ◌+◌, ◌<◌, ◌≡◌, Some, length, map, get_or, refl, sym, ap, ◌∙◌, arith}
use Rattle.std.proofs.lemmas.List.{length-map, get_or-map}
use Rattle.std.proofs.lemmas.List.FromFn.{fill_by_all}
use Rattle.std.proofs.lemmas.Simd.{map-map}
use Rattle.game_theory.specs.Trees.{Tree, IsTree}
use Rattle.game_theory.specs.OwnSets.{own_sets}
use Rattle.sequence_forms.specs.Alike.{SidesAlike}
use Rattle.sequence_forms.specs.Sequences.{sequence, sequence_before, side_of}
use Rattle.sequence_forms.specs.Sides.{first, IsOrderedSide}
use Rattle.sequence_forms.proofs.AlikeFormLemmas.{same_plans}
use Rattle.sequence_forms.proofs.ListLemmas.{listed_side}
use Rattle.sequence_forms.proofs.SignLemmas.{last_sequences}
use Rattle.sequence_data.specs.Data.{SideData, IsSideData, side_of as data_side}
use Rattle.sequence_form.specs.Sequences.{own_set_row, tree_side}

-- the sets of a side as lists
pub befores : (t : Tree) (i : ℕ) (s : SideData) → s ≡ tree_side t i → map (λ r. r.before) s.sets ≡ map (sequence_before t i) (own_sets t i)
befores t i s is = ap (λ (d : SideData). map (λ r. r.before) d.sets) is ∙ map-map (λ r. r.before) (own_set_row t i) (own_sets t i)

pub counts : (t : Tree) (i : ℕ) (s : SideData) → s ≡ tree_side t i → map (λ r. r.count) s.sets ≡ map t.actions (own_sets t i)
counts t i s is = ap (λ (d : SideData). map (λ r. r.count) d.sets) is ∙ map-map (λ r. r.count) (own_set_row t i) (own_sets t i)

module _ (t : Tree) (i : ℕ) (w : IsTree t) where
  alike : SidesAlike (data_side (tree_side t i)) (side_of t i)
  alike = listed_side t i _ _ (befores t i (tree_side t i) refl) (counts t i (tree_side t i) refl)

  -- the first sequences
  first-row : (k : ℕ) → k < length (own_sets t i) → get_or (map (λ r. r.first) (tree_side t i).sets) k 0 ≡ first (data_side (tree_side t i)) k
  first-row k h =
      let within : k < (data_side (tree_side t i)).sets = omega (arith, h, alike.sets) in
      let plus : first (side_of t i) k + 0 ≡ first (side_of t i) k = omega arith in
      ap (λ xs. get_or xs k 0) (map-map (λ r. r.first) (own_set_row t i) (own_sets t i)) ∙ get_or-map (λ s. sequence t i (Some (s, 0))) (own_sets t i) k 0 0 h ∙ (last_sequences t i w).numbered k 0 h ∙ plus
      ∙ sym ((same_plans (data_side (tree_side t i)) (side_of t i) alike).first_is k within)

  -- the side is one
  pub side-is_data : IsOrderedSide (side_of t i) → IsSideData (tree_side t i)
  side-is_data order = record {
    firsts_are = fill_by_all (first (data_side (tree_side t i))) (map (λ r. r.first) (tree_side t i).sets) (length (tree_side t i).sets) 0 (length-map (tree_side t i).sets (λ r. r.first)) (λ k h. first-row k (omega (arith, h, length-map (own_sets t i) (own_set_row t i))));
    sequences_are = sym (same_plans (data_side (tree_side t i)) (side_of t i) alike).sequences_are;
    ordered = record {
      follows = λ j h. omega (arith, alike.before j h, (same_plans (data_side (tree_side t i)) (side_of t i) alike).first_is j h, order.follows j (omega (arith, h, alike.sets)));
      some_action = λ j h. omega (arith, alike.count j h, order.some_action j (omega (arith, h, alike.sets)));
    };
  }
