-- The players' sets: which they are, none stands twice, and the entries of choices at them.
use Rattle.std.proofs.Common.{ℕ, zero, suc, ◌+◌, ◌<◌, ◌≤◌, ◌≡◌, ◌⊎◌, inl, inr, Bool, true, false, Some, List, [], ◌∷◌, ◌++◌, All, length, map, get_or, refl, sym, ap, ◌∙◌, arith}
use Rattle.std.specs.Prelude.{◌||◌}
use Rattle.std.specs.List.{AllByRecursion, IsDistinct, flat_map, list_any, range_with_len}
use Rattle.std.proofs.Math.Dec.{eqb}
use Rattle.std.proofs.lemmas.Bool.{cases_Bool, cases_eq, eqb-true}
use Rattle.std.proofs.lemmas.Map.Steps.{length-le_from_distinct_below}
use Rattle.game_theory.specs.Behaviour.{IsWholeChoice, pure}
use Rattle.game_theory.specs.Lines.{entries, listed}
use Rattle.game_theory.specs.Mixed.{sure, pure as pure_profile}
use Rattle.game_theory.specs.OwnSets.{own_sets, player_sets}
use Rattle.game_theory.specs.Profiles.{IsProfile}
use Rattle.game_theory.specs.TreeEntries.{entries_at, tree_entries}
use Rattle.game_theory.specs.Trees.{Tree, IsTree}
use Rattle.game_theory.proofs.OwnSetLemmas.{AreApart, AreApart-append, AreApart-ascending, IsAmong, IsAmong-left, IsAmong-parts, IsAmong-right, among_at, own_sets-ascend, own_sets-has, own_sets-tell}

-- ---- which sets they are
-- the own sets of n players from player i on
abbrev pub sets_from : Tree → ℕ → ℕ → List ℕ
sets_from t i n = flat_map (own_sets t) (range_with_len i n)

-- each own set of these players is one of the sets
sets_from-has : (t : Tree) (i n s j : ℕ) → s < t.sets → t.owner s ≡ Some j → i ≤ j → j < i + n → IsAmong (sets_from t i n) s
sets_from-has t i zero s j l o a b = absurd (omega arith)
sets_from-has t i (suc n) s j l o a b =
    elim (cases_eq i j) [
      | inl e ↦ IsAmong-left (own_sets t i) (sets_from t (i + 1) n) s (own_sets-has t i s l (o ∙ ap Some (sym e)))
      | inr e ↦ IsAmong-right (own_sets t i) (sets_from t (i + 1) n) s (sets_from-has t (i + 1) n s j l o (omega arith) (omega arith))
    ]

-- a set of a player is one of the players' sets
pub player_sets-has : (t : Tree) (s i : ℕ) → IsTree t → s < t.sets → t.owner s ≡ Some i → IsAmong (player_sets t) s
player_sets-has t s i w l o = sets_from-has t 0 t.players s i l o (omega arith) (omega (arith, w.owners_within s i l o))

-- set s has an owner, who is player i or a later one
record IsOwnedFrom (t : Tree) (i s : ℕ) : Type 0 where
  player : ℕ
  later : i ≤ player
  within : s < t.sets
  owner : t.owner s ≡ Some player

-- each of the sets is one of these players'
sets_from-tell : (t : Tree) (i n s : ℕ) → IsAmong (sets_from t i n) s → IsOwnedFrom t i s
sets_from-tell t i zero s m = absurd m
sets_from-tell t i (suc n) s m =
    elim (IsAmong-parts (own_sets t i) (sets_from t (i + 1) n) s m) [
      | inl a ↦ (let own = own_sets-tell t i s a in record { player = i; later = omega arith; within = own.0; owner = own.1 })
      | inr b ↦ (let rest = sets_from-tell t (i + 1) n s b in record { player = rest.player; later = omega (arith, rest.later); within = rest.within; owner = rest.owner })
    ]

-- one of the players' sets is a set of a player
pub player_sets-tell : (t : Tree) (s : ℕ) → IsAmong (player_sets t) s → (i : ℕ) × (s < t.sets) × (t.owner s ≡ Some i)
player_sets-tell t s m = let owned = sets_from-tell t 0 t.players s m in (owned.player, owned.within, owned.owner)

-- the players' sets are sets
pub player_sets-within : (t : Tree) → All (λ s. s < t.sets) (player_sets t)
player_sets-within t k d below = (player_sets-tell t (get_or (player_sets t) k d) (among_at (player_sets t) k d below)).1

-- ---- none stands twice
-- one set has one owner
one_owner : (t : Tree) (s i j : ℕ) → t.owner s ≡ Some i → t.owner s ≡ Some j → i ≡ j
one_owner t s i j e f = cc

-- the sets of players
sets_from-apart : (t : Tree) (i n : ℕ) → AreApart (sets_from t i n)
sets_from-apart t i zero = tt
sets_from-apart t i (suc n) =
    AreApart-append (own_sets t i) (sets_from t (i + 1) n) (AreApart-ascending 0 (own_sets t i) (own_sets-ascend t i)) (sets_from-apart t (i + 1) n) (λ s a b.
    let rest = sets_from-tell t (i + 1) n s b in
    omega (arith, rest.later, one_owner t s i rest.player (own_sets-tell t i s a).1 rest.owner))

pub player_sets-apart : (t : Tree) → AreApart (player_sets t)
player_sets-apart t = sets_from-apart t 0 t.players

-- sets that differ from one another
distinct_sets : (sets : List ℕ) → AreApart sets → IsDistinct eqb sets
unfolding IsDistinct
distinct_sets [] a = tt
distinct_sets (set ∷ sets) a = (others sets a.0, distinct_sets sets a.1)
  where
    others : (sets : List ℕ) → (IsAmong sets set → ⊥) → AllByRecursion (λ s. eqb set s ≡ false) sets
    others [] none = tt
    others (s ∷ sets) none = (elim (cases_Bool (eqb set s)) [ inl e ↦ absurd (none (inl (sym (eqb-true set s e)))) | inr e ↦ e ], others sets (λ m. none (inr m)))

-- a set that a test finds is one of them
found_set : (sets : List ℕ) (s : ℕ) → list_any (eqb s) sets ≡ true → IsAmong sets s
found_set [] s e = absurd (cc)
found_set (set ∷ sets) s e = go (eqb s set) refl e (found_set sets s)
  where
    go : (b : Bool) → eqb s set ≡ b → b || list_any (eqb s) sets ≡ true → (list_any (eqb s) sets ≡ true → IsAmong sets s) → (set ≡ s) ⊎ IsAmong sets s
    go true h found later = inl (sym (eqb-true s set h))
    go false h found later = inr (later found)

-- the players' sets are at most as many as all sets
pub few_player_sets : (t : Tree) → length (player_sets t) ≤ t.sets
few_player_sets t =
    length-le_from_distinct_below (player_sets t) t.sets (distinct_sets (player_sets t) (player_sets-apart t)) (λ s e. (player_sets-tell t s (found_set (player_sets t) s e)).1)

-- ---- the entries of choices
-- at these sets they are those of a profile in which each set is a player
entries_at-profile : (t : Tree) (choice : ℕ → ℕ) (sets : List ℕ) → entries_at t (pure choice) sets ≡ entries (map t.actions sets) (pure_profile (map choice sets))
entries_at-profile t choice [] = refl
entries_at-profile t choice (set ∷ sets) = ap (λ x. listed (t.actions set) (sure (choice set)) ++ x) (entries_at-profile t choice sets)

-- the entries of choices are those of a profile in which each set is a player
pub tree_entries-profile : (t : Tree) (choice : ℕ → ℕ) → tree_entries t (pure choice) ≡ entries (map t.actions (player_sets t)) (pure_profile (map choice (player_sets t)))
tree_entries-profile t choice = entries_at-profile t choice (player_sets t)

-- actions at sets are such a profile
IsProfile-choices : (t : Tree) (choice : ℕ → ℕ) (sets : List ℕ) → ((s : ℕ) → IsAmong sets s → choice s < t.actions s) → IsProfile (map t.actions sets) (map choice sets)
IsProfile-choices t choice [] h = tt
IsProfile-choices t choice (set ∷ sets) h = (h set (inl refl), IsProfile-choices t choice sets (λ s m. h s (inr m)))

-- so are actions at the players' sets
pub IsProfile-whole : (t : Tree) (choice : ℕ → ℕ) → IsWholeChoice t choice → IsProfile (map t.actions (player_sets t)) (map choice (player_sets t))
IsProfile-whole t choice h =
    IsProfile-choices t choice (player_sets t) (λ s m. let p = player_sets-tell t s m in h p.0 s p.1 p.2)
