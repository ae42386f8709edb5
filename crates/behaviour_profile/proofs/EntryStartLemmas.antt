-- Where the entries of sets begin, and that the entries of behaviour stand there.
use Rattle.std.proofs.Common.{ℕ, zero, suc, ◌+◌, ◌<◌, ◌≤◌, ◌≡◌, inl, inr, Some, List, [], ◌∷◌, ◌++◌, length, map, get_or, set, slice_get, take, sym, ap, ap₂, ◌∙◌, subst, append_assoc, length-append, add-one, arith}
use Rattle.std.specs.Prelude.{option_map, sum}
use Rattle.std.proofs.lemmas.Bool.{cases_lt}
use Rattle.std.proofs.lemmas.List.{append-nil, get_or_append_left, get_or_at, get_or-set_same, get_or-set_other, length-map, length-set, map-append, take_all, take-append-le, take-map}
use Rattle.std.proofs.lemmas.Option.{slice_get-get_or, slice_get-map}
use Rattle.rational.specs.Rational.{ℚ}
use Rattle.rational.specs.Sum.{entry_at}
use Rattle.game_theory.specs.Trees.{Tree, IsTree}
use Rattle.game_theory.specs.Behaviour.{Behaviour}
use Rattle.game_theory.specs.OwnSets.{action_counts, own_counts, own_sets, player_sets}
use Rattle.game_theory.specs.TreeEntries.{tree_entries}
use Rattle.game_theory.proofs.OwnSetLemmas.{AscendFrom, IsAmong, IsAmong-from, IsAmong-parts, among_at, index_of, own_sets-ascend, own_sets-tell}
use Rattle.game_theory.proofs.PlayerSetLemmas.{player_sets-has}
use Rattle.game_theory.proofs.ProfileLineLemmas.{entries-injective, length-entries}
use Rattle.lists.proofs.ElementLemmas.{made-next}
use Rattle.behaviour_profile.specs.EntryStarts.{AreStarts, AreStartsOf, sets_below}
use Rattle.behaviour_profile.specs.EntryTests.{mixed_of}
use Rattle.behaviour_profile.proofs.BehaviourEntryLemmas.{among-place}
use Rattle.behaviour_profile.proofs.GroupListLemmas.{end-within, sum-append, sum-cons, sum-nil, taken}
use Rattle.behaviour_profile.proofs.TestedBehaviourLemmas.{all_entries, below-tells, by_place, count-at, counts-long}
use Rattle.behaviour_profile.proofs.TestedEntryLemmas.{entries-mixed_of}
use Rattle.behaviour_profile.proofs.TreeGroupLemmas.{total-within}

-- ---- one set after another
module _ (t : Tree) (sets : List ℕ) (s : ℕ) where
  -- the actions of one set more
  sum-more : sum (map t.actions (sets ++ s ∷ [])) ≡ sum (map t.actions sets) + t.actions s
  sum-more =
      ap sum (map-append t.actions sets (s ∷ [])) ∙ sum-append (map t.actions sets) (t.actions s ∷ [])
      ∙ omega (arith, sum-cons (t.actions s) [], sum-nil)

  -- those of the sets before one are the same
  take-more : (k : ℕ) → k ≤ length sets → take k (map t.actions sets) ≡ take k (map t.actions (sets ++ s ∷ []))
  take-more k l =
      sym (ap (take k) (map-append t.actions sets (s ∷ [])) ∙ take-append-le k (map t.actions sets) (t.actions s ∷ []) (omega (arith, l, length-map sets t.actions)))

  -- the start of one set more
  module _ (i next : ℕ) (starts : List ℕ) (h : AreStartsOf t sets starts) (next_is : next ≡ sum (map t.actions sets)) (apart : IsAmong sets s → ⊥) (below : s < t.sets) (own : t.owner s ≡ Some i) where
    starts-more : AreStartsOf t (sets ++ s ∷ []) (set starts s next)
    starts-more = record {
      long = length-set starts s next ∙ h.long;
      stand = λ k l. elim (cases_lt k (length sets)) [
        | inl earlier ↦ there k earlier
        | inr last ↦ here k (omega (arith, l, last, length-append sets (s ∷ [])))
      ];
      chance = λ r l none. get_or-set_other starts s r next 0 (λ same. (let owner : t.owner r ≡ t.owner s = ap t.owner same in cc)) ∙ h.chance r l none;
    }
      where
        there : (k : ℕ) → k < length sets → get_or (set starts s next) (get_or (sets ++ s ∷ []) k 0) 0 ≡ sum (take k (map t.actions (sets ++ s ∷ [])))
        there k l =
            ap (λ r. get_or (set starts s next) r 0) (get_or_append_left sets (s ∷ []) 0 k l)
            ∙ get_or-set_other starts s (get_or sets k 0) next 0 (λ same. apart (subst (IsAmong sets) same (among_at sets k 0 l)))
            ∙ h.stand k l ∙ ap sum (take-more k (omega (arith, l)))

        here : (k : ℕ) → k ≡ length sets → get_or (set starts s next) (get_or (sets ++ s ∷ []) k 0) 0 ≡ sum (take k (map t.actions (sets ++ s ∷ [])))
        here k last =
            ap (λ r. get_or (set starts s next) r 0) (get_or_at sets s [] 0 k (sym last))
            ∙ get_or-set_same starts s next 0 (omega (arith, below, h.long)) ∙ next_is
            ∙ ap sum (sym (take_all k (map t.actions sets) (omega (arith, last, length-map sets t.actions))) ∙ take-more k (omega (arith, last)))

-- ---- a player's sets
-- of ascending sets none stands before its place
not-before : (n : ℕ) (sets : List ℕ) (place s : ℕ) → AscendFrom n sets → slice_get sets place ≡ Some s → IsAmong (take place sets) s → ⊥
not-before n [] place s o at among = cc
not-before n (x ∷ sets) zero s o at among = among
not-before n (x ∷ sets) (suc place) s o at (inl same) = absurd (omega (arith, same, IsAmong-from (suc x) sets s o.1 (among-place sets place s at)))
not-before n (x ∷ sets) (suc place) s o at (inr among) = not-before (suc x) sets place s o.1 at among

-- the sets of the players before player i, and the first of this player's own
abbrev pub sets_to : Tree → ℕ → ℕ → List ℕ
sets_to t i place = sets_below t i ++ take place (own_sets t i)

-- with none of them
pub sets_to-none : (t : Tree) (i : ℕ) → sets_to t i 0 ≡ sets_below t i
sets_to-none t i = append-nil (sets_below t i)

-- with all of them
pub sets_to-all : (t : Tree) (i place : ℕ) → take place (own_sets t i) ≡ own_sets t i → sets_to t i place ≡ sets_below t (i + 1)
sets_to-all t i place all =
    ap (λ sets. sets_below t i ++ sets) all ∙ sym (ap (sets_below t) (add-one i) ∙ made-next (own_sets t) i)

module _ (t : Tree) (i place s : ℕ) (at : slice_get (own_sets t i) place ≡ Some s) where
  -- with one more
  sets_to-next : sets_to t i (place + 1) ≡ sets_to t i place ++ s ∷ []
  sets_to-next =
      ap (λ sets. sets_below t i ++ sets) (taken (own_sets t i) place s at) ∙ sym (append_assoc (sets_below t i) (take place (own_sets t i)) (s ∷ []))

  own : (s < t.sets) × (t.owner s ≡ Some i)
  own = own_sets-tell t i s (among-place (own_sets t i) place s at)

  -- it is none of those before
  set-apart : IsAmong (sets_to t i place) s → ⊥
  set-apart among =
      elim (IsAmong-parts (sets_below t i) (take place (own_sets t i)) s among) [
        | inl earlier ↦ (let before = below-tells t i s earlier in
            let owner = own.1 in
            let same : before.0 ≡ i = cc in
            absurd (omega (arith, same, before.1)))
        | inr now ↦ not-before 0 (own_sets t i) place s (own_sets-ascend t i) at now
      ]

  -- its start is written
  pub starts-next : (starts : List ℕ) (next : ℕ) → AreStartsOf t (sets_to t i place) starts → next ≡ sum (map t.actions (sets_to t i place)) → AreStartsOf t (sets_to t i (place + 1)) (set starts s next)
  starts-next starts next h next_is =
      subst (λ sets. AreStartsOf t sets (set starts s next)) (sym sets_to-next) (starts-more t (sets_to t i place) s i next starts h next_is set-apart own.0 own.1)

  -- the next start is past its actions
  pub next-start : (next : ℕ) → next ≡ sum (map t.actions (sets_to t i place)) → next + t.actions s ≡ sum (map t.actions (sets_to t i (place + 1)))
  next-start next next_is =
      (let more : next + t.actions s ≡ sum (map t.actions (sets_to t i place ++ s ∷ [])) = omega (arith, next_is, sum-more t (sets_to t i place) s) in
      more ∙ ap (λ sets. sum (map t.actions sets)) (sym sets_to-next))

  -- and not past all actions
  pub next-within : i < t.players → sum (map t.actions (sets_to t i place)) + t.actions s ≤ sum (action_counts t)
  next-within l =
      let counted = slice_get-map t.actions (own_sets t i) place ∙ ap (option_map t.actions) at in
      let both = ap sum (map-append t.actions (sets_below t i) (take place (own_sets t i))) ∙ sum-append (map t.actions (sets_below t i)) (map t.actions (take place (own_sets t i))) in
      let first = ap sum (take-map t.actions place (own_sets t i)) in
      omega (arith, both, first, end-within (own_counts t i) place (t.actions s) counted, total-within t i l)

-- ---- the entries of behaviour
-- those of a set stand after those of the sets before it
entry_at-place : (t : Tree) (b : Behaviour) (k a : ℕ) → k < length (player_sets t) → a < t.actions (get_or (player_sets t) k 0) → entry_at (tree_entries t b) (sum (take k (action_counts t)) + a) ≡ b (get_or (player_sets t) k 0) a
entry_at-place t b k a l m =
    let sizes = action_counts t in
    let entries_are = all_entries t b in
    let long = ap length entries_are ∙ length-entries sizes (by_place t b (player_sets t)) in
    entries-injective sizes (mixed_of sizes (tree_entries t b)) (by_place t b (player_sets t)) (entries-mixed_of sizes (tree_entries t b) long ∙ entries_are) k a
    (omega (arith, l, counts-long t)) (subst (λ n. a < n) (sym (count-at t k l)) m)

module _ (t : Tree) (w : IsTree t) (s i : ℕ) (below : s < t.sets) (own : t.owner s ≡ Some i) where
  -- the place of a player's set among those of all players
  pub set-place : (k : ℕ) × (k < length (player_sets t)) × (get_or (player_sets t) k 0 ≡ s)
  set-place = index_of (player_sets t) s (player_sets-has t s i w below own)

  -- the place of its first entry
  abbrev pub first_entry : ℕ
  first_entry = sum (take set-place.0 (action_counts t))

  -- its entries are there
  pub entries-within : (b : Behaviour) → first_entry + t.actions s ≤ length (tree_entries t b)
  entries-within b =
      let k = set-place.0 in
      let sizes = action_counts t in
      let within : k < length sizes = omega (arith, set-place.1, counts-long t) in
      let counted = slice_get-get_or sizes k 0 within ∙ ap Some (count-at t k set-place.1 ∙ ap t.actions set-place.2) in
      let long = ap length (all_entries t b) ∙ length-entries sizes (by_place t b (player_sets t)) in
      omega (arith, long, end-within sizes k (t.actions s) counted)

  -- and they are the behaviour's
  pub entries-read : (b : Behaviour) (a : ℕ) → a < t.actions s → entry_at (tree_entries t b) (first_entry + a) ≡ b s a
  entries-read b a l =
      entry_at-place t b set-place.0 a set-place.1 (subst (λ r. a < t.actions r) (sym set-place.2) l) ∙ ap (λ r. b r a) set-place.2

  -- the set's start is this place
  pub start-is : (starts : List ℕ) → AreStarts t starts → get_or starts s 0 ≡ first_entry
  start-is starts h = ap (λ r. get_or starts r 0) (sym set-place.2) ∙ h.stand set-place.0 set-place.1

module _ (t : Tree) (starts : List ℕ) (entries : List ℚ) (b : Behaviour) (w : IsTree t) (h : AreStarts t starts) (is : entries ≡ tree_entries t b) where
  -- the entries of a set are there
  pub starts-within : (s i : ℕ) → s < t.sets → t.owner s ≡ Some i → get_or starts s 0 + t.actions s ≤ length entries
  starts-within s i l o = omega (arith, entries-within t w s i l o b, start-is t w s i l o starts h, ap length is)

  -- and they are the behaviour's
  pub starts-read : (s i a : ℕ) → s < t.sets → t.owner s ≡ Some i → a < t.actions s → entry_at entries (get_or starts s 0 + a) ≡ b s a
  starts-read s i a l o m = ap₂ (λ list start. entry_at list (start + a)) is (start-is t w s i l o starts h) ∙ entries-read t w s i l o b a m
