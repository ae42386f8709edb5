-- All pairs are exactly the pairs, in ascending order
use Rattle.std.proofs.Common.{ℕ, zero, suc, ◌<◌, ◌≡◌, ◌≢◌, ◌⊎◌, inl, inr, Bool, true, false, cond, nat_eq, ◌&&◌, ◌↔◌, List, [], ◌∷◌, All, length, map, get_or, refl, sym, ap, ◌∙◌, subst, subst₂, arith, tests}
use Rattle.std.specs.Prelude.{Contains}
use Rattle.std.specs.List.{AllPairs, filter, range_with_len}
use Rattle.std.proofs.lemmas.Bool.{cases_lt}
use Rattle.std.proofs.lemmas.List.Elements.{All-filter, All-contains, All-contains_itself, filter_passes, Contains-get_or, Contains-append_left, Contains-append_right, Contains-append_cases}
use Rattle.std.proofs.lemmas.List.FromFn.{length-map-range_with_len, get_or-map-range_with_len}
use Rattle.std.proofs.lemmas.List.Kept.{AllPairs-filter}
use Rattle.answers.specs.Answers.{only, refused_by}
use Rattle.answers.proofs.AnswerLemmas.{bind-single, only-single, refuse_where-single, refused_by-single}
use Rattle.lists.proofs.ElementLemmas.{AllPairs-append}
use Rattle.linear_systems.specs.Vertices.{MarkedPoint}
use Rattle.extreme_equilibria.specs.PairLines.{low_labels, high_labels, HaveAllLabels}
use Rattle.game_core.specs.Limits.{within}
use Rattle.game_core.specs.declared.too_large.What.TheVariants as what
use Rattle.label_pairing.specs.Pairs.{are_together, mark_at, places, all_pairs, most_pairs}
use Rattle.label_pairing.specs.declared.pairing.PairStop.TheVariants as stops
use Rattle.label_pairing.specs.Laws.{IsPair, PairsAreExactlyThose, PairsAreSingle}
use Rattle.label_pairing.proofs.RowLemmas.{places-next}

-- what a filter keeps
kept : {X : Type 0} (p : X → Bool) (xs : List X) (x : X) → p x ≡ true → Contains xs x → Contains (filter p xs) x
kept p [] x t (k, h, e) = absurd (omega arith)
kept {X} p (y ∷ ys) x t (zero, h, e) = go (p y) (ap p e ∙ t)
  where
    go : (b : Bool) → b ≡ true → Contains (cond b (y ∷ filter p ys) (filter p ys)) x
    go true _ = (0, omega arith, e)
    go false f = absurd (cc)
kept {X} p (y ∷ ys) x t (suc k, h, e) = go (p y) (kept p ys x t (k, omega arith, e))
  where
    go : (b : Bool) → Contains (filter p ys) x → Contains (cond b (y ∷ filter p ys) (filter p ys)) x
    go true (j, l, f) = (suc j, omega arith, f)
    go false c = c

-- the places in one row
abbrev row : ℕ → ℕ → List (ℕ × ℕ)
row m n = map (λ j. (m, j)) (range_with_len 0 n)

row_out : (m n : ℕ) (p : ℕ × ℕ) → Contains (map (λ j. (m, j)) (range_with_len 0 n)) p → (p.0 ≡ m) × (p.1 < n)
row_out m n p (k, h, e) =
    let l : k < n = omega (arith, length-map-range_with_len {X = ℕ × ℕ} (λ j. (m, j)) 0 n) in
    let same : p ≡ (m, k) = sym e ∙ get_or-map-range_with_len {X = ℕ × ℕ} (λ j. (m, j)) 0 n k k p l (omega arith) in
    (ap (λ (q : ℕ × ℕ). q.0) same, subst (λ j. j < n) (sym (ap (λ (q : ℕ × ℕ). q.1) same)) l)

row_in : (m n j : ℕ) → j < n → Contains (map {B = ℕ × ℕ} (λ j. (m, j)) (range_with_len 0 n)) (m, j)
row_in m n j l = (j, subst (λ k. j < k) (sym (length-map-range_with_len {X = ℕ × ℕ} (λ j. (m, j)) 0 n)) l, get_or-map-range_with_len {X = ℕ × ℕ} (λ j. (m, j)) 0 n j j (m, j) l (omega arith))

-- all places
places_out : (m n : ℕ) (p : ℕ × ℕ) → Contains (places m n) p → (p.0 < m) × (p.1 < n)
places_out zero n p (k, h, e) = absurd (omega arith)
places_out (suc m) n p c = elim (Contains-append_cases (places m n) _ p (subst (λ ps. Contains ps p) (places-next m n) c)) [
  | inl a ↦ let r = places_out m n p a in (omega (arith, r.0), r.1)
  | inr a ↦ let r = row_out m n p a in (omega (arith, r.0), r.1)
]

places_in : (m n i j : ℕ) → i < m → j < n → Contains (places m n) (i, j)
places_in zero n i j h l = absurd (omega arith)
places_in (suc m) n i j h l =
    subst (λ ps. Contains ps (i, j)) (sym (places-next m n))
    (elim (cases_lt i m) [
      | inl b ↦ Contains-append_left (places m n) _ (i, j) (places_in m n i j b l)
      | inr b ↦ let e : m ≡ i = omega arith in Contains-append_right (places m n) _ (i, j) (subst (λ k. Contains {X = ℕ × ℕ} (row m n) (k, j)) e (row_in m n j l))
    ])

-- each place stands before the later ones
abbrev Earlier : ℕ × ℕ → ℕ × ℕ → Type 0
Earlier p q = (p.0 < q.0) ⊎ ((p.0 ≡ q.0) × (p.1 < q.1))

places_ascending : (m n : ℕ) → AllPairs Earlier (places m n)
places_ascending zero n = λ i j d l m. absurd (omega arith)
places_ascending (suc m) n =
    subst (AllPairs Earlier) (sym (places-next m n)) (AllPairs-append Earlier (places m n) (row m n) (places_ascending m n) row_ascending across)
  where
    row_ascending : AllPairs Earlier (row m n)
    row_ascending i j d l h =
        let k : j < n = omega (arith, length-map-range_with_len {X = ℕ × ℕ} (λ j. (m, j)) 0 n) in
        let at : (i : ℕ) → i < n → get_or (row m n) i d ≡ (m, i) = λ i b. get_or-map-range_with_len {X = ℕ × ℕ} (λ j. (m, j)) 0 n i i d b (omega arith) in
        subst₂ Earlier (sym (at i (omega (arith, l, k)))) (sym (at j k)) (inr (refl, l))

    across : All (λ p. All (Earlier p) (row m n)) (places m n)
    across k d h i c l =
        let before = places_out m n (get_or (places m n) k d) (Contains-get_or (places m n) k d h) in
        let here = row_out m n (get_or (row m n) i c) (Contains-get_or (row m n) i c l) in
        inl (omega (arith, before.0, here.0))

module _ (all : List ℕ) (first second : List MarkedPoint) where
  abbrev test : ℕ × ℕ → Bool
  test p = are_together all (mark_at first p.0) (mark_at second p.1)

  -- two places whose marks pass the test
  abbrev IsPassing : ℕ → ℕ → Type 0
  IsPassing i j = (i < length first) × (j < length second) × (test (i, j) ≡ true)

  passing_out : (i j : ℕ) → Contains (all_pairs all first second) (i, j) → IsPassing i j
  passing_out i j c =
      let ps = places (length first) (length second) in
      let inside = places_out (length first) (length second) (i, j) (All-contains (Contains ps) (filter test ps) (i, j) (All-filter test (Contains ps) ps (All-contains_itself ps)) c) in
      (inside.0, inside.1, All-contains (λ p. test p ≡ true) (filter test ps) (i, j) (filter_passes test ps) c)

  passing_in : (i j : ℕ) → IsPassing i j → Contains (all_pairs all first second) (i, j)
  passing_in i j h = kept test (places (length first) (length second)) (i, j) h.2 (places_in (length first) (length second) i j h.0 h.1)

-- two tests that both pass
pub parts_out : (a b c d : ℕ) → nat_eq a c && nat_eq b d ≡ true → (a ≡ c) × (b ≡ d)
parts_out a b c d e = grind (arith, tests)

pub parts_in : (a b c d : ℕ) → a ≡ c → b ≡ d → nat_eq a c && nat_eq b d ≡ true
parts_in a b c d e f = grind (arith, tests)

-- the test tells whether two marks together have all of n labels
test_is : (n : ℕ) (one two : MarkedPoint) → (are_together (low_labels n ∷ high_labels n ∷ []) one two ≡ true) ↔ HaveAllLabels n one two
test_is n one two = (λ e. let w = parts_out _ _ _ _ e in record { low = w.0; high = w.1 }, λ h. parts_in _ _ _ _ h.low h.high)

module _ (n : ℕ) (first second : List MarkedPoint) where
  abbrev labels : List ℕ
  labels = low_labels n ∷ high_labels n ∷ []

  exactly_out : (i j : ℕ) → Contains (all_pairs labels first second) (i, j) → IsPair n first second i j
  exactly_out i j c =
      let h = passing_out labels first second i j c in
      record { in_first = h.0; in_second = h.1; labels = (test_is n (mark_at first i) (mark_at second j)).0 h.2 }

  exactly_in : (i j : ℕ) → IsPair n first second i j → Contains (all_pairs labels first second) (i, j)
  exactly_in i j h =
      passing_in labels first second i j (h.in_first, h.in_second, (test_is n (mark_at first i) (mark_at second j)).1 h.labels)

pub exactly_those : PairsAreExactlyThose
exactly_those = record {
  exactly = λ n first second i j. (exactly_out n first second i j, exactly_in n first second i j);
  passing = λ all first second i j. (passing_out all first second i j, passing_in all first second i j);
  ascending = λ all first second. AllPairs-filter Earlier _ (places (length first) (length second)) (places_ascending (length first) (length second));
}

-- so no pair stands twice
pub pairs_once : (all : List ℕ) (first second : List MarkedPoint) → AllPairs (λ p q. p ≢ q) (all_pairs all first second)
pairs_once all first second i j d l h e = apart (exactly_those.ascending all first second i j d l h) e
  where
    apart : {p q : ℕ × ℕ} → Earlier p q → p ≢ q
    apart (inl b) same = omega (arith, b, ap (λ (p : ℕ × ℕ). p.0) same)
    apart (inr (_, b)) same = omega (arith, b, ap (λ (p : ℕ × ℕ). p.1) same)

pub pairs_single : PairsAreSingle
pairs_single all first second =
    let limit = within what.Pairs most_pairs (length (all_pairs all first second)) in
    bind-single (refused_by stops.TooLarge limit) (λ _. only (all_pairs all first second)) (refused_by-single stops.TooLarge limit (refuse_where-single _ _)) (λ _ _. only-single (all_pairs all first second))
