-- The lines of the pairs of the vertices of a game's two systems, in order, are those of its extreme equilibria
use Rattle.std.proofs.Common.{ℕ, suc, ◌+◌, ◌<◌, ◌≡◌, ◌≢◌, inl, inr, Bool, true, false, cond, nat_eq, List, [], ◌∷◌, ◌++◌, length, length-append, map, get_or, refl, sym, ap, ap₂, ◌∙◌, subst, arith, tests}
use Rattle.std.specs.Prelude.{Contains, IsPermutation, IsSortedBy}
use Rattle.std.specs.List.{AllPairs}
use Rattle.std.specs.Ordering.{is_lt}
use Rattle.std.specs.declared.cmp.Ordering.TheVariants.{Less}
use Rattle.std.specs.declared.cmp.Ordering.{Ordering}
use Rattle.std.proofs.lemmas.List.{length-map, get_or-map, get_or_default}
use Rattle.std.proofs.lemmas.List.Elements.{Contains-get_or}
use Rattle.std.proofs.lemmas.List.Folds.{list_any_at}
use Rattle.std.proofs.lemmas.List.FromFn.{get_or-map-range_with_len, length-map-range_with_len}
use Rattle.std.proofs.lemmas.List.Sorted.{Contains-permutation, IsPermutation-sym}
use Rattle.lists.proofs.ElementLemmas.{mapped, unmapped}
use Rattle.rational.specs.Rational.{ℚ, ◌≤ℚ◌, zero_ℚ}
use Rattle.linear_systems.specs.Tableau.{Tableau}
use Rattle.linear_systems.specs.RowEquivalence.{in_column}
use Rattle.game_theory.specs.Profiles.{Game, profile_count, number_of}
use Rattle.game_theory.specs.Lines.{StandsBefore, AreInOrder}
use Rattle.game_theory.proofs.ProfileLineLemmas.{length-listed}
use Rattle.game_theory.proofs.ProfileNumberLemmas.{number_of-below}
use Rattle.game_theory.proofs.LineOrderLemmas.{StandsBefore-cases}
use Rattle.linear_systems.specs.Vertices.{MarkedPoint, IsVertexMark, AreVertices}
use Rattle.linear_systems.proofs.AlikeVertexLemmas.{vertices_alike}
use Rattle.extreme_equilibria.specs.ExtremeEquilibria.{AreExtremeEquilibria}
use Rattle.extreme_equilibria.specs.TwoPlayers.{pays_against}
use Rattle.extreme_equilibria.specs.Bimatrix.{shifted, shift_of, IsLowerBound}
use Rattle.extreme_equilibria.specs.Systems.{first_system, second_system}
use Rattle.extreme_equilibria.specs.PairLines.{scaled_point, HaveAllLabels, pair_line, IsPairLine, ArePairLines}
use Rattle.extreme_equilibria.proofs.PairLineLemmas.{pair_lines_are_extreme_equilibria, listed_vertices_scale_differently}
use Rattle.lex_tableau.specs.Starts.{LinearSystem, system_of}
use Rattle.reply_polytope.proofs.EnumerableLemmas.{first_count, second_count}
use Rattle.reply_polytope.proofs.LeastLemmas.{least_below}
use Rattle.reply_polytope.proofs.PolytopeLemmas.{ArePolytopesOf}
use Rattle.basis_enum.specs.Systems.{variable_count}
use Rattle.label_pairing.specs.Laws.{IsPair}
use Rattle.label_pairing.specs.Pairs.{mark_at, all_pairs}
use Rattle.label_pairing.specs.Scaling.{IsScalable}
use Rattle.label_pairing.proofs.AllPairLemmas.{exactly_those, pairs_once}
use Rattle.enummixed.specs.Order.{line_of, pair_order}
use Rattle.enummixed.specs.Used.{all_labels, occurs, scaled_used}
use Rattle.enummixed.proofs.LineOrderLemmas.{before-ordered}
use Rattle.enummixed.proofs.DistinctListLemmas.{neighbours-differ}

abbrev none : MarkedPoint
none = record { low = 0; high = 0; point = [] }

-- two lists that begin with equally many entries
split : (a b c d : List ℚ) → length a ≡ length c → a ++ b ≡ c ++ d → (a ≡ c) × (b ≡ d)
split [] b [] d e f = (refl, f)
split [] b (x ∷ c) d e f = absurd (omega arith)
split (x ∷ a) b [] d e f = absurd (omega arith)
split (x ∷ a) b (y ∷ c) d e f = let r = split a b c d (omega arith) (cc) in (ap₂ (λ x a. x ∷ a) (cc) r.0, r.1)

-- ---- the least payoff is below each
module _ (g : Game) (one two : LinearSystem) (p : ArePolytopesOf g one two) where
  number-below : (i j : ℕ) → i < p.m → j < p.n → number_of g.strategies (i ∷ j ∷ []) < profile_count g.strategies
  number-below i j h l =
      subst (λ ns. number_of ns (i ∷ j ∷ []) < profile_count ns) (sym p.strategies) (number_of-below (p.m ∷ p.n ∷ []) (i ∷ j ∷ []) (h, (l, tt)))

  first-below : IsLowerBound p.m p.n (pays_against g 0) p.least
  first-below i j h l = least_below g 0 p.least p.is_least (number_of g.strategies (i ∷ j ∷ [])) (number-below i j h l)

  second-below : IsLowerBound p.n p.m (pays_against g 1) p.least'
  second-below j i l h = least_below g 1 p.least' p.is_least' (number_of g.strategies (i ∷ j ∷ [])) (number-below i j h l)

-- ---- points
-- the mark at a place is of a point with so many entries
module _ (n : ℕ) (t : Tableau) (list : List MarkedPoint) (h : AreVertices n t list) (i : ℕ) (l : i < length list) where
  mark-is : IsVertexMark n t (mark_at list i)
  mark-is = h.sound i none l

  point-length : length (mark_at list i).point ≡ t.width
  point-length = mark-is.marked.size

  -- which can be scaled
  pub scalable : IsScalable (mark_at list i).point
  scalable =
      record {
        not_negative = λ j b. let c : j < t.width = omega (arith, b, point-length) in subst (λ x. zero_ℚ ≤ℚ x) (sym (mark-is.marked.values j c)) (mark-is.extreme.point.nonnegative (t.nonbasic j) (in_column j c refl));
        nonzero = record { place = mark-is.nonzero.place; within = omega (arith, mark-is.nonzero.within, point-length); differs = λ e. mark-is.nonzero.differs (sym (mark-is.marked.values mark-is.nonzero.place mark-is.nonzero.within) ∙ e) };
      }

length-scaled : (p : List ℚ) → length (scaled_point p) ≡ length p
length-scaled p = length-listed (length p) _

-- the scaled point at a place that is used
scaled-at : (list : List MarkedPoint) (used : ℕ → Bool) (points : List (List ℚ)) (i : ℕ) → points ≡ scaled_used list used → i < length list → used i ≡ true → get_or points i [] ≡ scaled_point (mark_at list i).point
scaled-at list used points i is l u =
    ap (λ xs. get_or xs i []) is
    ∙ get_or-map-range_with_len (λ i. cond (used i) (scaled_point (mark_at list i).point) []) 0 (length list) i i [] l (omega arith)
    ∙ ap (λ b. cond b (scaled_point (mark_at list i).point) []) u

-- a place of a pair occurs
occurs-at : (f : ℕ × ℕ → ℕ) (pairs : List (ℕ × ℕ)) (p : ℕ × ℕ) → Contains pairs p → occurs (map f pairs) (f p) ≡ true
occurs-at f pairs p (k, l, e) =
    list_any_at (λ place. nat_eq place (f p)) (map f pairs) k 0 (omega (arith, length-map pairs f)) (same (get_or (map f pairs) k 0) (f p) (get_or-map f pairs k p 0 l ∙ ap f e))
  where
    same : (a b : ℕ) → a ≡ b → nat_eq a b ≡ true
    same a b e = grind (arith, tests)

-- what is less is less
not_less : (o : Ordering) → o ≡ Less → is_lt o ≡ false → ⊥
not_less o e f = let g : is_lt o ≡ true = ap is_lt e in cc

-- lines of which each stands before the next
in-order : {X : Type 0} (line : X → List ℚ) (xs : List X) → ((k : ℕ) (d : X) → k + 1 < length xs → StandsBefore (line (get_or xs k d)) (line (get_or xs (k + 1) d))) → AreInOrder (map line xs)
in-order line [] h = tt
in-order line (x ∷ []) h = tt
in-order line (x ∷ y ∷ xs) h = (h 0 x (omega arith), in-order line (y ∷ xs) (λ k d l. subst (λ n. StandsBefore (line (get_or (y ∷ xs) k d)) (line (get_or (x ∷ y ∷ xs) n d))) (plus k) (h (suc k) d (omega arith))))
  where
    plus : (k : ℕ) → suc k + 1 ≡ suc (k + 1)
    plus k = omega arith

-- ---- the lines of all pairs
module _ (n : ℕ) (t u : Tableau) (first second : List MarkedPoint) (vf : AreVertices n t first) (vs : AreVertices n u second)
    (firsts seconds : List (List ℚ)) (pairs : List (ℕ × ℕ))
    (all : pairs ≡ all_pairs (all_labels n) first second)
    (are_firsts : firsts ≡ scaled_used first (occurs (map (λ p. p.0) pairs))) (are_seconds : seconds ≡ scaled_used second (occurs (map (λ p. p.1) pairs))) where
  line : ℕ × ℕ → List ℚ
  line p = line_of firsts seconds p

  -- a pair of the list
  pair-is : (p : ℕ × ℕ) → Contains pairs p → IsPair n first second p.0 p.1
  pair-is p c = (exactly_those.exactly n first second p.0 p.1).0 (subst (λ ps. Contains ps p) all c)

  first-is : (p : ℕ × ℕ) → Contains pairs p → get_or firsts p.0 [] ≡ scaled_point (mark_at first p.0).point
  first-is p c = scaled-at first (occurs (map (λ p. p.0) pairs)) firsts p.0 are_firsts (pair-is p c).in_first (occurs-at (λ p. p.0) pairs p c)

  second-is : (p : ℕ × ℕ) → Contains pairs p → get_or seconds p.1 [] ≡ scaled_point (mark_at second p.1).point
  second-is p c = scaled-at second (occurs (map (λ p. p.1) pairs)) seconds p.1 are_seconds (pair-is p c).in_second (occurs-at (λ p. p.1) pairs p c)

  line-is : (p : ℕ × ℕ) → Contains pairs p → line p ≡ pair_line (mark_at first p.0) (mark_at second p.1)
  unfolding line
  line-is p c = ap₂ (λ a b. a ++ b) (first-is p c) (second-is p c)

  first-length : (p : ℕ × ℕ) → Contains pairs p → length (get_or firsts p.0 []) ≡ t.width
  first-length p c = ap length (first-is p c) ∙ length-scaled (mark_at first p.0).point ∙ point-length n t first vf p.0 (pair-is p c).in_first

  second-length : (p : ℕ × ℕ) → Contains pairs p → length (get_or seconds p.1 []) ≡ u.width
  second-length p c = ap length (second-is p c) ∙ length-scaled (mark_at second p.1).point ∙ point-length n u second vs p.1 (pair-is p c).in_second

  -- sorted
  module _ (differ : (i j : ℕ) (d : MarkedPoint) → i < length first → j < length first → scaled_point (get_or first i d).point ≡ scaled_point (get_or first j d).point → i ≡ j)
      (differ' : (i j : ℕ) (d : MarkedPoint) → i < length second → j < length second → scaled_point (get_or second i d).point ≡ scaled_point (get_or second j d).point → i ≡ j)
      (sorted : List (ℕ × ℕ)) (permuted : IsPermutation pairs sorted) (ordered : IsSortedBy (λ p q. is_lt (pair_order firsts seconds p q)) sorted) where
    -- different pairs have different lines
    lines-differ : (p q : ℕ × ℕ) → Contains pairs p → Contains pairs q → line p ≡ line q → p ≡ q
    unfolding line
    lines-differ p q c d e =
        let s = split (get_or firsts p.0 []) (get_or seconds p.1 []) (get_or firsts q.0 []) (get_or seconds q.1 []) (first-length p c ∙ sym (first-length q d)) e in
        ap₂ (λ i j. (i, j)) (differ p.0 q.0 none (pair-is p c).in_first (pair-is q d).in_first (sym (first-is p c) ∙ s.0 ∙ first-is q d)) (differ' p.1 q.1 none (pair-is p c).in_second (pair-is q d).in_second (sym (second-is p c) ∙ s.1 ∙ second-is q d))

    sorted-in : (p : ℕ × ℕ) → Contains sorted p → Contains pairs p
    sorted-in p c = Contains-permutation sorted pairs p (IsPermutation-sym pairs sorted permuted) c

    once : AllPairs (λ p q. p ≢ q) pairs
    once = subst (AllPairs (λ p q. p ≢ q)) (sym all) (pairs_once (all_labels n) first second)

    -- neighbours are in order
    neighbours : (j : ℕ) (d : ℕ × ℕ) → j + 1 < length sorted → StandsBefore (line (get_or sorted j d)) (line (get_or sorted (j + 1) d))
    unfolding line
    neighbours j d l =
        let p = get_or sorted j d in
        let q = get_or sorted (j + 1) d in
        let c = sorted-in p (Contains-get_or sorted j d (omega arith)) in
        let e = sorted-in q (Contains-get_or sorted (j + 1) d l) in
        let lengths : length (get_or firsts p.0 []) ≡ length (get_or firsts q.0 []) = first-length p c ∙ sym (first-length q e) in
        let long : length (get_or firsts p.0 [] ++ get_or seconds p.1 []) ≡ length (get_or firsts q.0 [] ++ get_or seconds q.1 []) = length-append (get_or firsts p.0 []) (get_or seconds p.1 []) ∙ ap₂ (λ a b. a + b) lengths (second-length p c ∙ sym (second-length q e)) ∙ sym (length-append (get_or firsts q.0 []) (get_or seconds q.1 [])) in
        elim (StandsBefore-cases (line_of firsts seconds p) (line_of firsts seconds q) long) [
          | inl same ↦ absurd (neighbours-differ pairs sorted once permuted j d l (lines-differ p q c e same))
          | inr (inl b) ↦ b
          | inr (inr b) ↦ absurd (not_less (pair_order firsts seconds q p) (before-ordered (get_or firsts q.0 []) (get_or seconds q.1 []) (get_or firsts p.0 []) (get_or seconds p.1 []) (sym lengths) b) (ordered j d (omega arith) l))
        ]

    sound-at : (z : List ℚ) → (p : ℕ × ℕ) × Contains sorted p × (line p ≡ z) → IsPairLine n first second z
    sound-at z r =
        let c = sorted-in r.0 r.1 in
        let h = pair-is r.0 c in
        record {
          one = mark_at first r.0.0;
          two = mark_at second r.0.1;
          is_first = Contains-get_or first r.0.0 none h.in_first;
          is_second = Contains-get_or second r.0.1 none h.in_second;
          labels = h.labels;
          is_line = sym r.2 ∙ line-is r.0 c;
        }

    complete-at : (one two : MarkedPoint) → Contains first one → Contains second two → HaveAllLabels n one two → Contains (map line sorted) (pair_line one two)
    complete-at one two (i, h, e) (j, l, f) labels =
        let at : mark_at first i ≡ one = get_or_default first i none one h ∙ e in
        let at' : mark_at second j ≡ two = get_or_default second j none two l ∙ f in
        let marks : HaveAllLabels n (mark_at first i) (mark_at second j) = subst (λ x. HaveAllLabels n x (mark_at second j)) (sym at) (subst (λ y. HaveAllLabels n one y) (sym at') labels) in
        let c : Contains {X = ℕ × ℕ} pairs (i, j) = subst (λ ps. Contains {X = ℕ × ℕ} ps (i, j)) (sym all) ((exactly_those.exactly n first second i j).1 (record { in_first = h; in_second = l; labels = marks })) in
        subst (λ z. Contains (map line sorted) z) (line-is (i, j) c ∙ ap₂ pair_line at at') (mapped line (i, j) sorted (Contains-permutation pairs sorted (i, j) permuted c))

    -- the lines
    pub pair-lines : ArePairLines n first second (map (line_of firsts seconds) sorted)
    unfolding line
    pair-lines = record {
      in_order = in-order line sorted neighbours;
      sound = λ j d l. sound-at (get_or (map line sorted) j d) (unmapped line (get_or (map line sorted) j d) sorted (Contains-get_or (map line sorted) j d l));
      complete = complete-at;
    }

-- both places of a pair have points with so many entries
pub record ArePointsOf (m n : ℕ) (firsts seconds : List (List ℚ)) (q : ℕ × ℕ) : Type 0 where
  pub in_firsts : q.0 < length firsts
  pub in_seconds : q.1 < length seconds
  pub first : length (get_or firsts q.0 []) ≡ m
  pub second : length (get_or seconds q.1 []) ≡ n

-- of the two systems of a game
module _ (g : Game) (one two : LinearSystem) (p : ArePolytopesOf g one two) (first second : List MarkedPoint)
    (hf : AreVertices (variable_count one) (system_of one) first) (hs : AreVertices (variable_count two) (system_of two) second) where
  abbrev t : Tableau
  t = first_system p.m p.n (shifted (shift_of p.least') (pays_against g 1))

  abbrev u : Tableau
  u = second_system p.m p.n (shifted (shift_of p.least) (pays_against g 0))

  vf : AreVertices (p.m + p.n) t first
  vf = vertices_alike (p.m + p.n) t (system_of one) first p.is_first.alike (subst (λ n. AreVertices n (system_of one) first) (first_count g one two p) hf)

  vs : AreVertices (p.m + p.n) u second
  vs = vertices_alike (p.m + p.n) u (system_of two) second p.is_second.alike (subst (λ n. AreVertices n (system_of two) second) (second_count g one two p) hs)

  -- the pairs by the number of labels
  labelled : (pairs : List (ℕ × ℕ)) → pairs ≡ all_pairs (all_labels (variable_count one)) first second → pairs ≡ all_pairs (all_labels (p.m + p.n)) first second
  labelled pairs all = subst (λ n. pairs ≡ all_pairs (all_labels n) first second) (first_count g one two p) all

  -- the points of a pair have an entry for each strategy
  pub point-lengths : (firsts seconds : List (List ℚ)) (pairs : List (ℕ × ℕ)) → pairs ≡ all_pairs (all_labels (variable_count one)) first second → firsts ≡ scaled_used first (occurs (map (λ p. p.0) pairs)) → seconds ≡ scaled_used second (occurs (map (λ p. p.1) pairs)) → (q : ℕ × ℕ) → Contains pairs q → ArePointsOf p.m p.n firsts seconds q
  point-lengths firsts seconds pairs all f s q c =
      let is = pair-is (p.m + p.n) t u first second vf vs firsts seconds pairs (labelled pairs all) f s q c in
      record {
        in_firsts = subst (λ n. q.0 < n) (sym (ap length f ∙ length-map-range_with_len (λ i. cond (occurs (map (λ p. p.0) pairs) i) (scaled_point (mark_at first i).point) []) 0 (length first))) is.in_first;
        in_seconds = subst (λ n. q.1 < n) (sym (ap length s ∙ length-map-range_with_len (λ i. cond (occurs (map (λ p. p.1) pairs) i) (scaled_point (mark_at second i).point) []) 0 (length second))) is.in_second;
        first = first-length (p.m + p.n) t u first second vf vs firsts seconds pairs (labelled pairs all) f s q c;
        second = second-length (p.m + p.n) t u first second vf vs firsts seconds pairs (labelled pairs all) f s q c;
      }

  pub extreme-lines : (firsts seconds : List (List ℚ)) (pairs sorted : List (ℕ × ℕ)) → pairs ≡ all_pairs (all_labels (variable_count one)) first second → firsts ≡ scaled_used first (occurs (map (λ p. p.0) pairs)) → seconds ≡ scaled_used second (occurs (map (λ p. p.1) pairs)) → IsPermutation pairs sorted → IsSortedBy (λ p q. is_lt (pair_order firsts seconds p q)) sorted → AreExtremeEquilibria g (map (line_of firsts seconds) sorted)
  extreme-lines firsts seconds pairs sorted all f s permuted ordered =
      pair_lines_are_extreme_equilibria g p.m p.n p.least p.least' first second (map (line_of firsts seconds) sorted) p.strategies (first-below g one two p) (second-below g one two p) vf vs
      (pair-lines (p.m + p.n) t u first second vf vs firsts seconds pairs (labelled pairs all) f s (listed_vertices_scale_differently.first p.m p.n (shifted (shift_of p.least') (pays_against g 1)) first vf) (listed_vertices_scale_differently.second p.m p.n (shifted (shift_of p.least) (pays_against g 0)) second vs) sorted permuted ordered)
