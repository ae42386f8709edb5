-- The pairs with the first marks of a list
use Rattle.std.proofs.Common.{ℕ, zero, suc, ◌+◌, ◌<◌, ◌≡◌, Bool, false, cond, nat_eq, ◌&&◌, List, [], ◌∷◌, ◌++◌, length, map, get_or, refl, sym, ap, ap₂, ◌∙◌, arith, add-one, append_assoc}
use Rattle.std.specs.Prelude.{bit_or}
use Rattle.std.specs.List.{filter, flat_map, range_with_len}
use Rattle.std.proofs.lemmas.List.{append-nil, get_or-map, length-map}
use Rattle.std.proofs.lemmas.Grind.{flat_map-append}
use Rattle.std.proofs.lemmas.List.Elements.{filter-append}
use Rattle.std.proofs.lemmas.List.FromFn.{filter_of_map_range_with_len_more}
use Rattle.lists.proofs.ElementLemmas.{range_more}
use Rattle.linear_systems.specs.Vertices.{MarkedPoint}
use Rattle.basis_enum.specs.Vertices.{mark_of, marks_of}
use Rattle.basis_enum.specs.declared.vertex.Vertex.{Vertex}
use Rattle.label_pairing.specs.Matches.{completes, AreMatches, AreWords, flagged_pairs, partner_pairs}
use Rattle.label_pairing.specs.Pairs.{are_together, mark_at, places}

-- the pairs of place i with the first n marks
abbrev pub row : List ℕ → List MarkedPoint → List MarkedPoint → ℕ → ℕ → List (ℕ × ℕ)
row all first second i n = filter (λ p. are_together all (mark_at first p.0) (mark_at second p.1)) (map (λ j. (i, j)) (range_with_len 0 n))

-- the pairs of the first m places
abbrev pub rows : List ℕ → List MarkedPoint → List MarkedPoint → ℕ → List (ℕ × ℕ)
rows all first second m = filter (λ p. are_together all (mark_at first p.0) (mark_at second p.1)) (places m (length second))

-- one more place
pub places-next : (m n : ℕ) → places (suc m) n ≡ places m n ++ map (λ j. (m, j)) (range_with_len 0 n)
places-next m n =
    let f : ℕ → List (ℕ × ℕ) = λ i. map (λ j. (i, j)) (range_with_len 0 n) in
    ap (flat_map f) (range_more 0 m) ∙ flat_map-append f (range_with_len 0 m) ((0 + m) ∷ [])
    ∙ ap (λ xs. places m n ++ xs) (append-nil (f (0 + m)) ∙ ap f (omega arith))

pub rows-next : (all : List ℕ) (first second : List MarkedPoint) (m : ℕ) → rows all first second (m + 1) ≡ rows all first second m ++ row all first second m (length second)
rows-next all first second m =
    let p : ℕ × ℕ → Bool = λ p. are_together all (mark_at first p.0) (mark_at second p.1) in
    ap (λ k. filter p (places k (length second))) (add-one m) ∙ ap (filter p) (places-next m (length second)) ∙ filter-append p (places m (length second)) _

-- what is read outside a list
abbrev none : MarkedPoint
none = record { low = 0; high = 0; point = [] }

module _ (all : List ℕ) (first second : List MarkedPoint) (m : ℕ) (mask low high : List ℕ) (w : AreWords second low high) (e : get_or mask 0 0 ≡ (mark_at first m).low) (f : get_or mask 1 0 ≡ (mark_at first m).high) where
  -- the words tell which pairs are together
  pub completes-together : (j : ℕ) → j < length second → completes mask all (get_or low j 0) (get_or high j 0) ≡ are_together all (mark_at first m) (mark_at second j)
  completes-together j l =
      ap₂ (λ a b. completes mask all a b) (ap (λ xs. get_or xs j 0) w.lows ∙ get_or-map (λ (mark : MarkedPoint). mark.low) second j none 0 l) (ap (λ xs. get_or xs j 0) w.highs ∙ get_or-map (λ (mark : MarkedPoint). mark.high) second j none 0 l)
      ∙ ap₂ (λ a b. nat_eq (bit_or a (mark_at second j).low) (get_or all 0 0) && nat_eq (bit_or b (mark_at second j).high) (get_or all 1 0)) e f

-- tests that agree on a row keep the same of it
filter-row : (p q : ℕ × ℕ → Bool) (m n : ℕ) → ((j : ℕ) → j < n → p (m, j) ≡ q (m, j)) → filter p (map (λ j. (m, j)) (range_with_len 0 n)) ≡ filter q (map (λ j. (m, j)) (range_with_len 0 n))
filter-row p q m zero h = refl
filter-row p q m (suc n) h =
    ap (λ k. filter p (map (λ j. (m, j)) (range_with_len 0 k))) (sym (add-one n))
    ∙ filter_of_map_range_with_len_more p (λ j. (m, j)) 0 n n (omega arith)
    ∙ ap₂ (λ xs b. xs ++ cond b ((m, n) ∷ []) []) (filter-row p q m n (λ j l. h j (omega arith))) (h n (omega arith))
    ∙ sym (filter_of_map_range_with_len_more q (λ j. (m, j)) 0 n n (omega arith))
    ∙ ap (λ k. filter q (map (λ j. (m, j)) (range_with_len 0 k))) (add-one n)

-- the flags tell the partners
pub found-partners : (i : ℕ) (mask all low high : List ℕ) (found : List Bool) → AreMatches mask all low high found → flagged_pairs i found ≡ partner_pairs i mask all low high
found-partners i mask all low high found h =
    ap (λ n. filter (λ p. get_or found p.1 false) (map (λ j. (i, j)) (range_with_len 0 n))) h.so_many
    ∙ filter-row (λ p. get_or found p.1 false) (λ p. completes mask all (get_or low p.1 0) (get_or high p.1 0)) i (length low) (λ j l. h.are_matches j false l)

-- the words of a vertex that is read tell its pairs
pub vertex-together : (all : List ℕ) (first : List Vertex) (second : List MarkedPoint) (i : ℕ) (d : Vertex) (low high : List ℕ) → i < length first → AreWords second low high → (j : ℕ) → j < length second → completes (get_or first i d).mask all (get_or low j 0) (get_or high j 0) ≡ are_together all (mark_at (marks_of first) i) (mark_at second j)
vertex-together all first second i d low high h w =
    let e = sym (get_or-map mark_of first i d none h) in
    completes-together all (marks_of first) second i (get_or first i d).mask low high w (ap (λ (mark : MarkedPoint). mark.low) e) (ap (λ (mark : MarkedPoint). mark.high) e)

-- the partners of a vertex that is read make its row
pub vertex-row : (all : List ℕ) (first : List Vertex) (second : List MarkedPoint) (i : ℕ) (d : Vertex) (low high : List ℕ) → i < length first → AreWords second low high → partner_pairs i (get_or first i d).mask all low high ≡ row all (marks_of first) second i (length second)
vertex-row all first second i d low high h w =
    let so_many : length low ≡ length second = ap length w.lows ∙ length-map second (λ mark. mark.low) in
    ap (λ n. filter (λ p. completes (get_or first i d).mask all (get_or low p.1 0) (get_or high p.1 0)) (map (λ j. (i, j)) (range_with_len 0 n))) so_many
    ∙ filter-row (λ p. completes (get_or first i d).mask all (get_or low p.1 0) (get_or high p.1 0)) (λ p. are_together all (mark_at (marks_of first) p.0) (mark_at second p.1)) i (length second) (vertex-together all first second i d low high h w)

-- one more place
pub found-next : (found : List Bool) (i j : ℕ) (old loop new : List (ℕ × ℕ)) (b : Bool) → get_or found j false ≡ b → loop ≡ old ++ filter (λ p. get_or found p.1 false) (map (λ j. (i, j)) (range_with_len 0 j)) → new ≡ loop ++ cond b ((i, j) ∷ []) [] → new ≡ old ++ filter (λ p. get_or found p.1 false) (map (λ j. (i, j)) (range_with_len 0 (j + 1)))
found-next found i j old loop new b is before push =
    push ∙ ap₂ (λ xs b. xs ++ cond b ((i, j) ∷ []) []) before (sym is) ∙ append_assoc old _ _
    ∙ ap (λ xs. old ++ xs) (sym (filter_of_map_range_with_len_more (λ (p : ℕ × ℕ). get_or found p.1 false) (λ j. (i, j)) 0 j j (omega arith)))

-- nothing is added
pub found-same : (xs ys : List (ℕ × ℕ)) → ys ≡ xs → ys ≡ xs ++ []
found-same xs ys e = e ∙ sym (append-nil xs)

-- the words of vertices are those of their marks
pub words_of : (vertices : List Vertex) (low high : List ℕ) → low ≡ map (λ v. get_or v.mask 0 0) vertices → high ≡ map (λ v. get_or v.mask 1 0) vertices → AreWords (marks_of vertices) low high
words_of vertices low high e f = record { lows = e ∙ same (λ mark. mark.low) (λ v. get_or v.mask 0 0) (λ v. refl) vertices; highs = f ∙ same (λ mark. mark.high) (λ v. get_or v.mask 1 0) (λ v. refl) vertices }
  where
    same : (f : MarkedPoint → ℕ) (g : Vertex → ℕ) → ((v : Vertex) → g v ≡ f (mark_of v)) → (vertices : List Vertex) → map g vertices ≡ map f (marks_of vertices)
    same f g h [] = refl
    same f g h (v ∷ vs) = ap₂ (λ x xs. x ∷ xs) (h v) (same f g h vs)

-- one more vertex's pairs are listed
pub pairs-next : (all : List ℕ) (first : List Vertex) (second : List MarkedPoint) (i : ℕ) (d : Vertex) (low high : List ℕ) (pairs new : List (ℕ × ℕ)) → i < length first → AreWords second low high → new ≡ pairs ++ partner_pairs i (get_or first i d).mask all low high → pairs ≡ rows all (marks_of first) second i → new ≡ rows all (marks_of first) second (i + 1)
pairs-next all first second i d low high pairs new h w push before =
    push ∙ ap₂ (λ xs ys. xs ++ ys) before (vertex-row all first second i d low high h w)
    ∙ sym (rows-next all (marks_of first) second i)
