-- How many masks complete a mask, and how many pairs these make
use Rattle.std.proofs.Common.{ℕ, zero, suc, ◌+◌, ◌-◌, ◌*◌, ◌/◌, ◌%◌, nat_eq, mul-le-mul, ◌<◌, ◌≤◌, ◌^◌, ◌≡◌, ◌≢◌, ◌&&◌, Bool, false, bit_or, cond, List, [], ◌∷◌, length, map, get_or, take, refl, sym, ap, ap₂, subst, ◌∙◌, arith, add-one}
use Rattle.std.specs.Prelude.{count_by, sum, sum_by}
use Rattle.std.specs.Int.{bit_at}
use Rattle.std.specs.Int.Count.{ones, ones_step}
use Rattle.std.specs.List.{between, range_with_len}
use Rattle.std.proofs.lemmas.Bool.{ne_eqb}
use Rattle.std.proofs.lemmas.Nat.{ones-le}
use Rattle.std.proofs.lemmas.Nat.Bits.{bit_at_lowest, bit_at-suc, bit_at-zero, bit_at_or, same_from_bits}
use Rattle.std.proofs.lemmas.List.{length-map, length-append, nil_from_length, take_all}
use Rattle.std.proofs.lemmas.List.Edits.{length-between, get_or-between}
use Rattle.std.proofs.lemmas.List.FromFn.{length-range_with_len, sum_by-map-range_with_len_more}
use Rattle.std.proofs.lemmas.List.Sums.{sum_by-append, sum_by-cons, sum_by-le, sum_by_push, sum_by_more, sum-map, length-filter, count_by-le-length}
use Rattle.rayon.specs.Shown.{run-append}
use Rattle.lists.proofs.ElementLemmas.{range_more}
use Rattle.linear_systems.specs.Vertices.{MarkedPoint}
use Rattle.basis_enum.specs.Vertices.{mark_of, marks_of}
use Rattle.basis_enum.specs.declared.vertex.Vertex.{Vertex}
use Rattle.label_pairing.specs.Matches.{completes, AreWords, HasBitsOf, partner_count, partner_pairs}
use Rattle.label_pairing.specs.Pairs.{are_together, mark_at, all_pairs}
use Rattle.label_pairing.proofs.RowLemmas.{row, rows, rows-next, vertex-together}

-- as many numbers pass one test as another, where the numbers of the one run with those of the other
same_count : (f g : ℕ → Bool) (a b n : ℕ) → ((i : ℕ) → i < n → f (a + i) ≡ g (b + i)) → count_by f (range_with_len a n) ≡ count_by g (range_with_len b n)
same_count f g a b zero h = refl
same_count f g a b (suc n) h =
    let one : f a ≡ g b = ap f (omega arith) ∙ h 0 (omega arith) ∙ ap g (omega arith) in
    let rest = same_count f g (a + 1) (b + 1) n (λ i l. ap f (omega arith) ∙ h (suc i) (omega arith) ∙ ap g (omega arith)) in
    sum_by-cons (λ i. cond (f i) 1 0) a (range_with_len (a + 1) n)
    ∙ ap₂ (λ c m. cond c 1 0 + m) one rest
    ∙ sym (sum_by-cons (λ i. cond (g i) 1 0) b (range_with_len (b + 1) n))

-- a bit that is 1 counts 1
bit_is : (b : ℕ) → b < 2 → cond (nat_eq b 1) 1 0 ≡ b
bit_is zero l = refl
bit_is (suc zero) l = refl
bit_is (suc (suc b)) l = absurd (omega (arith, l))

-- a number has as many ones as bits that pass as places
pub bits_count : (f : ℕ → Bool) (a k n : ℕ) → n < 2 ^ k → ((i : ℕ) → i < k → nat_eq (bit_at n i) 1 ≡ f (a + i)) → ones n ≡ count_by f (range_with_len a k)
bits_count f a zero n few h = omega (arith, ones-le 0 n few)
bits_count f a (suc k) n few h =
    let half : n / 2 < 2 ^ k = omega (arith, few) in
    let lowest : n % 2 ≡ cond (f a) 1 0 = sym (bit_is (n % 2) (omega arith)) ∙ ap (λ b. cond b 1 0) (ap (λ m. nat_eq m 1) (sym (bit_at_lowest n)) ∙ h 0 (omega arith) ∙ ap f (omega arith)) in
    let rest = bits_count f (a + 1) k (n / 2) half (λ i l. ap (λ m. nat_eq m 1) (sym (bit_at-suc n i)) ∙ h (suc i) (omega arith) ∙ ap f (omega arith)) in
    ones_step n ∙ ap₂ (λ x y. x + y) lowest rest ∙ sym (sum_by-cons (λ i. cond (f i) 1 0) a (range_with_len (a + 1) k))

-- a word has its own bits, however many it is given besides
pub has_given : (word other : ℕ) → HasBitsOf (bit_or word other) other
has_given word other = same_from_bits _ _ (λ i. omega (arith, bit_at_or (bit_or word other) other i, bit_at_or word other i))

-- and those that it had
pub has_more : (word more other : ℕ) → HasBitsOf word other → HasBitsOf (bit_or word more) other
has_more word more other has =
    same_from_bits _ _ (λ i. omega (arith, bit_at_or (bit_or word more) other i, bit_at_or word more i, bit_at_or word other i, ap (λ n. bit_at n i) has))

-- where a word and one with fewer bits have all, so do the word and the one with more
has_all : (word other union all : ℕ) → HasBitsOf union other → bit_or word other ≡ all → HasBitsOf (bit_or word union) all
has_all word other union all has e =
    same_from_bits _ _ (λ i. omega (arith, bit_at_or (bit_or word union) all i, bit_at_or word union i, bit_at_or word other i, ap (λ n. bit_at n i) e, bit_at_or union other i, ap (λ n. bit_at n i) has))

-- a place whose low word lacks a bit is no partner
no-partner : (mask all : List ℕ) (low high : ℕ) → bit_or (get_or mask 0 0) low ≢ get_or all 0 0 → completes mask all low high ≡ false
no-partner mask all low high apart =
    ap (λ b. b && nat_eq (bit_or (get_or mask 1 0) high) (get_or all 1 0)) (ne_eqb (bit_or (get_or mask 0 0) low) (get_or all 0 0) apart)

-- so a block whose union lacks a bit has no partner
pub none-in_union : (mask all low high : List ℕ) (union : ℕ) → ((i : ℕ) → i < 8 → HasBitsOf union (get_or low i 0))
    → bit_or (bit_or (get_or mask 0 0) union) (get_or all 0 0) ≢ bit_or (get_or mask 0 0) union
    → length low ≡ 8 → 0 ≡ partner_count mask all low high
none-in_union mask all low high union has lacks e =
    let test : ℕ → Bool = λ i. completes mask all (get_or low i 0) (get_or high i 0) in
    let none : 0 ≡ ones 0 = omega (arith, ones-le 0 0 (omega arith)) in
    let fails : (i : ℕ) → i < 8 → test i ≡ false = λ i l. no-partner mask all (get_or low i 0) (get_or high i 0) (λ is. lacks (has_all (get_or mask 0 0) (get_or low i 0) union (get_or all 0 0) (has i l) is)) in
    none
    ∙ bits_count test 0 8 0 (omega arith) (λ i l. let same : i ≡ 0 + i = omega arith in ap (λ n. nat_eq n 1) (bit_at-zero i) ∙ sym (fails i l) ∙ ap test same)
    ∙ ap (λ n. count_by test (range_with_len 0 n)) (sym e)

module _ (mask all low high : List ℕ) where
  abbrev pub test : ℕ → Bool
  test i = completes mask all (get_or low i 0) (get_or high i 0)

  -- how many of the first places are partners
  abbrev pub partners_below : ℕ → ℕ
  partners_below n = count_by test (range_with_len 0 n)

  -- one more is a partner or not
  pub partners_more : (i : ℕ) → partners_below (i + 1) ≡ partners_below i + cond (test i) 1 0
  partners_more i =
      ap partners_below (add-one i)
      ∙ ap (count_by test) (range_more 0 i)
      ∙ sum_by_push (λ j. cond (test j) 1 0) (range_with_len 0 i) (0 + i)
      ∙ ap (λ j. partners_below i + cond (test j) 1 0) (omega arith)

  -- the partners in a part come to those before it
  pub partners-next : (at end : ℕ) → at ≤ end → end ≤ length low → length high ≡ length low
      → partners_below at + partner_count mask all (between at end low) (between at end high) ≡ partners_below end
  partners-next at end a b e =
      let so_many : length (between at end low) ≡ end - at = length-between low at end b in
      let whole : at + (end - at) ≡ end = omega arith in
      let from : 0 + at ≡ at = omega arith in
      ap (λ n. partners_below at + n)
      (ap (λ n. count_by (λ i. completes mask all (get_or (between at end low) i 0) (get_or (between at end high) i 0)) (range_with_len 0 n)) so_many
      ∙ same_count _ test 0 at (end - at) (λ i l. ap₂ (λ x y. completes mask all x y) (get_or-between low at end (0 + i) 0 (omega arith)) (get_or-between high at end (0 + i) 0 (omega arith)) ∙ ap test (omega arith))
      ∙ ap (λ s. count_by test (range_with_len s (end - at))) (sym from))
      ∙ sym (sum_by-append (λ i. cond (test i) 1 0) (range_with_len 0 at) (range_with_len (0 + at) (end - at)))
      ∙ ap (count_by test) (run-append 0 at (end - at) ∙ ap (range_with_len 0) whole)

  -- there are no more than masks
  pub partners_few : partner_count mask all low high ≤ length low
  partners_few = subst (λ n. partner_count mask all low high ≤ n) (length-range_with_len 0 (length low)) (count_by-le-length test (range_with_len 0 (length low)))

-- so many numbers pass as places in a row
row_count : (f : ℕ → Bool) (p : ℕ × ℕ → Bool) (m n : ℕ) → ((j : ℕ) → j < n → f j ≡ p (m, j)) → count_by f (range_with_len 0 n) ≡ count_by p (map (λ j. (m, j)) (range_with_len 0 n))
row_count f p m zero h = refl
row_count f p m (suc n) h =
    let last : 0 + n ≡ n = omega arith in
    ap (count_by f) (range_more 0 n)
    ∙ sum_by_push (λ j. cond (f j) 1 0) (range_with_len 0 n) (0 + n)
    ∙ ap₂ (λ a b. a + cond b 1 0) (row_count f p m n (λ j l. h j (omega arith))) (ap f last ∙ h n (omega arith))
    ∙ sym (sum_by-map-range_with_len_more (λ (q : ℕ × ℕ). cond (p q) 1 0) (λ j. (m, j)) 0 n n (omega arith))
    ∙ ap (λ k. count_by p (map (λ j. (m, j)) (range_with_len 0 k))) (add-one n)

-- a vertex without partners has no pairs
pub no-partners : (i : ℕ) (mask all low high : List ℕ) → partner_count mask all low high ≡ 0 → partner_pairs i mask all low high ≡ []
no-partners i mask all low high none =
    let p : ℕ × ℕ → Bool = λ p. completes mask all (get_or low p.1 0) (get_or high p.1 0) in
    nil_from_length (partner_pairs i mask all low high)
    (length-filter p (map (λ j. (i, j)) (range_with_len 0 (length low))) ∙ sym (row_count (test mask all low high) p i (length low) (λ j l. refl)) ∙ none)

module _ (all low high : List ℕ) where
  -- the partners of a vertex
  abbrev pub partners : Vertex → ℕ
  partners v = partner_count v.mask all low high

  -- all partners together are few
  pub partners_fit : (first : List Vertex) → length first < 2 ^ 32 → length low < 2 ^ 32 → sum (map partners first) < 2 ^ 64
  partners_fit first h g =
      let few = sum_by-le partners (length low) first (λ i d l. partners_few (get_or first i d).mask all low high) in
      let most : length first * length low ≤ 4294967295 * 4294967295 = mul-le-mul {n₂ = 4294967295} {m₂ = 4294967295} (omega arith) (omega arith) in
      subst (λ n. n < 2 ^ 64) (sym (sum-map partners first)) (omega (arith, few, most))

  module _ (second : List MarkedPoint) (w : AreWords second low high) where
    -- a vertex has as many partners as there are pairs in its row
    row_partners : (first : List Vertex) (i : ℕ) (d : Vertex) → i < length first → partners (get_or first i d) ≡ length (row all (marks_of first) second i (length second))
    row_partners first i d l =
        let so_many : length low ≡ length second = ap length w.lows ∙ length-map second (λ mark. mark.low) in
        let p : ℕ × ℕ → Bool = λ p. are_together all (mark_at (marks_of first) p.0) (mark_at second p.1) in
        ap (λ n. count_by (test (get_or first i d).mask all low high) (range_with_len 0 n)) so_many
        ∙ row_count (test (get_or first i d).mask all low high) p i (length second) (vertex-together all first second i d low high l w)
        ∙ sym (length-filter p (map (λ j. (i, j)) (range_with_len 0 (length second))))

    -- so do the first vertices
    rows_partners : (first : List Vertex) (d : Vertex) (n : ℕ) → n ≤ length first → sum_by partners (take n first) ≡ length (rows all (marks_of first) second n)
    rows_partners first d zero l = refl
    rows_partners first d (suc n) l =
        ap (λ k. sum_by partners (take k first)) (sym (add-one n))
        ∙ sum_by_more partners first n d l
        ∙ ap₂ (λ a b. a + b) (rows_partners first d n (omega arith)) (row_partners first n d l)
        ∙ sym (length-append (rows all (marks_of first) second n) (row all (marks_of first) second n (length second)))
        ∙ ap length (sym (rows-next all (marks_of first) second n))
        ∙ ap (λ k. length (rows all (marks_of first) second k)) (add-one n)

    -- and all
    pub pairs-counted : (first : List Vertex) → sum (map partners first) ≡ length (all_pairs all (marks_of first) second)
    pairs-counted [] = refl
    pairs-counted (v ∷ vs) =
        let first : List Vertex = v ∷ vs in
        sum-map partners first
        ∙ ap (sum_by partners) (sym (take_all (length first) first (omega arith)))
        ∙ rows_partners first v (length first) (omega arith)
        ∙ ap (λ k. length (rows all (marks_of first) second k)) (sym (length-map first mark_of))
