-- The pivots of a whole level, and those to the next level among them
use Rattle.std.proofs.Common.{ℕ, suc, zero, ◌<◌, ◌≤◌, ◌≡◌, ◌+◌, ◌^◌, refl, sym, ap, ap₂, ◌∙◌, subst, subst₂, arith, inl, inr, List, [], ◌∷◌, ◌++◌, length, get_or, map, eq-or-lt_of_le}
use Rattle.std.specs.List.{Contains}
use Rattle.std.specs.List.Sorted.{IsStrictlyIncreasing}
use Rattle.std.proofs.Math.Seq.{get_or-append_seam}
use Rattle.std.proofs.lemmas.List.{length-append, get_or_append_left}
use Rattle.std.proofs.lemmas.List.Elements.{Contains-append_left, Contains-append_right, Contains-append_cases}
use Rattle.lex_tableau.specs.Rows.{WholeTableau}
use Rattle.basis_enum.specs.Bases.{basis_of, neighbour_of}
use Rattle.basis_enum.specs.Levels.{Levels, Pivot, no_tableau, bases_of, entering, target, IsPivot, AreNextPivots, IsNew, IsEarlierPivot}
use Rattle.lex_tableau.specs.Ratio.{IsLeavingRow}
use Rattle.lists.proofs.AscendingNumberLemmas.{once_in}
use Rattle.lists.proofs.ElementLemmas.{mapped, first_in, rest_in, in_cases}
use Rattle.basis_enum.specs.declared.found_pivots.FoundPivot.{FoundPivot}
use Rattle.basis_enum.specs.Found.{IsFoundFrom, AreFound, HasAllFound, IsFoundIn, AreFoundIn, AreReady, AreKnown}
use Rattle.basis_enum.proofs.FoundPivotLemmas.{entering_bounds}
use Rattle.basis_enum.specs.Next.{target_of, order_of, pivot_of, AreSmall, IsNextOf, AreNewPivots}
use Rattle.linear_systems.proofs.LexRowLemmas.{lex_row_once}

pub basis_at : (level : List WholeTableau) (numbers : List ℕ) (place : ℕ) → numbers ≡ bases_of level → place < length level → get_or numbers place 0 ≡ basis_of (get_or level place no_tableau).nonbasics
basis_at level numbers place e h = ap (λ xs. get_or xs place 0) e ∙ read level place h
  where
    read : (ts : List WholeTableau) (i : ℕ) → i < length ts → get_or (bases_of ts) i 0 ≡ basis_of (get_or ts i no_tableau).nonbasics
    read [] i h = absurd (omega arith)
    read (t ∷ ts) zero h = refl
    read (t ∷ ts) (suc i) h = read ts i (omega arith)

pub found_in_start : (known : List ℕ) → AreFoundIn [] known []
found_in_start known = record { each = λ m c. absurd (omega (arith, c.1)); all = λ place h. absurd (omega arith) }

-- one more tableau, and its pivots
pub found_in_more : (level : List WholeTableau) (known : List ℕ) (found more : List FoundPivot) (t : WholeTableau) → AreFoundIn level known found → AreFound t (length level) known more → AreFoundIn (level ++ t ∷ []) known (found ++ more)
found_in_more level known found more t f g =
    record {
      each = λ m c. elim (Contains-append_cases found more m c) [
        | inl a ↦ (let z = f.each m a in record { place = z.place; within = (let w : z.place < length level = z.within in omega (arith, size)); from_there = subst (λ u. IsFoundFrom u z.place known m) (sym (get_or_append_left level (t ∷ []) no_tableau z.place z.within)) z.from_there })
        | inr b ↦ record { place = length level; within = omega (arith, size); from_there = subst (λ u. IsFoundFrom u (length level) known m) (sym last) (g.each m b) }
      ];
      all = λ place h. elim (eq-or-lt_of_le (let l : place ≤ length level = omega (arith, size, h) in l)) [
        | inr l ↦ subst (λ u. HasAllFound u place known (found ++ more)) (sym (get_or_append_left level (t ∷ []) no_tableau place l)) (λ column r k x new. let z = f.all place l column r k x new in (z.0, Contains-append_left found more z.0 z.1, z.2))
        | inl e ↦ subst₂ (λ p u. HasAllFound u p known (found ++ more)) (sym e) (sym (ap (λ p. get_or (level ++ t ∷ []) p no_tableau) e ∙ last)) (λ column r k x new. let z = g.all column r k x new in (z.0, Contains-append_right found more z.0 z.1, z.2))
      ];
    }
  where
    size : length (level ++ t ∷ []) ≡ length level + 1
    size = length-append level (t ∷ [])

    last : get_or (level ++ t ∷ []) (length level) no_tableau ≡ t
    last = get_or-append_seam level t [] no_tableau

pub found_in_new : (level new : List WholeTableau) (known : List ℕ) (found more all : List FoundPivot) (t : WholeTableau) (n : ℕ) → length level ≡ n → new ≡ level ++ t ∷ [] → all ≡ found ++ more → AreFoundIn level known found → AreFound t n known more → AreFoundIn new known all
found_in_new level new known found more all t n size pushed added f g = subst₂ (λ l a. AreFoundIn l known a) (sym pushed) (sym added) (found_in_more level known found more t f (subst (λ n. AreFound t n known more) (sym size) g))

-- places and variables are numbers of 32 bits
pub found_small : (level : List WholeTableau) (known : List ℕ) (found : List FoundPivot) → AreReady level → length level < 2 ^ 32 → AreFoundIn level known found → AreSmall found
found_small level known found ready few f m c =
    let z = f.each m c in
    let w : z.place < length level = z.within in
    let p : m.parent ≡ z.place = z.from_there.found.parent in
    let b = entering_bounds (get_or level z.place no_tableau) z.from_there.column (ready z.place z.within).digits z.from_there.within in
    let most : get_or (get_or level z.place no_tableau).nonbasics z.from_there.column 0 ≤ 128 = b.1 in
    let e : m.entering ≡ get_or (get_or level z.place no_tableau).nonbasics z.from_there.column 0 = z.from_there.found.entering in
    (omega arith, omega arith)

pub new_pivots_are : (level : List WholeTableau) (known : List ℕ) (found next : List FoundPivot) → AreReady level → length level < 2 ^ 32 → AreFoundIn level known found → IsNextOf found next → AreNewPivots level known next
new_pivots_are level known found next ready few f n = record { found = found; all = f; small = found_small level known found ready few f; firsts = n }

-- ---- the pivots to the next level
pub pivot_is : (level : List WholeTableau) (known : List ℕ) (m : FoundPivot) → IsFoundIn level known m → IsPivot level (pivot_of m)
pivot_is level known m f =
    record {
      parent = subst (λ p. p < length level) (sym f.from_there.found.parent) f.within;
      column = subst (λ p. m.column < length (get_or level p no_tableau).nonbasics) (sym f.from_there.found.parent) (subst (λ c. c < length (get_or level f.place no_tableau).nonbasics) (sym f.from_there.found.column) f.from_there.within);
      row = subst (λ p. IsLeavingRow (get_or level p no_tableau) m.column m.row) (sym f.from_there.found.parent) (subst (λ c. IsLeavingRow (get_or level f.place no_tableau) c m.row) (sym f.from_there.found.column) f.from_there.found.row);
    }

pub target_is_there : (level : List WholeTableau) (known : List ℕ) (m : FoundPivot) → IsFoundIn level known m → m.target ≡ target level (pivot_of m)
target_is_there level known m f = f.from_there.found.target ∙ ap₂ (λ p c. neighbour_of (get_or level p no_tableau) m.row c) (sym f.from_there.found.parent) (sym f.from_there.found.column)

pub entering_is : (level : List WholeTableau) (known : List ℕ) (m : FoundPivot) → IsFoundIn level known m → m.entering ≡ entering level (pivot_of m)
entering_is level known m f = f.from_there.found.entering ∙ ap₂ (λ p c. get_or (get_or level p no_tableau).nonbasics c 0) (sym f.from_there.found.parent) (sym f.from_there.found.column)

-- it is the parent and the column that count
earlier_too : (level : List WholeTableau) (k j m : Pivot) → k.parent ≡ j.parent → k.column ≡ j.column → IsEarlierPivot level j m → IsEarlierPivot level k m
earlier_too level k j m p c (inl l) = inl (subst (λ x. x < m.parent) (sym p) l)
earlier_too level k j m p c (inr q) = inr (p ∙ q.0, subst (λ x. x < entering level m) (ap₂ (λ a b. get_or (get_or level a no_tableau).nonbasics b 0) (sym p) (sym c)) q.1)

-- what comes before in its level has a less order
order_before : (level : List WholeTableau) (known : List ℕ) (k m : FoundPivot) → IsFoundIn level known k → IsFoundIn level known m → k.entering < 2 ^ 32 → order_of m ≤ order_of k → IsEarlierPivot level (pivot_of k) (pivot_of m) → ⊥
order_before level known k m fk fm small le (inl p) = omega arith
order_before level known k m fk fm small le (inr p) =
    let a : k.entering ≡ entering level (pivot_of k) = entering_is level known k fk in
    let b : m.entering ≡ entering level (pivot_of m) = entering_is level known m fm in
    let c : entering level (pivot_of k) < entering level (pivot_of m) = p.1 in
    let d : k.parent ≡ m.parent = p.0 in
    omega arith

targets_same : (level : List WholeTableau) (known : List ℕ) (next : List FoundPivot) → ((m : FoundPivot) → Contains next m → IsFoundIn level known m) → map (target level) (map pivot_of next) ≡ map target_of next
targets_same level known [] h = refl
targets_same level known (m ∷ ms) h = ap₂ (λ x xs. x ∷ xs) (sym (target_is_there level known m (h m (first_in m ms)))) (targets_same level known ms (λ k c. h k (rest_in m k ms c)))

found_of : (next : List FoundPivot) (m : Pivot) → Contains (map pivot_of next) m → (k : FoundPivot) × Contains next k × (pivot_of k ≡ m)
found_of [] m c = absurd (omega (arith, c.1))
found_of (k ∷ ks) m c = elim (in_cases (pivot_of k) m (map pivot_of ks) c) [ inl e ↦ (k, first_in k ks, e) | inr t ↦ (let z = found_of ks m t in (z.0, rest_in k z.0 ks z.1, z.2)) ]

pub next_are : (l : Levels) (known : List ℕ) (found next : List FoundPivot) → AreKnown l known → AreSmall found → AreFoundIn l.level known found → IsNextOf found next → AreNextPivots l (map pivot_of next)
next_are l known found next k small f n = record { each = each; new = new; ascending = subst IsStrictlyIncreasing (sym targets) n.ascending; all = all; first = first }
  where
    of : (m : FoundPivot) → Contains next m → IsFoundIn l.level known m
    of m c = f.each m (n.each m c)

    targets : map (target l.level) (map pivot_of next) ≡ map target_of next
    targets = targets_same l.level known next of

    each : (m : Pivot) → Contains (map pivot_of next) m → IsPivot l.level m
    each m c = let z = found_of next m c in subst (IsPivot l.level) z.2 (pivot_is l.level known z.0 (of z.0 z.1))

    new : (m : Pivot) → Contains (map pivot_of next) m → IsNew l (target l.level m)
    new m c = let z = found_of next m c in subst (λ m. IsNew l (target l.level m)) z.2 (λ b. (of z.0 z.1).from_there.found.new (subst (Contains known) (sym (target_is_there l.level known z.0 (of z.0 z.1))) (k.all _ b)))

    -- a pivot to a new basis is found, and one to the same basis is there that does not come later
    there : (m : Pivot) → IsPivot l.level m → IsNew l (target l.level m) → (x : FoundPivot) × (y : FoundPivot) × Contains found x × Contains next y × (y.target ≡ target l.level m) × (order_of y ≤ order_of x) × (x.parent ≡ m.parent) × (x.column ≡ m.column)
    there m h new =
        let x = f.all m.parent h.parent m.column m.row h.column h.row (λ b. new (k.only _ b)) in
        let y = n.all x.0 x.1 in
        let row : (x.0).row ≡ m.row = lex_row_once _ _ _ _ _ _ (x.2).row h.row in
        (x.0, y.0, x.1, y.1, y.2 ∙ (x.2).target ∙ ap (λ r. neighbour_of (get_or l.level m.parent no_tableau) r m.column) row, y.3, (x.2).parent, (x.2).column)

    all : (m : Pivot) → IsPivot l.level m → IsNew l (target l.level m) → Contains (map (target l.level) (map pivot_of next)) (target l.level m)
    all m h new = let z = there m h new in subst (λ xs. Contains xs (target l.level m)) (sym targets) (subst (Contains (map target_of next)) z.4 (mapped target_of z.1 next z.3))

    first : (m j : Pivot) → Contains (map pivot_of next) m → IsPivot l.level j → target l.level j ≡ target l.level m → ¬ (IsEarlierPivot l.level j m)
    first m j c h e b =
        let z = found_of next m c in
        let new_j = subst (λ t. IsNew l t) (sym e) (new m c) in
        let w = there j h new_j in
        let target_z : (z.0).target ≡ target l.level m = target_is_there l.level known z.0 (of z.0 z.1) ∙ ap (target l.level) z.2 in
        let same : w.1 ≡ z.0 = once_in target_of next w.1 z.0 n.ascending w.3 z.1 (w.4 ∙ e ∙ sym target_z) in
        order_before l.level known w.0 z.0 (f.each w.0 w.2) (of z.0 z.1) (small w.0 w.2).1 (subst (λ y. order_of y ≤ order_of w.0) same w.5)
        (subst (λ m. IsEarlierPivot l.level (pivot_of w.0) m) (sym z.2) (earlier_too l.level (pivot_of w.0) j m w.6 w.7 b))
