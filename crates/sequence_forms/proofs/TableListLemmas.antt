-- Sequence forms of tables that are written as lists.
use Rattle.std.proofs.Common.{ℕ, zero, suc, ◌+◌, ◌<◌, ◌≡◌, Bool, true, false, Decides, List, [], ◌∷◌, map, refl, sym, ap, ap₂, ◌∙◌, subst, arith, tests}
use Rattle.std.specs.Prelude.{slice_index, ◌==◌, ◌&&◌, if◌then◌else◌}
use Rattle.std.specs.List.{range_with_len}
use Rattle.std.proofs.lemmas.Bool.Decides.{Decides-and, Decides-eqb}
use Rattle.rational.specs.Rational.{ℚ, ◌+ℚ◌, ◌*ℚ◌, zero_ℚ, one_ℚ}
use Rattle.rational.specs.Sum.{sum_to}
use Rattle.rational.proofs.Rules.{one-*ℚ, zero-*ℚ}
use Rattle.rational.proofs.SumLemmas.{sum_to-first, sum_to-same, sum_to-single, sum_to-zeros}
use Rattle.game_theory.specs.Profiles.{profile_count, number_of, profile_at}
use Rattle.game_theory.specs.Mixed.{sure}
use Rattle.game_theory.proofs.SureStrategyLemmas.{sure-other}
use Rattle.game_theory.proofs.ProfileNumberLemmas.{number_of-below, profile_at-number_of, number_of-profile_at}
use Rattle.sequence_forms.specs.Alike.{SidesAlike}
use Rattle.sequence_forms.specs.Sides.{sequences}
use Rattle.sequence_forms.specs.Forms.{after_both, one_set}
use Rattle.sequence_forms.specs.Lists.{Entry, listed_at, side_of_lists, profile_entries}
use Rattle.sequence_forms.specs.ListLaws.{ProfilesAreListed, TableListsMakeTheForm}
use Rattle.sequence_forms.proofs.AlikeFormLemmas.{counts}

-- an entry at a row and column
abbrev at_cell : ℕ → ℕ → Entry → ℚ
at_cell r q entry = if r == entry.0 && q == entry.1 then entry.2 else zero_ℚ

-- a list over numbers in order is a sum
listed_range : (entry : ℕ → Entry) (r q a n : ℕ) → listed_at (map entry (range_with_len a n)) r q ≡ sum_to n (λ k. at_cell r q (entry (a + k)))
listed_range entry r q a zero = refl
listed_range entry r q a (suc n) =
    let here : a ≡ a + 0 = omega arith in
    ap₂ (λ u v. u +ℚ v) (ap (λ k. at_cell r q (entry k)) here) (listed_range entry r q (a + 1) n ∙ sum_to-same n _ _ (λ k l. let e : a + 1 + k ≡ a + suc k = omega arith in ap (λ i. at_cell r q (entry i)) e))
    ∙ sym (sum_to-first n (λ k. at_cell r q (entry (a + k))))

-- the entry of a profile
abbrev profile_entry : ℕ → ℕ → (ℕ → ℚ) → ℕ → Entry
profile_entry m n f k =
    let profile : List ℕ = profile_at (m ∷ n ∷ []) k in (suc (slice_index profile 0), suc (slice_index profile 1), f k)

-- a number in its place, where a test says which
only_there : (b : Bool) (c k : ℕ) (v : ℚ) → Decides b (k ≡ c) → (if b then v else zero_ℚ) ≡ sure c k *ℚ v
only_there true c k v d = let e : k ≡ c = d.0 refl in let one : sure c k ≡ one_ℚ = grind (arith, tests) in sym (ap (λ u. u *ℚ v) one ∙ one-*ℚ v)
only_there false c k v d =
    sym (ap (λ u. u *ℚ v) (sure-other c k (λ e. let q : false ≡ true = d.1 e in cc)) ∙ zero-*ℚ v)

-- the strategies of a profile
abbrev strategy_at : ℕ → ℕ → ℕ → ℕ → ℕ
strategy_at m n k i = slice_index (profile_at (m ∷ n ∷ []) k) i

-- a profile stands at the sequences of its strategies alone
stands_at : (m n r q k : ℕ) → r < m → q < n → k < profile_count (m ∷ n ∷ []) → Decides (suc r == suc (slice_index (profile_at (m ∷ n ∷ []) k) 0) && suc q == suc (slice_index (profile_at (m ∷ n ∷ []) k) 1)) (k ≡ number_of (m ∷ n ∷ []) (r ∷ q ∷ []))
stands_at m n r q k h l b =
    let ns : List ℕ = m ∷ n ∷ [] in
    let strategies : List ℕ = r ∷ q ∷ [] in
    let test = Decides-and (suc r == suc (slice_index (profile_at ns k) 0)) (suc q == suc (slice_index (profile_at ns k) 1)) (Decides-eqb (suc r) (suc (slice_index (profile_at ns k) 0))) (Decides-eqb (suc q) (suc (slice_index (profile_at ns k) 1))) in (
      λ t. let p = test.0 t in
          let first : r ≡ slice_index (profile_at ns k) 0 = omega (arith, p.0) in
          let second : q ≡ slice_index (profile_at ns k) 1 = omega (arith, p.1) in
          sym (number_of-profile_at ns k b) ∙ ap₂ (λ u v. number_of ns (u ∷ v ∷ [])) (sym first) (sym second),
      λ e. let same : profile_at ns k ≡ strategies = ap (profile_at ns) e ∙ profile_at-number_of ns strategies (h, (l, tt)) in
          test.1 (ap (λ s. suc (slice_index s 0)) (sym same), ap (λ s. suc (slice_index s 1)) (sym same)),
    )

-- no profile stands at the empty sequences
not_empty : (x : ℕ) (c : Bool) (v : ℚ) → (if 0 == suc x && c then v else zero_ℚ) ≡ zero_ℚ
not_empty x c v = go (0 == suc x) (Decides-eqb 0 (suc x))
  where
    go : (b : Bool) → Decides b (0 ≡ suc x) → (if b && c then v else zero_ℚ) ≡ zero_ℚ
    go true d = absurd (omega (arith, d.0 refl))
    go false d = refl

nor_empty : (b : Bool) (y : ℕ) (v : ℚ) → (if b && 0 == suc y then v else zero_ℚ) ≡ zero_ℚ
nor_empty true y v = go (0 == suc y) (Decides-eqb 0 (suc y))
  where
    go : (b : Bool) → Decides b (0 ≡ suc y) → (if b then v else zero_ℚ) ≡ zero_ℚ
    go true d = absurd (omega (arith, d.0 refl))
    go false d = refl
nor_empty false y v = refl

-- the profiles' entries
pub profiles_listed : ProfilesAreListed
profiles_listed m n f r q h l = sym (listed_range (profile_entry m n f) r q 0 (profile_count (m ∷ n ∷ [])) ∙ sum_to-same (profile_count (m ∷ n ∷ [])) _ (λ k. at_cell r q (profile_entry m n f k)) (λ k b. let e : 0 + k ≡ k = omega arith in ap (λ i. at_cell r q (profile_entry m n f i)) e) ∙ go r q h l)
  where
    go : (r q : ℕ) → r < suc m → q < suc n → sum_to (profile_count (m ∷ n ∷ [])) (λ k. at_cell r q (profile_entry m n f k)) ≡ after_both (λ r q. f (number_of (m ∷ n ∷ []) (r ∷ q ∷ []))) r q
    go zero q h l = sum_to-zeros (profile_count (m ∷ n ∷ [])) _ (λ k b. not_empty (strategy_at m n k 0) (q == suc (strategy_at m n k 1)) (f k))
    go (suc r) zero h l = sum_to-zeros (profile_count (m ∷ n ∷ [])) _ (λ k b. nor_empty (suc r == suc (strategy_at m n k 0)) (strategy_at m n k 1) (f k))
    go (suc r) (suc q) h l =
        sum_to-same (profile_count (m ∷ n ∷ [])) _ _ (λ k b. only_there (suc r == suc (strategy_at m n k 0) && suc q == suc (strategy_at m n k 1)) (number_of (m ∷ n ∷ []) (r ∷ q ∷ [])) k (f k) (stands_at m n r q k (omega arith) (omega arith) b))
        ∙ sum_to-single (profile_count (m ∷ n ∷ [])) (number_of (m ∷ n ∷ []) (r ∷ q ∷ [])) f (number_of-below (m ∷ n ∷ []) (r ∷ q ∷ []) (omega arith, (omega arith, tt)))

-- one set
one_listed : (n : ℕ) (befores counts : List ℕ) → befores ≡ 0 ∷ [] → counts ≡ n ∷ [] → SidesAlike (side_of_lists befores counts) (one_set n)
one_listed n befores counts b c = subst (λ xs. SidesAlike (side_of_lists xs counts) (one_set n)) (sym b) (subst (λ xs. SidesAlike (side_of_lists (0 ∷ []) xs) (one_set n)) (sym c) (record { sets = refl; before = before; count = count }))
  where
    before : (j : ℕ) → j < 1 → slice_index (0 ∷ []) j ≡ 0
    before zero h = refl
    before (suc j) h = absurd (omega arith)

    count : (j : ℕ) → j < 1 → slice_index (n ∷ []) j ≡ n
    count zero h = refl
    count (suc j) h = absurd (omega arith)

-- the lists of a table make its form
pub table_lists_make : TableListsMakeTheForm
table_lists_make g m n lists a =
    let rows = one_listed m lists.row_befores lists.row_counts a.row_befores a.row_counts in
    let columns = one_listed n lists.column_befores lists.column_counts a.column_befores a.column_counts in
    record {
      rows = rows;
      columns = columns;
      weight = λ r q h l. a.weights r q ∙ sym (at_form (λ k. one_ℚ) r q (subst (λ s. r < s) (counts (side_of_lists lists.row_befores lists.row_counts) (one_set m) rows) h) (subst (λ s. q < s) (counts (side_of_lists lists.column_befores lists.column_counts) (one_set n) columns) l));
      pays = λ i r q b h l. a.pays i r q b ∙ sym (at_form (g.pays i) r q (subst (λ s. r < s) (counts (side_of_lists lists.row_befores lists.row_counts) (one_set m) rows) h) (subst (λ s. q < s) (counts (side_of_lists lists.column_befores lists.column_counts) (one_set n) columns) l));
    }
  where
    at_form : (f : ℕ → ℚ) (r q : ℕ) → r < sequences (one_set m) → q < sequences (one_set n) → after_both (λ r q. f (number_of (m ∷ n ∷ []) (r ∷ q ∷ []))) r q ≡ listed_at (profile_entries m n f) r q
    at_form f r q h l = profiles_listed m n f r q (omega arith) (omega arith)
