-- The lines of the extreme equilibria of the table over the kept strategies, with 0 at removed ones,
-- are those of the game.
use Rattle.std.proofs.Common.{ℕ, zero, suc, ◌<◌, ◌≡◌, ◌==◌, ◌⊎◌, inl, inr, if◌then◌else◌, List, [], ◌∷◌, ◌++◌, length, map, get_or, refl, sym, ap, ap₂, ◌∙◌, subst, subst₂, arith}
use Rattle.std.specs.Prelude.{Contains}
use Rattle.std.proofs.lemmas.Bool.{cases_lt, cases_eq}
use Rattle.std.proofs.lemmas.List.Elements.{Contains-get_or}
use Rattle.std.proofs.lemmas.List.Kept.{AllPairs-from_increasing}
use Rattle.lists.proofs.ElementLemmas.{mapped, unmapped}
use Rattle.rational.specs.Rational.{ℚ, ◌+ℚ◌, ◌<ℚ◌}
use Rattle.game_theory.specs.Profiles.{Game}
use Rattle.game_theory.specs.Mixed.{Mixed}
use Rattle.game_theory.specs.Equilibrium.{IsEquilibrium}
use Rattle.game_theory.specs.Lines.{listed, entries, StandsBefore, AreInOrder}
use Rattle.game_theory.proofs.ReplyLemmas.{IsEquilibrium-same}
use Rattle.game_theory.proofs.LineOrderLemmas.{StandsBefore-append}
use Rattle.game_theory.proofs.ProfileLineLemmas.{listed-same, entries-same, entries-injective, StandsBefore-listed}
use Rattle.extreme_equilibria.specs.ExtremeEquilibria.{with_part, IsExtremeEquilibrium, IsExtremeEquilibriumLine, AreExtremeEquilibria}
use Rattle.extreme_equilibria.specs.KeptTable.{AreKeptLists, kept_table, at_kept, IsZeroAtRemoved}
use Rattle.extreme_equilibria.proofs.KeptListLemmas.{place, contains_or_not}
use Rattle.extreme_equilibria.proofs.KeptTableLemmas.{are-kept, at-within, off-list, kept-count}
use Rattle.extreme_equilibria.proofs.ExtremeEquilibriaLemmas.{extreme-kept}

-- ---- lines
-- one line stands before another at an entry of the first part, or the first parts are equal
before-split : (n : ℕ) (f g : ℕ → ℚ) (xs ys : List ℚ) → StandsBefore (listed n f ++ xs) (listed n g ++ ys)
    → ((c : ℕ) × (c < n) × ((j : ℕ) → j < c → f j ≡ g j) × (g c <ℚ f c)) ⊎ (((j : ℕ) → j < n → f j ≡ g j) × StandsBefore xs ys)
before-split zero f g xs ys h = inr (λ j l. absurd (omega (arith, l)), h)
before-split (suc n) f g xs ys (inl less) = inl (0, omega arith, λ j l. absurd (omega (arith, l)), less)
before-split (suc n) f g xs ys (inr rest) = elim (before-split n (λ i. f (suc i)) (λ i. g (suc i)) xs ys rest.1) [
  | inl d ↦ inl (suc d.0, omega (arith, d.1), from d.0 d.2, d.3)
  | inr e ↦ inr (from n e.0, e.1)
]
  where
    from : (c : ℕ) → ((j : ℕ) → j < c → f (suc j) ≡ g (suc j)) → (j : ℕ) → j < suc c → f j ≡ g j
    from c h zero l = rest.0
    from c h (suc j) l = h j (omega (arith, l))

-- an extreme equilibrium by its probabilities
extreme-same : (g : Game) (m n : Mixed) → ((i s : ℕ) → i < length g.strategies → s < get_or g.strategies i 0 → m i s ≡ n i s) → IsExtremeEquilibrium g m → IsExtremeEquilibrium g n
extreme-same g m n same e =
    record {
      equilibrium = IsEquilibrium-same g m n same e.equilibrium;
      alone = λ i l p q first second mid. e.alone i l p q (part i p first) (part i q second) (λ s b. mid s b ∙ ap₂ (λ x y. x +ℚ y) (sym (same i s l b)) (sym (same i s l b)));
    }
  where
    part : (i : ℕ) (p : ℕ → ℚ) → IsEquilibrium g (with_part n i p) → IsEquilibrium g (with_part m i p)
    part i p h = IsEquilibrium-same g (with_part n i p) (with_part m i p) (λ j t b c. ap (λ x. if j == i then p t else x) (sym (same j t b c))) h

-- ---- spread lines
-- a line of the table over the kept strategies, and the same with 0 at removed strategies
pub record AreSpread (g : Game) (kept : List (List ℕ)) (line wide : List ℚ) : Type 0 where
  pub profile : Mixed
  pub zero_at_removed : IsZeroAtRemoved g profile
  pub is_line : line ≡ entries (kept_table g kept).strategies (at_kept kept profile)
  pub is_wide : wide ≡ entries g.strategies profile

module _ (g : Game) (first second : List ℕ) (m n : ℕ) (are : g.strategies ≡ m ∷ n ∷ []) (lists : AreKeptLists g (first ∷ second ∷ [])) where
  abbrev kept : List (List ℕ)
  kept = first ∷ second ∷ []

  two : length g.strategies ≡ 2
  two = ap length are

  module _ (p q : Mixed) (off : IsZeroAtRemoved g p) (off' : IsZeroAtRemoved g q) where
    -- equal where the kept strategies there have equal probabilities
    agree : (i s : ℕ) → i < 2 → s < get_or g.strategies i 0 → ((k : ℕ) → k < length (get_or kept i []) → get_or (get_or kept i []) k 0 ≡ s → at_kept kept p i k ≡ at_kept kept q i k) → p i s ≡ q i s
    agree i s l b same = elim (contains_or_not cases_eq (get_or kept i []) s) [
      | inl c ↦ let at = place (get_or kept i []) s 0 c in subst (λ x. p i x ≡ q i x) at.2 (same at.0 at.1 at.2)
      | inr none ↦ off-list g kept two lists p off i s l b none ∙ sym (off-list g kept two lists q off' i s l b none)
    ]

    -- equal before a kept strategy where those before it have equal probabilities
    agree-before : (i c : ℕ) → i < 2 → c < length (get_or kept i []) → ((j : ℕ) → j < c → at_kept kept p i j ≡ at_kept kept q i j) → (s : ℕ) → s < get_or (get_or kept i []) c 0 → p i s ≡ q i s
    agree-before i c l inside same s b = agree i s l (omega (arith, b, at-within g kept two lists i c l inside)) (λ k h e. elim (cases_lt k c) [
      | inl before ↦ same k before
      | inr after ↦ absurd (elim (cases_eq k c) [
        | inl last ↦ omega (arith, b, e, ap (λ x. get_or (get_or kept i []) x 0) last)
        | inr apart ↦ omega (arith, b, e, AllPairs-from_increasing (get_or kept i []) (are-kept g kept two lists i l).ascending c k 0 (omega (arith, after, apart)) h)
      ])
    ])

    -- the wide line stands before the other
    before-wide : StandsBefore (entries (kept_table g kept).strategies (at_kept kept p)) (entries (kept_table g kept).strategies (at_kept kept q)) → StandsBefore (entries (m ∷ n ∷ []) p) (entries (m ∷ n ∷ []) q)
    before-wide h = elim (before-split (length first) (at_kept kept p 0) (at_kept kept q 0) _ _ h) [
      | inl d ↦ StandsBefore-listed m (get_or first d.0 0) (p 0) (q 0) _ _ (omega (arith, at-within g kept two lists 0 d.0 (omega arith) d.1, ap (λ ns. get_or ns 0 0) are)) (agree-before 0 d.0 (omega arith) d.1 d.2) d.3
      | inr e ↦ elim (before-split (length second) (at_kept kept p 1) (at_kept kept q 1) [] [] e.1) [
        | inl d ↦ subst (λ xs. StandsBefore (entries (m ∷ n ∷ []) p) (xs ++ (listed n (q 1) ++ []))) (listed-same m (p 0) (q 0) (λ s b. agree 0 s (omega arith) (omega (arith, b, ap (λ ns. get_or ns 0 0) are)) (λ k l _. e.0 k l)))
            (StandsBefore-append (listed m (p 0)) _ _ (StandsBefore-listed n (get_or second d.0 0) (p 1) (q 1) [] [] (omega (arith, at-within g kept two lists 1 d.0 (omega arith) d.1, ap (λ ns. get_or ns 1 0) are)) (agree-before 1 d.0 (omega arith) d.1 d.2) d.3))
        | inr z ↦ absurd z.1
      ]
    ]

    -- where the lines of the table are equal
    same-wide : entries (kept_table g kept).strategies (at_kept kept p) ≡ entries (kept_table g kept).strategies (at_kept kept q) → entries g.strategies p ≡ entries g.strategies q
    same-wide h =
        entries-same g.strategies p q (λ i s l b. agree i s (omega (arith, l, two)) b (λ k c _.
        entries-injective (kept_table g kept).strategies (at_kept kept p) (at_kept kept q) h i k (omega (arith, l, two)) (omega (arith, c, kept-count kept i))))

  -- the first wide line stands before the second
  spread-before : (a b c d : List ℚ) → AreSpread g kept a c → AreSpread g kept b d → StandsBefore a b → StandsBefore c d
  spread-before a b c d h k s =
      subst₂ StandsBefore (ap (λ ns. entries ns h.profile) (sym are) ∙ sym h.is_wide) (ap (λ ns. entries ns k.profile) (sym are) ∙ sym k.is_wide)
      (before-wide h.profile k.profile h.zero_at_removed k.zero_at_removed (subst₂ StandsBefore h.is_line k.is_line s))

  module _ {X : Type 0} (line wide : X → List ℚ) where
    spread-order : (xs : List X) → ((x : X) → Contains xs x → AreSpread g kept (line x) (wide x)) → AreInOrder (map line xs) → AreInOrder (map wide xs)
    spread-order [] each h = tt
    spread-order (x ∷ []) each h = tt
    spread-order (x ∷ y ∷ xs) each h = (spread-before (line x) (line y) (wide x) (wide y) (each x (0, omega arith, refl)) (each y (1, omega arith, refl)) h.0, spread-order (y ∷ xs) (λ z c. each z (suc c.0, omega (arith, c.1), c.2)) h.1)

    -- the lines of the table, spread, are the game's
    pub spread-lines : (xs : List X) → ((x : X) → Contains xs x → AreSpread g kept (line x) (wide x)) → AreExtremeEquilibria (kept_table g kept) (map line xs) → AreExtremeEquilibria g (map wide xs)
    spread-lines xs each h = record {
      in_order = spread-order xs each h.in_order;
      sound = λ k d l.
          let at = unmapped wide (get_or (map wide xs) k d) xs (Contains-get_or (map wide xs) k d l) in
          let s = each at.0 at.1 in
          let c = mapped line at.0 xs at.1 in
          let e = sound-at (line at.0) c in
          record {
            profile = s.profile;
            is_extreme = (extreme-kept g kept s.profile two lists).1 (s.zero_at_removed, extreme-same (kept_table g kept) e.profile (at_kept kept s.profile) (entries-injective (kept_table g kept).strategies e.profile (at_kept kept s.profile) (sym e.is_line ∙ s.is_line)) e.is_extreme);
            is_line = sym at.2 ∙ s.is_wide;
          };
      complete = λ p e.
          let k = (extreme-kept g kept p two lists).0 e in
          let at = unmapped line (entries (kept_table g kept).strategies (at_kept kept p)) xs (h.complete (at_kept kept p) k.1) in
          let s = each at.0 at.1 in
          subst (Contains (map wide xs)) (s.is_wide ∙ sym (same-wide p s.profile k.0 s.zero_at_removed (sym at.2 ∙ s.is_line))) (mapped wide at.0 xs at.1);
    }
      where
        sound-at : (z : List ℚ) → Contains (map line xs) z → IsExtremeEquilibriumLine (kept_table g kept) z
        sound-at z c = subst (IsExtremeEquilibriumLine (kept_table g kept)) c.2 (h.sound c.0 z c.1)
