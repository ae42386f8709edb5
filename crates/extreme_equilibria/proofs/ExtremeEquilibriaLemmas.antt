-- The extreme equilibria of a game of two players are those of the table of the kept strategies.
use Rattle.std.proofs.Common.{ℕ, ◌<◌, ◌≡◌, ◌⊎◌, inl, inr, Bool, true, false, Decides, cond, eqb, List, [], length, get_or, refl, sym, ap, ap₂, ◌∙◌, subst, arith}
use Rattle.std.specs.Prelude.{Contains}
use Rattle.std.proofs.lemmas.Bool.{cases_eq}
use Rattle.std.proofs.lemmas.Bool.Decides.{Decides-eqb}
use Rattle.std.proofs.lemmas.List.Elements.{Contains-get_or}
use Rattle.rational.specs.Rational.{ℚ, ◌+ℚ◌, zero_ℚ}
use Rattle.game_theory.specs.Profiles.{Game}
use Rattle.game_theory.specs.Mixed.{Mixed}
use Rattle.game_theory.specs.Equilibrium.{IsEquilibrium}
use Rattle.game_theory.proofs.ReplyLemmas.{IsEquilibrium-same}
use Rattle.extreme_equilibria.proofs.TwoPlayerLemmas.{with_part-at, with_part-other}
use Rattle.extreme_equilibria.specs.Elimination.{IsKept}
use Rattle.extreme_equilibria.specs.KeptTable.{AreKeptLists, kept_table, at_kept, IsZeroAtRemoved}
use Rattle.extreme_equilibria.specs.ExtremeEquilibria.{with_part, IsMidpoint, IsNoMidpoint, IsExtremeEquilibrium}
use Rattle.extreme_equilibria.specs.KeptLaws.{ExtremeEquilibriaOfTheKeptTable, ProfilesAreSpread}
use Rattle.extreme_equilibria.proofs.RoundLemmas.{kept-within}
use Rattle.extreme_equilibria.proofs.KeptListLemmas.{place, contains_or_not, one_place, ascending-apart}
use Rattle.extreme_equilibria.proofs.KeptTableLemmas.{kept-count, table-two, are-kept, off-list, equilibria-kept}

-- ---- a part of the kept table, with 0 at removed strategies
-- the number at the place where a strategy stands, and 0 where it stands nowhere
spread_at : (xs : List ℕ) (p : ℕ → ℚ) (s : ℕ) → Contains xs s ⊎ (Contains xs s → ⊥) → ℚ
spread_at xs p s (inl c) = p (place xs s 0 c).0
spread_at xs p s (inr none) = zero_ℚ

spread : List ℕ → (ℕ → ℚ) → ℕ → ℚ
spread xs p s = spread_at xs p s (contains_or_not cases_eq xs s)

module _ (g : Game) (kept : List (List ℕ)) (two : length g.strategies ≡ 2) (lists : AreKeptLists g kept) (i : ℕ) (l : i < 2) (p : ℕ → ℚ) where
  -- at a place of the list
  spread-at : (j : ℕ) → j < length (get_or kept i []) → spread (get_or kept i []) p (get_or (get_or kept i []) j 0) ≡ p j
  unfolding spread spread_at
  spread-at j h = go (contains_or_not cases_eq (get_or kept i []) (get_or (get_or kept i []) j 0))
    where
      go : (c : Contains (get_or kept i []) (get_or (get_or kept i []) j 0) ⊎ (Contains (get_or kept i []) (get_or (get_or kept i []) j 0) → ⊥)) → spread_at (get_or kept i []) p (get_or (get_or kept i []) j 0) c ≡ p j
      go (inl c) = let at = place (get_or kept i []) (get_or (get_or kept i []) j 0) 0 c in ap p (one_place (get_or kept i []) 0 (ascending-apart (get_or kept i []) (are-kept g kept two lists i l).ascending) at.0 j at.1 h at.2)
      go (inr none) = absurd (none (Contains-get_or (get_or kept i []) j 0 h))

  -- off the list
  spread-off : (s : ℕ) → (Contains (get_or kept i []) s → ⊥) → spread (get_or kept i []) p s ≡ zero_ℚ
  unfolding spread spread_at
  spread-off s off = go (contains_or_not cases_eq (get_or kept i []) s)
    where
      go : (c : Contains (get_or kept i []) s ⊎ (Contains (get_or kept i []) s → ⊥)) → spread_at (get_or kept i []) p s c ≡ zero_ℚ
      go (inl c) = absurd (off c)
      go (inr none) = refl

-- ---- parts of the game and of the table
module _ (g : Game) (kept : List (List ℕ)) (m : Mixed) (two : length g.strategies ≡ 2) (lists : AreKeptLists g kept) where
  -- the kept strategies' probabilities where a player's part is another
  part-at_kept : (i : ℕ) (p : ℕ → ℚ) (j k : ℕ) → at_kept kept (with_part m i p) j k ≡ with_part (at_kept kept m) i (λ k. p (get_or (get_or kept i []) k 0)) j k
  part-at_kept i p j k = go (eqb j i) (Decides-eqb j i)
    where
      go : (b : Bool) → Decides b (j ≡ i) → cond b (p (get_or (get_or kept j []) k 0)) (m j (get_or (get_or kept j []) k 0)) ≡ cond b (p (get_or (get_or kept i []) k 0)) (m j (get_or (get_or kept j []) k 0))
      go true d = ap (λ x. p (get_or (get_or kept x []) k 0)) (d.0 refl)
      go false d = refl

  -- an equilibrium with another part of a player is one of the table
  part-to_table : (i : ℕ) (p : ℕ → ℚ) → IsEquilibrium g (with_part m i p) → IsZeroAtRemoved g (with_part m i p) × IsEquilibrium (kept_table g kept) (with_part (at_kept kept m) i (λ k. p (get_or (get_or kept i []) k 0)))
  part-to_table i p e =
      let h = (equilibria-kept g kept (with_part m i p) two lists).0 e in
      (h.0, IsEquilibrium-same (kept_table g kept) (at_kept kept (with_part m i p)) _ (λ j k b c. part-at_kept i p j k) h.1)

  -- and a part of the table with which it has an equilibrium, with 0 at removed strategies, is one of the game
  part-from_table : IsZeroAtRemoved g m → (i : ℕ) (p : ℕ → ℚ) → i < 2 → IsEquilibrium (kept_table g kept) (with_part (at_kept kept m) i p) → IsEquilibrium g (with_part m i (spread (get_or kept i []) p))
  part-from_table off i p l e = (equilibria-kept g kept (with_part m i (spread (get_or kept i []) p)) two lists).1 (zero, IsEquilibrium-same (kept_table g kept) (with_part (at_kept kept m) i p) _ same e)
    where
      q : ℕ → ℚ
      q = spread (get_or kept i []) p

      zero : IsZeroAtRemoved g (with_part m i (spread (get_or kept i []) p))
      zero j s h b removed = elim (cases_eq j i) [
        | inl own ↦ ap (λ x. with_part m i (spread (get_or kept i []) p) x s) own ∙ with_part-at m i (spread (get_or kept i []) p) s ∙ spread-off g kept two lists i l p s (λ c. removed (subst (λ x. IsKept g x s) (sym own) ((are-kept g kept two lists i l).sound s c)))
        | inr apart ↦ with_part-other m i j (spread (get_or kept i []) p) s apart ∙ off j s h b removed
      ]

      same : (j k : ℕ) → j < length (kept_table g kept).strategies → k < get_or (kept_table g kept).strategies j 0 → with_part (at_kept kept m) i p j k ≡ at_kept kept (with_part m i (spread (get_or kept i []) p)) j k
      same j k h b = elim (cases_eq j i) [
        | inl own ↦ ap (λ x. with_part (at_kept kept m) i p x k) own ∙ with_part-at (at_kept kept m) i p k ∙ sym (spread-at g kept two lists i l p k (omega (arith, b, kept-count kept j, ap (λ x. length (get_or kept x [])) own)))
            ∙ sym (with_part-at (at_kept kept m) i (λ k. spread (get_or kept i []) p (get_or (get_or kept i []) k 0)) k) ∙ ap (λ x. with_part (at_kept kept m) i (λ k. spread (get_or kept i []) p (get_or (get_or kept i []) k 0)) x k) (sym own) ∙ sym (part-at_kept i (spread (get_or kept i []) p) j k)
        | inr apart ↦ with_part-other (at_kept kept m) i j p k apart ∙ sym (with_part-other (at_kept kept m) i j (λ k. spread (get_or kept i []) p (get_or (get_or kept i []) k 0)) k apart) ∙ sym (part-at_kept i (spread (get_or kept i []) p) j k)
      ]

  -- an extreme equilibrium is one of the table
  extreme-to_table : IsExtremeEquilibrium g m → IsZeroAtRemoved g m × IsExtremeEquilibrium (kept_table g kept) (at_kept kept m)
  extreme-to_table e = (h.0, record { equilibrium = h.1; alone = alone })
    where
      h : IsZeroAtRemoved g m × IsEquilibrium (kept_table g kept) (at_kept kept m)
      h = (equilibria-kept g kept m two lists).0 e.equilibrium

      alone : (i : ℕ) → i < length (kept_table g kept).strategies → IsNoMidpoint (get_or (kept_table g kept).strategies i 0) (λ p. IsEquilibrium (kept_table g kept) (with_part (at_kept kept m) i p)) (at_kept kept m i)
      alone i b p q first second mid k c =
          let l : i < 2 = omega (arith, b, table-two g kept two lists) in
          let inside : k < length (get_or kept i []) = omega (arith, c, kept-count kept i) in
          let one = e.alone i (omega arith) (spread (get_or kept i []) p) (spread (get_or kept i []) q) (part-from_table h.0 i p l first) (part-from_table h.0 i q l second) (middle i l p q mid) in
          sym (spread-at g kept two lists i l p k inside) ∙ one (get_or (get_or kept i []) k 0) (at_in i k l inside) ∙ spread-at g kept two lists i l q k inside
        where
          at_in : (i k : ℕ) → i < 2 → k < length (get_or kept i []) → get_or (get_or kept i []) k 0 < get_or g.strategies i 0
          at_in i k l c = kept-within g 0 i (get_or (get_or kept i []) k 0) ((are-kept g kept two lists i l).sound _ (Contains-get_or (get_or kept i []) k 0 c) 0)

          middle : (i : ℕ) → i < 2 → (p q : ℕ → ℚ) → IsMidpoint (get_or (kept_table g kept).strategies i 0) p q (at_kept kept m i) → IsMidpoint (get_or g.strategies i 0) (spread (get_or kept i []) p) (spread (get_or kept i []) q) (m i)
          middle i l p q mid s b = elim (contains_or_not cases_eq (get_or kept i []) s) [
            | inl c ↦ let at = place (get_or kept i []) s 0 c in
                subst (λ x. spread (get_or kept i []) p x +ℚ spread (get_or kept i []) q x ≡ m i x +ℚ m i x) at.2 (ap₂ (λ x y. x +ℚ y) (spread-at g kept two lists i l p at.0 at.1) (spread-at g kept two lists i l q at.0 at.1) ∙ mid at.0 (omega (arith, at.1, kept-count kept i)))
            | inr none ↦ let z = off-list g kept two lists m h.0 i s l b none in
                ap₂ (λ x y. x +ℚ y) (spread-off g kept two lists i l p s none ∙ sym z) (spread-off g kept two lists i l q s none ∙ sym z)
          ]

  -- and an extreme equilibrium of the table, with 0 at removed strategies, is one of the game
  extreme-from_table : IsZeroAtRemoved g m → IsExtremeEquilibrium (kept_table g kept) (at_kept kept m) → IsExtremeEquilibrium g m
  extreme-from_table off e = record { equilibrium = (equilibria-kept g kept m two lists).1 (off, e.equilibrium); alone = alone }
    where
      alone : (i : ℕ) → i < length g.strategies → IsNoMidpoint (get_or g.strategies i 0) (λ p. IsEquilibrium g (with_part m i p)) (m i)
      alone i b p q first second mid s c =
          let l : i < 2 = omega arith in
          let one = part-to_table i p first in
          let other = part-to_table i q second in
          let at_places = e.alone i (omega (arith, l, table-two g kept two lists)) _ _ one.1 other.1 (λ k h. mid (get_or (get_or kept i []) k 0) (at_in i k l (omega (arith, h, kept-count kept i)))) in
          elim (contains_or_not cases_eq (get_or kept i []) s) [
            | inl inside ↦ let at = place (get_or kept i []) s 0 inside in subst (λ x. p x ≡ q x) at.2 (at_places at.0 (omega (arith, at.1, kept-count kept i)))
            | inr none ↦ sym (with_part-at m i p s) ∙ off-list g kept two lists (with_part m i p) one.0 i s l c none ∙ sym (off-list g kept two lists (with_part m i q) other.0 i s l c none) ∙ with_part-at m i q s
          ]
        where
          at_in : (i k : ℕ) → i < 2 → k < length (get_or kept i []) → get_or (get_or kept i []) k 0 < get_or g.strategies i 0
          at_in i k l c = kept-within g 0 i (get_or (get_or kept i []) k 0) ((are-kept g kept two lists i l).sound _ (Contains-get_or (get_or kept i []) k 0 c) 0)

-- the extreme equilibria are those of the kept table, with 0 at removed strategies
pub extreme-kept : ExtremeEquilibriaOfTheKeptTable
extreme-kept g kept m two lists = (extreme-to_table g kept m two lists, λ h. extreme-from_table g kept m two lists h.0 h.1)

-- each profile of the kept table is spread over the game's strategies
pub profiles-spread : ProfilesAreSpread
profiles-spread g kept k two lists = (
  λ i. spread (get_or kept i []) (k i),
  record {
    zero_at_removed = λ i s l b removed. spread-off g kept two lists i (omega arith) (k i) s (λ c. removed ((are-kept g kept two lists i (omega arith)).sound s c));
    same_at_kept = λ i j l b. spread-at g kept two lists i (omega (arith, l, lists.one_for_each, two)) (k i) j (omega (arith, b, kept-count kept i));
  },
)
