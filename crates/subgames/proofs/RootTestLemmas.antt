-- At each node of a tree a subgame begins or not, and it is decided which.
use Rattle.std.proofs.Common.{ℕ, zero, suc, ◌<◌, ◌≡◌, ◌⊎◌, inl, inr, Bool, true, false, Option, Some, None, length, refl, sym, ◌∙◌, subst, arith}
use Rattle.std.specs.Prelude.{◌↔◌, nat_eq}
use Rattle.std.proofs.lemmas.Bool.{cases_eq}
use Rattle.game_theory.specs.Behaviour.{is_index}
use Rattle.game_theory.specs.OwnSets.{Chooses, NobodyChooses, numbers_with}
use Rattle.game_theory.specs.Trees.{Tree, IsTree, IsWithin}
use Rattle.game_theory.proofs.OwnSetLemmas.{is_index-decides}
use Rattle.game_theory.proofs.PathLemmas.{along_paths}
use Rattle.game_theory.proofs.SubtreeOrderLemmas.{within-after, within-parent}
use Rattle.subgames.specs.Roots.{BeginsAlone, HasWholeSets, IsSubgameRoot}
use Rattle.subgames.proofs.RootLemmas.{begins_alone-of_player}

-- ---- what is decided
-- something holds or not
abbrev IsDecided : Type 0 → Type 0
IsDecided P = P ⊎ (P → ⊥)

-- what a test tells holds or not
tested_or_not : {P : Type 0} (test : Bool) → (test ≡ true) ↔ P → IsDecided P
tested_or_not true is = inl (is.0 refl)
tested_or_not false is = inr (λ p. let e : false ≡ true = is.1 p in cc)

-- one follows from another or not
follows_or_not : {P Q : Type 0} → IsDecided P → IsDecided Q → IsDecided (P → Q)
follows_or_not (inr other) q = inl (λ p. absurd (other p))
follows_or_not (inl p) (inl q) = inl (λ _. q)
follows_or_not (inl p) (inr other) = inr (λ h. other (h p))

-- something holds of each number below n or not
each_or_not : (P : ℕ → Type 0) (n : ℕ) → ((k : ℕ) → k < n → IsDecided (P k)) → IsDecided ((k : ℕ) → k < n → P k)
each_or_not P zero decide = inl (λ k l. absurd (omega (arith, l)))
each_or_not P (suc n) decide = elim (each_or_not P n (λ k l. decide k (omega (arith, l)))) [
  | inr other ↦ inr (λ h. other (λ k l. h k (omega (arith, l))))
  | inl before ↦ elim (decide n (omega arith)) [
    | inr other ↦ inr (λ h. other (h n (omega arith)))
    | inl last ↦ inl (λ k l. elim (cases_eq k n) [ inl same ↦ subst P (sym same) last | inr other ↦ before k (omega (arith, l, other)) ])
  ]
]

-- ---- where a subgame begins
-- a player chooses at a node, or nobody
player_or_nobody : (t : Tree) (k : ℕ) → ((i : ℕ) × (s : ℕ) × Chooses t k i s) ⊎ NobodyChooses t k
player_or_nobody t k = at (t.set k) refl
  where
    of : (s : ℕ) → t.set k ≡ Some s → (o : Option ℕ) → t.owner s ≡ o → ((i : ℕ) × (s : ℕ) × Chooses t k i s) ⊎ NobodyChooses t k
    of s here (Some i) own = inl (i, s, record { at_set = here; own = own })
    of s here None chance = inr (λ i r c. let same : Some r ≡ Some s = sym c.at_set ∙ here in let owned : t.owner r ≡ Some i = c.own in cc)

    at : (o : Option ℕ) → t.set k ≡ o → ((i : ℕ) × (s : ℕ) × Chooses t k i s) ⊎ NobodyChooses t k
    at None end = inr (λ i r c. let e : t.set k ≡ Some r = c.at_set in cc)
    at (Some s) here = of s here (t.owner s) refl

-- two nodes are in one player's set
abbrev AreInOneSet : Tree → ℕ → ℕ → Type 0
AreInOneSet t c d = (i : ℕ) × (s : ℕ) × Chooses t c i s × Chooses t d i s

-- they are or not
one_set_or_not : (t : Tree) (c d : ℕ) → IsDecided (AreInOneSet t c d)
one_set_or_not t c d = elim (player_or_nobody t c) [
  | inr nobody ↦ inr (λ h. nobody h.0 h.1 h.2)
  | inl at ↦
      let is = is_index-decides (t.set d) at.1 in
      tested_or_not (is_index (t.set d) at.1) (λ e. (at.0, at.1, at.2, record { at_set = is.0 e; own = at.2.own }), λ h. is.1 (h.3.at_set ∙ sym h.2.at_set ∙ at.2.at_set))
]

-- a node is one of chance or alone in its set, or not
alone_or_not : (t : Tree) (k : ℕ) → k < t.size → IsDecided (BeginsAlone t k)
alone_or_not t k below = at (t.set k) refl
  where
    of : (s : ℕ) → t.set k ≡ Some s → (o : Option ℕ) → t.owner s ≡ o → IsDecided (BeginsAlone t k)
    of s here None chance = inl (s, here, inl chance)
    of s here (Some i) own =
        let members = numbers_with t.set s t.size in
        tested_or_not (nat_eq (length members) 1) (begins_alone-of_player t k s members below here (λ chance. cc) refl)

    at : (o : Option ℕ) → t.set k ≡ o → IsDecided (BeginsAlone t k)
    at None end = inr (λ h. let e : t.set k ≡ Some h.0 = h.1 in cc)
    at (Some s) here = of s here (t.owner s) refl

module _ (t : Tree) (w : IsTree t) where
  -- a node is in the subtree of another or not
  within_or_not : (k c : ℕ) → c < t.size → IsDecided (IsWithin t k c)
  within_or_not k = along_paths t (λ c. IsDecided (IsWithin t k c)) w
      (elim (cases_eq k 0) [ inl same ↦ inl (0, same) | inr later ↦ inr (λ h. absurd (omega (arith, later, within-after t w k 0 w.some_node h))) ])
      (λ c later below up. elim (cases_eq k c) [
        | inl same ↦ inl (0, same)
        | inr apart ↦ let both = within-parent t w k c later apart in elim up [ inl h ↦ inl (both.1 h) | inr other ↦ inr (λ h. other (both.0 h)) ]
      ])

  -- a subtree splits no player's set, or one
  whole_or_not : (k : ℕ) → IsDecided (HasWholeSets t k)
  whole_or_not k = elim (each_or_not (λ c. (d : ℕ) → d < t.size → AreInOneSet t c d → IsWithin t k c → IsWithin t k d) t.size (λ c in_c.
      each_or_not (λ d. AreInOneSet t c d → IsWithin t k c → IsWithin t k d) t.size (λ d in_d. follows_or_not (one_set_or_not t c d) (follows_or_not (within_or_not k c in_c) (within_or_not k d in_d))))) [
        | inl whole ↦ inl (λ c d i s in_c in_d at_c at_d. whole c in_c d in_d (i, s, at_c, at_d))
        | inr other ↦ inr (λ whole. other (λ c in_c d in_d both. whole c d both.0 both.1 in_c in_d both.2 both.3))
      ]

  -- so a subgame begins at a node or not
  pub root_or_not : (k : ℕ) → k < t.size → IsDecided (IsSubgameRoot t k)
  root_or_not k below = elim (cases_eq k 0) [
    | inl first ↦ inl (inl first)
    | inr later ↦ elim (alone_or_not t k below) [
      | inr other ↦ inr (λ root. elim root [ inl first ↦ later first | inr h ↦ other h.0 ])
      | inl alone ↦ elim (whole_or_not k) [
        | inr other ↦ inr (λ root. elim root [ inl first ↦ later first | inr h ↦ other h.1 ])
        | inl whole ↦ inl (inr (alone, whole))
      ]
    ]
  ]
