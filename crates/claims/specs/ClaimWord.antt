-- Numbers that passes claim from one word, each once.
use Rattle.std.specs.Prelude.{◌≡◌, ◌<◌, ◌≤◌, ◌%◌, ◌^◌, ◌==◌, ℕ, List, [], ◌∷◌, ◌++◌, length, cond, nat_lt, slice_index, count_by, sum_by}
use mathlib.Core.Option.{some}
use lib.ListN.{get_elem?}
use Rattle.atomic_table.specs.Seated.{TableId}
use Rattle.claims.specs.declared.claim_word.Holding.{Holding}

-- a pass: the claim word that it belongs to, its number of parts, and the numbers that it claimed
pub record PassState : Type 0 where
  pub claims : TableId
  pub parts : ℕ
  pub claimed : List ℕ

-- a pass from its parts
abbrev pub pass_state : TableId → ℕ → List ℕ → PassState
pass_state claims parts claimed = record { claims = claims; parts = parts; claimed = claimed }

-- how often x stands in the list
abbrev pub times : ℕ → List ℕ → ℕ
times x xs = count_by (λ y. y == x) xs

-- 1 for a number below n, and else 0
abbrev pub one_below : ℕ → ℕ → ℕ
one_below n x = cond (nat_lt x n) 1 0

-- each number below n stands in the list once, and no other number stands in it
abbrev pub HasEachBelow : ℕ → List ℕ → Type 0
HasEachBelow n xs = (x : ℕ) → times x xs ≡ one_below n x

-- with all 64 parts, and fewer than 2^64 claims, it is known that each number below their count was
-- claimed once
abbrev pub KnowsWhole : ℕ → List ℕ → Type 0
KnowsWhole parts claimed =
    parts ≡ 64 → length claimed < 2 ^ 64 → HasEachBelow (length claimed) claimed

-- what a seat holds, from its parts
abbrev pub holding : ℕ → List ℕ → Holding
holding parts claimed = record { parts = parts; claimed = claimed }

-- how many numbers were claimed, by all
abbrev pub claim_count : List Holding → ℕ
claim_count = sum_by (λ h. length h.claimed)

-- who has no part has claimed nothing
abbrev pub SpentIsEmpty : List Holding → Type 0
SpentIsEmpty hs =
    (seat : ℕ) (h : Holding) → get_elem? hs seat ≡ some h → h.parts ≡ 0 → h.claimed ≡ []

-- the rule of the claim word, over its one word and over what each seat holds
pub record KeepsClaims (words : List ℕ) (hs : List Holding) : Type 0 where
  pub one_word : length words ≡ 1
  pub parts : sum_by (λ h. h.parts) hs ≡ 64
  pub spent : SpentIsEmpty hs
  pub word : slice_index words 0 ≡ claim_count hs % 2 ^ 64
  pub each_once : claim_count hs < 2 ^ 64 → (x : ℕ)
      → sum_by (λ h. times x h.claimed) hs ≡ one_below (claim_count hs) x

-- a claim of n by the holder of h leaves this
abbrev pub Claimed : Holding → ℕ → Holding → Type 0
Claimed h n after =
    (after ≡ holding h.parts (h.claimed ++ n ∷ [])) × KnowsWhole after.parts after.claimed

-- a look at the word changes nothing
abbrev pub Looked : Holding → Holding → Type 0
Looked h after = (after ≡ h) × (after.parts ≤ 64) × KnowsWhole after.parts after.claimed
