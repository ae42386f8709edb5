-- How far a subtree reaches, and the players' sets of the nodes in it.
use Rattle.std.specs.Prelude.{ℕ, ◌<◌, ◌≤◌, ◌≡◌, ◌⊎◌, List, Some, length, slice_get}
use Rattle.game_theory.specs.OwnSets.{Chooses}
use Rattle.game_theory.specs.Trees.{Tree, IsWithin}
use Rattle.subgames.specs.declared.roots.Span.{Span}

-- n is the least of some numbers
abbrev pub IsLeast : (ℕ → Type 0) → ℕ → Type 0
IsLeast among n = among n × ((d : ℕ) → among d → n ≤ d)

-- n is the greatest of some numbers
abbrev pub IsGreatest : (ℕ → Type 0) → ℕ → Type 0
IsGreatest among n = among n × ((d : ℕ) → among d → d ≤ n)

-- node d is node c, or both are in one player's set
abbrev pub AreTogether : Tree → ℕ → ℕ → Type 0
AreTogether t c d =
    (d < t.size) × ((c ≡ d) ⊎ ((i : ℕ) × (s : ℕ) × Chooses t c i s × Chooses t d i s))

-- node d is in the subtree of node k, or in one player's set with a node that is
abbrev pub IsTogetherWithSubtree : Tree → ℕ → ℕ → Type 0
IsTogetherWithSubtree t k d = (c : ℕ) × (c < t.size) × IsWithin t k c × AreTogether t c d

-- the span of node c alone
pub record IsOwnSpan (t : Tree) (c : ℕ) (span : Span) : Type 0 where
  pub least : IsLeast (AreTogether t c) span.least
  pub greatest : IsGreatest (AreTogether t c) span.greatest
  pub last : span.last ≡ c

-- the span of the subtree of node k
pub record IsSpan (t : Tree) (k : ℕ) (span : Span) : Type 0 where
  pub least : IsLeast (IsTogetherWithSubtree t k) span.least
  pub greatest : IsGreatest (IsTogetherWithSubtree t k) span.greatest
  pub last : IsGreatest (λ c. (c < t.size) × IsWithin t k c) span.last

-- for each of the first n nodes its own span
pub record AreOwnSpans (t : Tree) (n : ℕ) (spans : List Span) : Type 0 where
  pub one_for_each : length spans ≡ n
  pub are : (c : ℕ) (span : Span) → slice_get spans c ≡ Some span → IsOwnSpan t c span

-- for each node the span of its subtree
pub record AreSpans (t : Tree) (spans : List Span) : Type 0 where
  pub one_for_each : length spans ≡ t.size
  pub are : (k : ℕ) (span : Span) → slice_get spans k ≡ Some span → IsSpan t k span
