-- Walks in a graph in which no vertex has more than two neighbours and the first has at most one:
-- one that never turns back at once meets no vertex twice
use Rattle.std.proofs.Common.{suc, ◌≡◌, ◌≢◌, ◌⊎◌, inl, inr, List, [], ◌∷◌, All, sym, subst, ◌∙◌, arith}
use Rattle.std.specs.Prelude.{AllPairs}
use Rattle.std.proofs.lemmas.List.Elements.{All-nil, All-cons, All-tail}
use Rattle.std.proofs.lemmas.List.Kept.{AllPairs-cons}

-- a graph whose vertices are those of V, and its first vertex
pub record FewNeighbours {V : Type 0} (Adj : V → V → Type 0) (start : V) : Type 0 where
  pub both : (a b : V) → Adj a b → Adj b a
  pub apart : (a b : V) → Adj a b → a ≢ b
  pub two : (a b c d : V) → Adj a b → Adj a c → Adj a d → (b ≡ c) ⊎ (b ≡ d) ⊎ (c ≡ d)
  pub one : (a b : V) → Adj start a → Adj start b → a ≡ b

-- b is not the head of the list
abbrev pub Turns : {V : Type 0} → V → List V → Type 0
Turns b [] = Unit {0}
Turns b (x ∷ xs) = b ≢ x

-- a walk from the start that never turns back at once, its last vertex first
abbrev pub Walk : {V : Type 0} → (V → V → Type 0) → V → List V → Type 0
Walk Adj start [] = ⊥
Walk Adj start (a ∷ []) = a ≡ start
Walk Adj start (b ∷ (a ∷ xs)) = Adj a b × Turns b xs × Walk Adj start (a ∷ xs)

module _ {V : Type 0} (Adj : V → V → Type 0) (start : V) (G : FewNeighbours Adj start) where
  -- a neighbour b of a lies nowhere on a walk that a is not on, but at its end
  elsewhere : (a b u : V) (xs : List V) → Walk Adj start (u ∷ xs) → AllPairs (λ x y. x ≢ y) (u ∷ xs) → All (λ x. a ≢ x) (u ∷ xs) → Adj a b → All (λ x. b ≢ x) xs
  elsewhere a b u [] w d p h = All-nil (λ x. b ≢ x)
  elsewhere a b u (v ∷ []) w d p h =
      All-cons (λ x. b ≢ x) v [] (λ e. p 0 u (omega arith) (G.one a u (subst (λ x. Adj x a) (e ∙ w.2) (G.both a b h)) (subst (λ x. Adj x u) w.2 w.0))) (All-nil (λ x. b ≢ x))
  elsewhere a b u (v ∷ (x ∷ xs)) w d p h =
      All-cons (λ x. b ≢ x) v (x ∷ xs) (λ e. none (G.two v u x a w.0 (G.both x v w.2.0) (subst (λ y. Adj y a) e (G.both a b h))))
      (elsewhere a b v (x ∷ xs) w.2 (λ i j y l k. d (suc i) (suc j) y (omega arith) (omega arith)) (All-tail (λ y. a ≢ y) u (v ∷ (x ∷ xs)) p) h)
    where
      none : (u ≡ x) ⊎ (u ≡ a) ⊎ (x ≡ a) → ⊥
      none (inl e) = d 0 2 u (omega arith) (omega arith) e
      none (inr (inl e)) = p 0 u (omega arith) (sym e)
      none (inr (inr e)) = p 2 u (omega arith) (sym e)

  -- the last vertex is none of those before its neighbour
  before : (b a : V) (xs : List V) → Walk Adj start (b ∷ (a ∷ xs)) → AllPairs (λ x y. x ≢ y) (a ∷ xs) → All (λ x. b ≢ x) xs
  before b a [] w d = All-nil (λ x. b ≢ x)
  before b a (c ∷ xs) w d =
      All-cons (λ x. b ≢ x) c xs w.1 (elsewhere a b c xs w.2.2 (λ i j y l k. d (suc i) (suc j) y (omega arith) (omega arith)) (λ k y l. d 0 (suc k) y (omega arith) (omega arith)) w.0)

  pub walk_distinct : (xs : List V) → Walk Adj start xs → AllPairs (λ x y. x ≢ y) xs
  walk_distinct [] w = λ i j d l h. absurd (omega arith)
  walk_distinct (a ∷ []) w = λ i j d l h. absurd (omega arith)
  walk_distinct (b ∷ (a ∷ xs)) w =
      let d = walk_distinct (a ∷ xs) w.2 in
      AllPairs-cons (λ x y. x ≢ y) b (a ∷ xs) (All-cons (λ x. b ≢ x) a xs (λ e. G.apart a b w.0 (sym e)) (before b a xs w d)) d
