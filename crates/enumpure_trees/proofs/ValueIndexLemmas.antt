-- Where the values of choices stand.
use Rattle.std.proofs.Common.{ℕ, zero, suc, ◌+◌, ◌*◌, ◌<◌, ◌≡◌, ◌∙◌, List, [], ◌∷◌, ◌++◌, length, get_or, ap, arith}
use Rattle.std.specs.List.{flat_map, range_with_len}
use Rattle.std.proofs.lemmas.List.{get_or-append-add, get_or_append_left, length-append}
use Rattle.std.proofs.lemmas.List.FromFn.{get_or-range_with_len, length-range_with_len}
use Rattle.std.proofs.lemmas.Nat.{mul-add-lt}
use Rattle.rational.specs.Rational.{ℚ, zero_ℚ}
use Rattle.rational.specs.Sum.{entry_at}
use Rattle.game_theory.specs.Behaviour.{pure, value}
use Rattle.game_theory.specs.Lines.{listed}
use Rattle.game_theory.specs.Trees.{Tree}
use Rattle.game_theory.proofs.ProfileLineLemmas.{get_or-listed, length-listed}
use Rattle.enumpure_trees.specs.Choices.{numbered_choice, whole_choices}
use Rattle.enumpure_trees.specs.Values.{choice_values, values_of}

-- ---- lists of parts of one length
module _ {X Y : Type 0} (f : X → List Y) (m : ℕ) (each : (x : X) → length (f x) ≡ m) where
  -- how long they are together
  pub length-even_parts : (xs : List X) → length (flat_map f xs) ≡ length xs * m
  length-even_parts [] = omega arith
  length-even_parts (x ∷ xs) = length-append (f x) (flat_map f xs) ∙ omega (arith, each x, length-even_parts xs)

  -- what stands at an index of a part
  pub get_or-even_parts : (xs : List X) (i j : ℕ) (e : X) (d : Y) → i < length xs → j < m → get_or (flat_map f xs) (i * m + j) d ≡ get_or (f (get_or xs i e)) j d
  get_or-even_parts [] i j e d part inside = absurd (omega (arith, part))
  get_or-even_parts (x ∷ xs) zero j e d part inside = ap (λ k. get_or (f x ++ flat_map f xs) k d) (omega arith) ∙ get_or_append_left (f x) (flat_map f xs) d j (omega (arith, inside, each x))
  get_or-even_parts (x ∷ xs) (suc i) j e d part inside =
      ap (λ k. get_or (f x ++ flat_map f xs) k d) (omega (arith, each x)) ∙ get_or-append-add (f x) (flat_map f xs) (i * m + j) d ∙ get_or-even_parts xs i j e d (omega (arith, part)) inside

-- ---- the values
module _ (t : Tree) (nodes : List ℕ) where
  -- what a node is worth to the players under the choice with a number
  abbrev row : ℕ → ℕ → List ℚ
  row n k = listed t.players (λ i. value t (pure (numbered_choice t n)) i k)

  length-row : (n k : ℕ) → length (row n k) ≡ t.players
  length-row n k = length-listed t.players (λ i. value t (pure (numbered_choice t n)) i k)

  -- the values of one choice
  length-of_choice : (n : ℕ) → length (values_of t nodes n) ≡ length nodes * t.players
  length-of_choice n = length-even_parts (row n) t.players (length-row n) nodes

  -- all of them
  pub length-choice_values : length (choice_values t nodes) ≡ whole_choices t * (length nodes * t.players)
  length-choice_values =
      length-even_parts (values_of t nodes) (length nodes * t.players) length-of_choice (range_with_len 0 (whole_choices t)) ∙ ap (λ x. x * (length nodes * t.players)) (length-range_with_len 0 (whole_choices t))

  module _ (n p i : ℕ) (choice : n < whole_choices t) (node : p < length nodes) (player : i < t.players) where
    in_choice : p * t.players + i < length nodes * t.players
    in_choice = omega (arith, mul-add-lt p t.players i (length nodes) node player)

    -- the index of a choice's value at a node for a player is one of the values
    pub index-inside : n * (length nodes * t.players) + (p * t.players + i) < length (choice_values t nodes)
    index-inside = omega (arith, mul-add-lt n (length nodes * t.players) (p * t.players + i) (whole_choices t) choice in_choice, length-choice_values)

    -- what stands there
    pub value-there : entry_at (choice_values t nodes) (n * (length nodes * t.players) + (p * t.players + i)) ≡ value t (pure (numbered_choice t n)) i (get_or nodes p 0)
    value-there =
        get_or-even_parts (values_of t nodes) (length nodes * t.players) length-of_choice (range_with_len 0 (whole_choices t)) n (p * t.players + i) 0 zero_ℚ (omega (arith, choice, length-range_with_len 0 (whole_choices t))) in_choice
        ∙ ap (λ c. entry_at (values_of t nodes c) (p * t.players + i)) (get_or-range_with_len 0 (whole_choices t) n 0 choice ∙ omega arith)
        ∙ get_or-even_parts (row n) t.players (length-row n) nodes p i 0 zero_ℚ node player
        ∙ get_or-listed t.players (λ j. value t (pure (numbered_choice t n)) j (get_or nodes p 0)) i zero_ℚ player
