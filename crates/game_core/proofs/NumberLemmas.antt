-- Numbers of profiles.
use Rattle.std.proofs.Common.{◌≡◌, ◌<◌, ◌≤◌, ◌+◌, ◌*◌, ◌-◌, ◌∙◌, sym, ap, refl, ℕ, zero, suc, List, [], ◌∷◌, length, map, drop, get_or, add-one, arith}
use Rattle.std.proofs.Math.Nat.{mul-le-mul_right}
use Rattle.std.proofs.Math.Seq.{drop-cons, drop-length}
use Rattle.std.proofs.lemmas.List.{get_or-map, length-map}
use Rattle.game_theory.proofs.ProfileNumberLemmas.{length-profile, number_of-below}
use Rattle.game_theory.specs.Profiles.{IsProfile, number_of, profile_count}

-- more players have no fewer profiles
below_product : (s n r p : ℕ) → s < n → r < p → r < n * p
below_product s n r p digit below =
    let room : 1 * p ≤ n * p = mul-le-mul_right p (omega arith) in
    omega arith

-- the later players' number is below the number of profiles
pub number_of-drop : (k : ℕ) (ns ss : List ℕ) → IsProfile ns ss → number_of (drop k ns) (drop k ss) < profile_count ns
number_of-drop zero ns ss h = number_of-below ns ss h
number_of-drop (suc k) [] [] h = omega arith
number_of-drop (suc k) [] (s ∷ ss) h = absurd h
number_of-drop (suc k) (n ∷ ns) [] h = absurd h
number_of-drop (suc k) (n ∷ ns) (s ∷ ss) h = below_product s n _ (profile_count ns) h.0 (number_of-drop k ns ss h.1)

-- the number from a player on, by that player's strategy and the later players' number
pub number_of-step : (ns ss : List ℕ) (k : ℕ) → k < length ns → k < length ss → number_of (drop k ns) (drop k ss) ≡ get_or ss k 0 + get_or ns k 0 * number_of (drop (k + 1) ns) (drop (k + 1) ss)
number_of-step ns ss k player strategy = rw (add-one, drop-cons ns k 0, drop-cons ss k 0) refl

-- how many elements the list at a place has
pub length_at : {X Y : Type 0} (f : X → List Y) (xs : List X) (k : ℕ) (x : X) → k < length xs → x ≡ get_or xs k x → get_or (map length (map f xs)) k 0 ≡ length (f x)
length_at f xs k x below here =
    let inside : k < length (map f xs) = rw length-map below in
    get_or-map length (map f xs) k [] 0 inside ∙ ap length (get_or-map f xs k x [] below ∙ ap f (sym here))

-- the number from a player on, where the player's place is one below that of the later players
pub number_of-before : (ns ss : List ℕ) (k n s m : ℕ) → IsProfile ns ss → 0 < k → k ≤ length ss → n ≡ get_or ns (k - 1) 0 → s ≡ get_or ss (k - 1) 0 → m ≡ number_of (drop k ns) (drop k ss) → (s + n * m ≡ number_of (drop (k - 1) ns) (drop (k - 1) ss)) × (s + n * m < profile_count ns)
number_of-before ns ss k n s m h some within player strategy later =
    let long = length-profile ns ss h in
    let whole : (k - 1) + 1 ≡ k = omega arith in
    let step = rw whole at (number_of-step ns ss (k - 1) (omega arith) (omega arith)) in
    let same : s + n * m ≡ number_of (drop (k - 1) ns) (drop (k - 1) ss) = rw (player, strategy, later) (sym step) in
    (same, rw same (number_of-drop (k - 1) ns ss h))

-- past the last player there is one number
pub number_of-end : (ns ss : List ℕ) → IsProfile ns ss → 0 ≡ number_of (drop (length ss) ns) (drop (length ss) ss)
number_of-end ns ss h = rw (drop-length ss) (none (drop (length ss) ns))
  where
    none : (ns : List ℕ) → 0 ≡ number_of ns []
    none [] = refl
    none (n ∷ ns) = refl
