-- Lists of probabilities, and where they stand among the entries.
use Rattle.std.proofs.Common.{ℕ, ◌+◌, ◌-◌, ◌<◌, ◌≤◌, ◌≡◌, List, [], length, length-drop, map, get_or, get_or-drop, take, drop, sym, ap, ◌∙◌, arith}
use Rattle.std.proofs.lemmas.List.{get_or-map, get_or-take, length-take-le}
use Rattle.rational.specs.Rational.{ℚ, zero_ℚ}
use Rattle.rational.specs.Sum.{entry_at}
use Rattle.game_theory.specs.Lines.{listed}
use Rattle.game_theory.proofs.ProfileLineLemmas.{listed-of}
use Rattle.game_theory.specs.Trees.{Tree}
use Rattle.behaviour_profile.specs.ListedBehaviour.{HasProbabilities, listed_behaviour}

-- the list of a set has the probabilities of its actions
pub listed-set : {V : Type 0} (entries : V → List ℚ) (t : Tree) (lists : List V) (s : ℕ) (list : V) → HasProbabilities t (map entries lists) → s < length lists → s < t.sets → list ≡ get_or lists s list
    → entries list ≡ listed (t.actions s) (listed_behaviour (map entries lists) s)
listed-set entries t lists s list has below l is =
    let same = get_or-map entries lists s list [] below ∙ ap entries (sym is) in
    listed-of (t.actions s) (entries list) _ (ap length (sym same) ∙ has.as_long s l) (λ k m. ap (λ v. entry_at v k) (sym same))

-- the entries from a place on, as many as these
pub listed-part : (n start : ℕ) (entries : List ℚ) (f : ℕ → ℚ) → start + n ≤ length entries → ((k : ℕ) → k < n → entry_at entries (start + k) ≡ f k) → take (start + n - start) (drop start entries) ≡ listed n f
listed-part n start entries f within each =
    let count : start + n - start ≡ n = omega arith in
    ap (λ m. take m (drop start entries)) count
    ∙ listed-of n (take n (drop start entries)) f (length-take-le n (drop start entries) (omega (arith, length-drop start entries, within)))
    (λ k l. get_or-take n (drop start entries) k zero_ℚ l ∙ get_or-drop start entries k zero_ℚ ∙ each k l)
