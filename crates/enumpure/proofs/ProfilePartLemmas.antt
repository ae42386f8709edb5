-- A profile that is written, and its number that is added up, player by player.
use Rattle.std.proofs.Common.{ℕ, zero, suc, ◌+◌, ◌*◌, ◌/◌, ◌%◌, ◌<◌, ◌≤◌, ◌≡◌, ◌≢◌, ◌⊎◌, inl, inr, List, [], ◌∷◌, length, get_or, set, drop, refl, sym, ap, ap₂, ◌∙◌, subst, arith, mod-lt, drop-cons, add-one}
use Rattle.std.proofs.lemmas.Bool.{cases_eq}
use Rattle.std.proofs.lemmas.List.{get_or-set_same, get_or-set_other, ext_get_or}
use Rattle.std.proofs.Math.Nat.{mul-div_cancel_left}
use Rattle.game_theory.specs.Profiles.{profile_count, IsProfile, number_of}
use Rattle.game_theory.proofs.ProfileNumberLemmas.{number_of-below, profile-below}
use Rattle.game_theory.specs.Ranks.{ranked}
use Rattle.game_theory.proofs.RankLemmas.{factors-positive}
use Rattle.game_core.proofs.StrideLemmas.{HaveStrategies}
use Rattle.game_core.proofs.TableCountLemmas.{at_most_product}

-- The strategies of the players before `i` are written, and the others are those of the profile with rank
-- `rest` among the profiles of the players from `i` on, of which there are `later`.
pub record IsSetBelow (ns target profile : List ℕ) (i later rest : ℕ) : Type 0 where
  pub written : (j : ℕ) → j < i → get_or profile j 0 ≡ get_or target j 0
  pub later_is : later ≡ profile_count (drop i ns)
  pub rest_below : rest < later
  pub ahead : ranked (drop i ns) rest ≡ drop i target

-- what the next player's strategy and the players after have
pub record IsNextPart (ns target : List ℕ) (i later rest : ℕ) : Type 0 where
  pub some_strategy : 0 < get_or ns i 0
  pub next_later : later / get_or ns i 0 ≡ profile_count (drop (i + 1) ns)
  pub some_later : 0 < later / get_or ns i 0
  pub strategy : rest / (later / get_or ns i 0) ≡ get_or target i 0
  pub ahead : ranked (drop (i + 1) ns) (rest % (later / get_or ns i 0)) ≡ drop (i + 1) target

-- the first of the profiles of the players from `i` on, and its rest
pub next_part : (ns target profile : List ℕ) (i later rest : ℕ) → i < length ns → i < length target → IsSetBelow ns target profile i later rest → IsNextPart ns target i later rest
next_part ns target profile i later rest l b h =
    record {
      some_strategy = both.0;
      next_later = later_next ∙ ap (λ v. profile_count (drop v ns)) (sym (add-one i));
      some_later = subst (λ v. 0 < v) (sym later_next) both.1;
      strategy = ap (λ v. rest / v) later_next ∙ ap (λ v. get_or v 0 0) parts;
      ahead = ap₂ (λ v w. ranked (drop v ns) (rest % w)) (add-one i) later_next ∙ ap (λ v. drop 1 v) parts ∙ ap (λ v. drop v target) (sym (add-one i));
    }
  where
    n : ℕ
    n = get_or ns i 0

    rest_of : List ℕ
    rest_of = drop (suc i) ns

    count : later ≡ n * profile_count rest_of
    count = h.later_is ∙ ap profile_count (drop-cons ns i 0 l)

    both : (0 < n) × (0 < profile_count rest_of)
    both = factors-positive n (profile_count rest_of) rest (omega (arith, h.rest_below, count))

    later_next : later / n ≡ profile_count rest_of
    later_next = ap (λ v. v / n) count ∙ mul-div_cancel_left (profile_count rest_of) both.0

    parts : ranked (n ∷ rest_of) rest ≡ get_or target i 0 ∷ drop (suc i) target
    parts = ap (λ v. ranked v rest) (sym (drop-cons ns i 0 l)) ∙ h.ahead ∙ drop-cons target i 0 b

-- one player more is written
pub IsSetBelow-next : (ns target profile : List ℕ) (i later rest : ℕ) → i < length ns → i < length target → i < length profile → IsSetBelow ns target profile i later rest → IsSetBelow ns target (set profile i (rest / (later / get_or ns i 0))) (i + 1) (later / get_or ns i 0) (rest % (later / get_or ns i 0))
IsSetBelow-next ns target profile i later rest l b w h =
    let next = next_part ns target profile i later rest l b h in
    record { written = λ j q. at j q next.strategy (cases_eq j i); later_is = next.next_later; rest_below = mod-lt rest next.some_later; ahead = next.ahead }
  where
    at : (j : ℕ) → j < i + 1 → rest / (later / get_or ns i 0) ≡ get_or target i 0 → (j ≡ i) ⊎ (j ≢ i) → get_or (set profile i (rest / (later / get_or ns i 0))) j 0 ≡ get_or target j 0
    at j q s (inl e) = ap (λ v. get_or (set profile i (rest / (later / get_or ns i 0))) v 0) e ∙ get_or-set_same profile i _ 0 w ∙ s ∙ ap (λ v. get_or target v 0) (sym e)
    at j q s (inr e) = get_or-set_other profile i j _ 0 e ∙ h.written j (omega arith)

-- at last the profile is written
pub IsSetBelow-all : (ns target profile : List ℕ) (i later rest : ℕ) → length profile ≡ length target → length target ≤ i → IsSetBelow ns target profile i later rest → profile ≡ target
IsSetBelow-all ns target profile i later rest e l h = ext_get_or 0 profile target e (λ j b. h.written j (omega arith))

-- each player of a game that has a profile has some strategy
pub HaveStrategies-profile : (ns s : List ℕ) → IsProfile ns s → HaveStrategies ns
HaveStrategies-profile ns s p = record { some = λ i l. omega (arith, profile-below ns s i p l) }

-- a profile with a rank has a strategy of each player
pub length-ranked : (ns : List ℕ) (r : ℕ) → length (ranked ns r) ≡ length ns
length-ranked [] r = refl
length-ranked (n ∷ ns) r = ap suc (length-ranked ns (r % profile_count ns))

-- ---- numbers
-- the number from a player on, by that player's strategy and the number from the next on
pub number_of-step : (ns s : List ℕ) (i rest : ℕ) → IsProfile ns s → i < length s → rest ≡ number_of (drop (suc i) ns) (drop (suc i) s) → (get_or s i 0 + get_or ns i 0 * rest ≡ number_of (drop i ns) (drop i s)) × (get_or s i 0 + get_or ns i 0 * rest < profile_count ns)
number_of-step [] [] i rest h l e = absurd (omega arith)
number_of-step [] (t ∷ ts) i rest h l e = absurd h
number_of-step (n ∷ ns) [] i rest h l e = absurd h
number_of-step (n ∷ ns) (t ∷ ts) zero rest h l e =
    let number : t + n * rest ≡ number_of (n ∷ ns) (t ∷ ts) = ap (λ v. t + n * v) e in
    (number, omega (arith, number, number_of-below (n ∷ ns) (t ∷ ts) h))
number_of-step (n ∷ ns) (t ∷ ts) (suc i) rest h l e =
    let later = number_of-step ns ts i rest h.1 (omega arith) e in
    (later.0, omega (arith, later.1, at_most_product n (profile_count ns) (omega (arith, h.0))))
