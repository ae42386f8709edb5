-- Profiles in which one player's strategy is exchanged, by their numbers.
use Rattle.std.proofs.Common.{ℕ, ◌+◌, ◌*◌, ◌/◌, ◌%◌, ◌<◌, ◌≡◌, List, length, get_or, set, sym, ap, ap₂, ◌∙◌, subst, arith}
use Rattle.std.proofs.lemmas.List.{get_or-set_same, set-get_or}
use Rattle.lists.proofs.ElementLemmas.{set-set}
use Rattle.game_theory.specs.Profiles.{profile_count, IsProfile, number_of, profile_at, stride}
use Rattle.game_theory.proofs.ProfileNumberLemmas.{length-profile, number_of-below, number_of-profile_at, profile_at-number_of, IsProfile-profile_at, IsProfile-exchange, number_of-exchange_from, profile-below, strategy-profile_at}
use Rattle.enumpure.specs.Replies.{exchanged}

-- a player of a game, and the number of a profile
pub record IsPlace (ns : List ℕ) (k i : ℕ) : Type 0 where
  pub number : k < profile_count ns
  pub player : i < length ns

-- the player's strategy in the profile
abbrev pub strategy_at : List ℕ → ℕ → ℕ → ℕ
strategy_at ns k i = get_or (profile_at ns k) i 0

-- it is one of the player's
pub strategy_at-below : (ns : List ℕ) (k i : ℕ) → IsPlace ns k i → strategy_at ns k i < get_or ns i 0
strategy_at-below ns k i p = profile-below ns (profile_at ns k) i (IsProfile-profile_at ns k p.number) p.player

-- the profile with an exchanged strategy is a profile
IsProfile-exchanged : (ns : List ℕ) (k i s : ℕ) → IsPlace ns k i → s < get_or ns i 0 → IsProfile ns (set (profile_at ns k) i s)
IsProfile-exchanged ns k i s p l = IsProfile-exchange ns (profile_at ns k) i s (IsProfile-profile_at ns k p.number) p.player l

-- its number is the number of a profile
pub exchanged-below : (ns : List ℕ) (k i s : ℕ) → IsPlace ns k i → s < get_or ns i 0 → exchanged ns k i s < profile_count ns
exchanged-below ns k i s p l = number_of-below ns (set (profile_at ns k) i s) (IsProfile-exchanged ns k i s p l)

-- the profile with that number
profile_at-exchanged : (ns : List ℕ) (k i s : ℕ) → IsPlace ns k i → s < get_or ns i 0 → profile_at ns (exchanged ns k i s) ≡ set (profile_at ns k) i s
profile_at-exchanged ns k i s p l = profile_at-number_of ns (set (profile_at ns k) i s) (IsProfile-exchanged ns k i s p l)

-- the later of two exchanges stays
pub exchanged-again : (ns : List ℕ) (k i s t : ℕ) → IsPlace ns k i → s < get_or ns i 0 → exchanged ns (exchanged ns k i s) i t ≡ exchanged ns k i t
exchanged-again ns k i s t p l =
    ap (λ v. number_of ns (set v i t)) (profile_at-exchanged ns k i s p l) ∙ ap (number_of ns) (set-set (profile_at ns k) i s t)

-- the strategy that was taken
pub strategy_at-exchanged : (ns : List ℕ) (k i s : ℕ) → IsPlace ns k i → s < get_or ns i 0 → strategy_at ns (exchanged ns k i s) i ≡ s
strategy_at-exchanged ns k i s p l =
    ap (λ v. get_or v i 0) (profile_at-exchanged ns k i s p l) ∙ get_or-set_same (profile_at ns k) i s 0 (omega (arith, p.player, length-profile ns (profile_at ns k) (IsProfile-profile_at ns k p.number)))

-- the strategy that is played already
pub exchanged-own : (ns : List ℕ) (k i : ℕ) → IsPlace ns k i → exchanged ns k i (strategy_at ns k i) ≡ k
exchanged-own ns k i p = ap (number_of ns) (set-get_or (profile_at ns k) i 0) ∙ number_of-profile_at ns k p.number

-- from a profile with strategy 0 each strategy is as many strides away
pub exchanged-first : (ns : List ℕ) (k i s : ℕ) → IsPlace ns k i → strategy_at ns k i ≡ 0 → exchanged ns k i s ≡ k + stride ns i * s
exchanged-first ns k i s p e =
    number_of-exchange_from ns (profile_at ns k) i s k (IsProfile-profile_at ns k p.number) p.player (ap (λ v. k + stride ns i * v) e ∙ omega arith ∙ sym (number_of-profile_at ns k p.number))

-- the player's strategy, from the stride and the number of strategies
pub strategy_at-by_stride : (ns : List ℕ) (k i d n : ℕ) → i < length ns → d ≡ stride ns i → n ≡ get_or ns i 0 → strategy_at ns k i ≡ (k / d) % n
strategy_at-by_stride ns k i d n l e f = strategy-profile_at ns k i l ∙ ap₂ (λ x y. (k / x) % y) (sym e) (sym f)

-- the profiles that lie strides away from one with strategy 0
pub strides_away-below : (ns : List ℕ) (k i d s : ℕ) → IsPlace ns k i → strategy_at ns k i ≡ 0 → d ≡ stride ns i → s < get_or ns i 0 → k + d * s < profile_count ns
strides_away-below ns k i d s p z e l =
    subst (λ v. v < profile_count ns) (exchanged-first ns k i s p z ∙ ap (λ x. k + x * s) (sym e)) (exchanged-below ns k i s p l)
