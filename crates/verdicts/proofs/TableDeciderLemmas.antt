-- The players by whom weights differ or are not 1, player by player.
use Rattle.std.proofs.Common.{ℕ, zero, suc, ◌+◌, ◌<◌, ◌≤◌, ◌≡◌, ◌⊎◌, inl, inr, List, length, get_or, set, take, refl, sym, ap, ◌∙◌, subst, add-one, arith}
use Rattle.std.specs.Prelude.{sum}
use Rattle.std.proofs.lemmas.List.{get_or-set_same, get_or-set_other}
use Rattle.std.proofs.Math.ListN.{length-set}
use Rattle.rational.specs.Rational.{ℚ, one_ℚ}
use Rattle.game_theory.specs.Mixed.{Mixed}
use Rattle.game_core.specs.Table.{GameTable, IsTable, strategy_counts}
use Rattle.behaviour_profile.specs.EntryTests.{mixed_of}
use Rattle.verdicts.specs.TableReplies.{AreDeciders, IsNextDecider, decider_at, most_listed, player_after}
use Rattle.verdicts.specs.declared.tables.Decider.{Decider}
use Rattle.verdicts.proofs.TablePartLemmas.{entries-next, player-within}

-- the last one or an earlier one
last-or : (n k : ℕ) → n < k + 1 → (n ≡ k) ⊎ (n < k)
last-or n k l = grind arith

module _ (listed : List Decider) (count : ℕ) (d : Decider) where
  earlier-kept : (n : ℕ) → n < count → decider_at (set listed count d) n ≡ decider_at listed n
  earlier-kept n l = get_or-set_other listed count n d (record { player = 0; first = 0 }) (λ e. absurd (omega (arith, l, e)))

  last-is : count < length listed → decider_at (set listed count d) count ≡ d
  last-is l = get_or-set_same listed count d (record { player = 0; first = 0 }) l

  after-kept : (n : ℕ) → n ≤ count → player_after (set listed count d) n ≡ player_after listed n
  after-kept zero l = refl
  after-kept (suc n) l = ap (λ x. suc x.player) (earlier-kept n (omega (arith, l)))

module _ (t : GameTable) (valid : IsTable t) (entries : List ℚ) (listed : List Decider) (count player first : ℕ) (l : player < length t.players)
    (so_far : AreDeciders t entries (record { listed = listed; count = count; end = record { player = player; first = first } })) where
  abbrev counts : List ℕ
  counts = strategy_counts t

  abbrev m : Mixed
  m = mixed_of (strategy_counts t) entries

  next_first : (n : ℕ) → n ≡ get_or counts player 0 → first + n ≡ sum (take (player + 1) counts)
  next_first n e = let next = entries-next t valid player l in omega (arith, next, e, so_far.end_next.first_is)

  -- a player with one strategy, with the probability 1, need not be listed
  pub decider-passed : (n : ℕ) → n ≡ get_or counts player 0 → n ≡ 1 → m player 0 ≡ one_ℚ
      → AreDeciders t entries (record { listed = listed; count = count; end = record { player = player + 1; first = first + n } })
  decider-passed n e one sure =
      record {
        few = so_far.few;
        within = so_far.within;
        are_players = so_far.are_players;
        each = so_far.each;
        end_within = omega (arith, player-within t valid player l);
        end_next = record {
          in_order = omega (arith, so_far.end_next.in_order);
          between = record {
            one_strategy = λ k a b. elim (last-or k player b) [
              | inl same ↦ ap (λ x. get_or counts x 0) same ∙ sym e ∙ one
              | inr less ↦ so_far.end_next.between.one_strategy k a less
            ];
            for_sure = λ k a b. elim (last-or k player b) [
              | inl same ↦ ap (λ x. m x 0) same ∙ sure
              | inr less ↦ so_far.end_next.between.for_sure k a less
            ];
          };
          first_is = next_first n e;
        };
      }

  -- the next player is listed
  pub decider-listed : (n : ℕ) → n ≡ get_or counts player 0 → count < most_listed → count < length listed
      → AreDeciders t entries (record { listed = set listed count (record { player = player; first = first }); count = count + 1; end = record { player = player + 1; first = first + n } })
  decider-listed n e few room =
      record {
        few = omega (arith, few);
        within = omega (arith, room, length-set listed count d);
        are_players = λ k b. elim (last-or k count b) [
          | inl same ↦ subst (λ x. (decider_at new x).player < length t.players) (sym same) (subst (λ (x : Decider). x.player < length t.players) (sym (last-is listed count d room)) l)
          | inr less ↦ subst (λ (x : Decider). x.player < length t.players) (sym (earlier-kept listed count d k less)) (so_far.are_players k less)
        ];
        each = λ k b. elim (last-or k count b) [
          | inl same ↦ subst (λ x. IsNextDecider counts m (player_after new x) (decider_at new x)) (sym same)
              (subst (λ x. IsNextDecider counts m (player_after new count) x) (sym (last-is listed count d room))
              (subst (λ j. IsNextDecider counts m j d) (sym (after-kept listed count d count (omega arith))) so_far.end_next))
          | inr less ↦ subst (λ x. IsNextDecider counts m (player_after new k) x) (sym (earlier-kept listed count d k less))
              (subst (λ j. IsNextDecider counts m j (decider_at listed k)) (sym (after-kept listed count d k (omega (arith, less)))) (so_far.each k less))
        ];
        end_within = omega (arith, player-within t valid player l);
        end_next = record {
          in_order = omega (arith, last_after);
          between = record {
            one_strategy = λ k a b. absurd (omega (arith, a, b, last_after));
            for_sure = λ k a b. absurd (omega (arith, a, b, last_after));
          };
          first_is = next_first n e;
        };
      }
    where
      d : Decider
      d = record { player = player; first = first }

      new : List Decider
      new = set listed count d

      last_after : player_after new (count + 1) ≡ suc player
      last_after = ap (player_after new) (add-one count) ∙ ap (λ (x : Decider). suc x.player) (last-is listed count d room)
