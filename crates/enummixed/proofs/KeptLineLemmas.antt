-- The lines of the pairs of the kept table, in order and spread over all strategies, are those of the game
use Rattle.std.proofs.Common.{ℕ, ◌≡◌, List, [], ◌∷◌, Ok, length, map, get_or, refl, sym, ap, ap₂, ◌∙◌, subst}
use Rattle.std.proofs.Common.{Some, slice_get}
use Rattle.std.specs.Prelude.{Contains, IsPermutation, IsSortedBy}
use Rattle.std.specs.Ordering.{is_lt}
use Rattle.std.proofs.lemmas.List.Sorted.{Contains-permutation, IsPermutation-sym}
use Rattle.rational.specs.Rational.{ℚ}
use Rattle.game_theory.specs.Profiles.{Game}
use Rattle.game_theory.specs.Lines.{entries, lines_text}
use Rattle.extreme_equilibria.specs.ExtremeEquilibria.{IsExtremeEquilibriumLine, AreExtremeEquilibria}
use Rattle.extreme_equilibria.specs.KeptTable.{AreKeptLists, kept_table, HaveSameCells}
use Rattle.extreme_equilibria.proofs.SameCellLemmas.{same_cells-same_equilibria}
use Rattle.extreme_equilibria.proofs.SpreadLineLemmas.{AreSpread, spread-lines}
use Rattle.extreme_equilibria.proofs.SpreadPointLemmas.{points-spread}
use Rattle.game_core.specs.Table.{GameTable, strategy_counts}
use Rattle.lists.proofs.ElementLemmas.{two-elements}
use Rattle.game_core.proofs.TableCountLemmas.{strategy_count-names}
use Rattle.kept_strategies.specs.Kept.{KeptForm, IsKeptForm}
use Rattle.reply_polytope.proofs.PolytopeLemmas.{polytopes_of}
use Rattle.enummixed.specs.ExtremeText.{VertexPairs, IsExtremeEquilibriaText, extreme_pairs}
use Rattle.enummixed.specs.Order.{line_of, pair_order}
use Rattle.enummixed.specs.Spread.{AreSpreadPoints}
use Rattle.basis_enum.specs.Systems.{variable_count}
use Rattle.label_pairing.proofs.StopLemmas.{pairs_are}
use Rattle.enummixed.specs.Used.{all_labels, occurs, scaled_used}
use Rattle.enummixed.proofs.ExtremeLineLemmas.{ArePointsOf, point-lengths, extreme-lines}
use Rattle.enummixed.proofs.StageLemmas.{both-first, both-second}
use Rattle.enummixed.proofs.VertexPairLemmas.{parts_same}

-- games with the same cells have the same lines
same-lines : (g h : Game) (lines : List (List ℚ)) → HaveSameCells g h → AreExtremeEquilibria g lines → AreExtremeEquilibria h lines
same-lines g h lines c e = record {
  in_order = e.in_order;
  sound = λ k d l. line (get_or lines k d) (e.sound k d l);
  complete = λ m x. subst (λ ns. Contains lines (entries ns m)) c.strategies (e.complete m ((same_cells-same_equilibria.extreme_equilibria g h m c).1 x));
}
  where
    line : (z : List ℚ) → IsExtremeEquilibriumLine g z → IsExtremeEquilibriumLine h z
    line z x = record {
      profile = x.profile;
      is_extreme = (same_cells-same_equilibria.extreme_equilibria g h x.profile c).0 x.is_extreme;
      is_line = x.is_line ∙ ap (λ ns. entries ns x.profile) c.strategies;
    }

-- equal lists of two numbers
two-same : (a b c d : ℕ) (xs : List ℕ) → xs ≡ a ∷ b ∷ [] → xs ≡ c ∷ d ∷ [] → (a ≡ c) × (b ≡ d)
two-same a b c d xs e f = (cc, cc)

-- the numbers of strategies of both players
pub two-counts : (t : GameTable) (k : KeptForm) → IsKeptForm t k → (a b : List (List ℕ)) → slice_get t.strategies 0 ≡ Some a → slice_get t.strategies 1 ≡ Some b → strategy_counts t ≡ length a ∷ length b ∷ []
two-counts t k h a b e f = two-elements (strategy_counts t) (sym h.are_kept.one_for_each) ∙ ap₂ (λ x y. x ∷ y ∷ []) (strategy_count-names t 0 a e) (strategy_count-names t 1 b f)

module _ (g h : Game) (first second : List ℕ) (m n : ℕ) (are : g.strategies ≡ m ∷ n ∷ []) (lists : AreKeptLists g (first ∷ second ∷ []))
    (cells : HaveSameCells h (kept_table g (first ∷ second ∷ []))) (firsts seconds wide wide' : List (List ℚ))
    (spread : AreSpreadPoints m first firsts wide) (spread' : AreSpreadPoints n second seconds wide') where
  -- the line of a pair is spread
  line-spread : (q : ℕ × ℕ) → ArePointsOf (length first) (length second) firsts seconds q → AreSpread g (first ∷ second ∷ []) (line_of firsts seconds q) (line_of wide wide' q)
  line-spread q p =
      points-spread g first second m n are lists (get_or firsts q.0 []) (get_or seconds q.1 []) (get_or wide q.0 []) (get_or wide' q.1 []) p.first p.second ((spread.each q.0 p.in_firsts).spread p.first) ((spread'.each q.1 p.in_seconds).spread p.second)

  wide-lines : (sorted : List (ℕ × ℕ)) → ((q : ℕ × ℕ) → Contains sorted q → ArePointsOf (length first) (length second) firsts seconds q) → AreExtremeEquilibria h (map (line_of firsts seconds) sorted) → AreExtremeEquilibria g (map (line_of wide wide') sorted)
  wide-lines sorted points e =
      spread-lines g first second m n are lists (line_of firsts seconds) (line_of wide wide') sorted (λ q c. line-spread q (points q c)) (same-lines h (kept_table g (first ∷ second ∷ [])) (map (line_of firsts seconds) sorted) cells e)

  -- the text of the sorted pairs
  pub spread-text : (e : VertexPairs) → extreme_pairs h (Ok e) → (sorted : List (ℕ × ℕ)) → firsts ≡ scaled_used e.first.list (occurs (map (λ p. p.0) e.pairs)) → seconds ≡ scaled_used e.second.list (occurs (map (λ p. p.1) e.pairs)) → IsPermutation e.pairs sorted → IsSortedBy (λ p q. is_lt (pair_order firsts seconds p q)) sorted → IsExtremeEquilibriaText g (lines_text (map (line_of wide wide') sorted))
  spread-text e x sorted =
      subst (λ e. firsts ≡ scaled_used e.first.list (occurs (map (λ p. p.0) e.pairs)) → seconds ≡ scaled_used e.second.list (occurs (map (λ p. p.1) e.pairs)) → IsPermutation e.pairs sorted → IsSortedBy (λ p q. is_lt (pair_order firsts seconds p q)) sorted → IsExtremeEquilibriaText g (lines_text (map (line_of wide wide') sorted)))
      (sym (parts_same _ _ x.2.2.2.2.2))
      (λ f s permuted ordered.
      let p = polytopes_of h x.0.0 x.0.1 x.1 in
      let lengths = two-same p.m p.n (length first) (length second) h.strategies p.strategies cells.strategies in
      record {
        lines = map (line_of wide wide') sorted;
        are_lines = wide-lines sorted
            (λ q c. subst (λ a. ArePointsOf a (length second) firsts seconds q) lengths.0 (subst (λ b. ArePointsOf p.m b firsts seconds q) lengths.1
            (point-lengths h x.0.0 x.0.1 p x.2.0.0.list x.2.0.1.list (both-first x.0.0 x.0.1 x.2.0 x.2.1).2.list (both-second x.0.0 x.0.1 x.2.0 x.2.1).2.list firsts seconds x.2.2.0 (pairs_are (all_labels (variable_count x.0.0)) x.2.0.0.list x.2.0.1.list x.2.2.0 x.2.2.1) f s q (Contains-permutation sorted x.2.2.0 q (IsPermutation-sym x.2.2.0 sorted permuted) c))))
            (extreme-lines h x.0.0 x.0.1 p x.2.0.0.list x.2.0.1.list (both-first x.0.0 x.0.1 x.2.0 x.2.1).2.list (both-second x.0.0 x.0.1 x.2.0 x.2.1).2.list firsts seconds x.2.2.0 sorted (pairs_are (all_labels (variable_count x.0.0)) x.2.0.0.list x.2.0.1.list x.2.2.0 x.2.2.1) f s permuted ordered);
        is_text = refl;
      })
