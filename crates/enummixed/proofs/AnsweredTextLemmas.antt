-- A game has a text of its extreme equilibria, or there is a reason why it has none.
use Rattle.std.proofs.Common.{ℕ, zero, suc, ◌<◌, ◌≤◌, ◌≡◌, inl, inr, refl, sym, ◌∙◌, arith, All, List, [], ◌∷◌, Ok, length, map, get_or, set, replicate}
use Rattle.std.specs.Prelude.{Contains}
use Rattle.std.specs.List.Sorted.{IsStrictlyIncreasing}
use Rattle.std.specs.Ordering.{is_lt}
use Rattle.std.proofs.lemmas.Bool.{cases_eq}
use Rattle.std.proofs.lemmas.List.{length-set, length-replicate}
use Rattle.std.proofs.lemmas.List.Elements.{All-map}
use Rattle.answers.specs.Answers.{refused_by}
use Rattle.answers.specs.Answered.{IsAnswered}
use Rattle.answers.proofs.AnsweredLemmas.{bind-answered, refused_by-answered}
use Rattle.lists.proofs.ElementLemmas.{get_or-copies, two-elements}
use Rattle.rational.specs.Rational.{ℚ, zero_ℚ}
use Rattle.game_theory.specs.Profiles.{Game}
use Rattle.game_theory.specs.Lines.{lines_text}
use Rattle.game_core.specs.Table.{GameTable, game_of, strategy_counts}
use Rattle.kept_strategies.specs.Kept.{KeptForm, IsKeptForm}
use Rattle.kept_strategies.proofs.EliminationLemmas.{kept-all}
use Rattle.enumpure.specs.Stops.{within_text_limit}
use Rattle.enumpure.proofs.AnsweredTextLemmas.{within_text_limit-answered}
use Rattle.enummixed.specs.AnsweredLaws.{ExtremeTextsAreAnswered}
use Rattle.enummixed.specs.ExtremeText.{VertexPairs, IsExtremeEquilibriaText, extreme_pairs, kept_text}
use Rattle.enummixed.specs.Order.{line_of, pair_order}
use Rattle.enummixed.specs.Spread.{IsSpreadOrEmpty, AreSpreadPoints}
use Rattle.enummixed.specs.Told.{text_stop}
use Rattle.enummixed.specs.Used.{occurs, scaled_used}
use Rattle.enummixed.proofs.AnsweredPairLemmas.{extreme_pairs-answered}
use Rattle.enummixed.proofs.KeptLineLemmas.{spread-text}
use Rattle.enummixed.proofs.LineOrderLemmas.{pairs-ordered}
use Rattle.enummixed.proofs.SortedListLemmas.{sorted}
use Rattle.enummixed.proofs.SpreadPointLemmas.{placed-next, elsewhere-next}
use Rattle.enummixed.proofs.VertexPairLemmas.{pairs-counted}

-- ---- points over all strategies
module _ (n : ℕ) (places : List ℕ) (ascending : IsStrictlyIncreasing places) (within : All (λ place. place < n) places) where
  -- the first k entries at their places, and 0 elsewhere
  record IsSpreadTo (point : List ℚ) (k : ℕ) (wide : List ℚ) : Type 0 where
    pub size : length wide ≡ n
    pub at_places : (j : ℕ) → j < k → get_or wide (get_or places j 0) zero_ℚ ≡ get_or point j zero_ℚ
    pub elsewhere : (s : ℕ) → (Contains places s → ⊥) → get_or wide s zero_ℚ ≡ zero_ℚ

  -- there is such a list
  spread_to : (point : List ℚ) (k : ℕ) → k ≤ length places → (wide : List ℚ) × IsSpreadTo point k wide
  spread_to point zero l = (replicate n zero_ℚ, record { size = length-replicate n zero_ℚ; at_places = λ j b. absurd (omega (arith, b)); elsewhere = λ s none. get_or-copies n s zero_ℚ })
  spread_to point (suc k) l =
      let before = spread_to point k (omega (arith, l)) in
      let place = get_or places k 0 in
      let entry = get_or point k zero_ℚ in
      let there : k < length places = omega (arith, l) in
      let inside : place < length before.0 = omega (arith, within k 0 there, before.1.size) in (
        set before.0 place entry,
        record {
          size = length-set before.0 place entry ∙ before.1.size;
          at_places = λ j b. placed-next places ascending point before.0 k place entry there refl refl inside before.1.at_places j (omega (arith, b));
          elsewhere = elsewhere-next places ascending point before.0 k place entry there refl refl inside before.1.elsewhere;
        },
      )

  -- a point is spread or left out
  spread_exists : (point : List ℚ) → (wide : List ℚ) × IsSpreadOrEmpty n places point wide
  spread_exists point = elim (cases_eq (length point) (length places)) [
    | inl same ↦ (let spread = spread_to point (length places) (omega arith) in (spread.0, record { spread = λ _. record { size = spread.1.size; at_places = spread.1.at_places; elsewhere = spread.1.elsewhere }; empty = λ differ. absurd (differ same) }))
    | inr differ ↦ ([], record { spread = λ same. absurd (differ same); empty = λ _. refl })
  ]

  -- and so are all
  spreads_exist : (points : List (List ℚ)) → (wide : List (List ℚ)) × AreSpreadPoints n places points wide
  spreads_exist [] = ([], record { count = refl; each = λ i l. absurd (omega (arith, l)) })
  spreads_exist (point ∷ points) =
      let first = spread_exists point in
      let rest = spreads_exist points in
      (first.0 ∷ rest.0, record { count = omega (arith, rest.1.count); each = each first.0 rest.0 first.1 rest.1.each })
    where
      each : (wide : List ℚ) (later : List (List ℚ)) → IsSpreadOrEmpty n places point wide → ((i : ℕ) → i < length points → IsSpreadOrEmpty n places (get_or points i []) (get_or later i [])) → (i : ℕ) → i < suc (length points) → IsSpreadOrEmpty n places (get_or (point ∷ points) i []) (get_or (wide ∷ later) i [])
      each wide later here rest zero l = here
      each wide later here rest (suc i) l = rest i (omega (arith, l))

-- ---- texts
-- a game with pairs has a text
own_text : (game : Game) (e : VertexPairs) → extreme_pairs game (Ok e) → (text : List ℕ) × IsExtremeEquilibriaText game text
own_text game e h = let counted = pairs-counted game e h in (lines_text counted.0, record { lines = counted.0; are_lines = counted.1; is_text = refl })

-- so has a table whose kept strategies have pairs
text_by_kept : (t : GameTable) (k : KeptForm) → IsKeptForm t k → (e : VertexPairs) → extreme_pairs (game_of k.table) (Ok e) → (text : List ℕ) × IsExtremeEquilibriaText (game_of t) text
text_by_kept t k form e h =
    let m = get_or (strategy_counts t) 0 0 in
    let n = get_or (strategy_counts t) 1 0 in
    let one = form.are_kept.are_kept 0 (omega arith) in
    let two = form.are_kept.are_kept 1 (omega arith) in
    let firsts : List (List ℚ) = scaled_used e.first.list (occurs (map (λ p. p.0) e.pairs)) in
    let seconds : List (List ℚ) = scaled_used e.second.list (occurs (map (λ p. p.1) e.pairs)) in
    let wide = spreads_exist m k.first one.ascending (kept-all t 0 k.first k.first one refl) firsts in
    let wide' = spreads_exist n k.second two.ascending (kept-all t 1 k.second k.second two refl) seconds in
    let order = sorted (λ p q. is_lt (pair_order firsts seconds p q)) (pairs-ordered firsts seconds) e.pairs in
    (lines_text (map (line_of wide.0 wide'.0) order.0), spread-text (game_of t) (game_of k.table) k.first k.second m n (two-elements (strategy_counts t) (sym form.are_kept.one_for_each)) form.are_kept form.same_cells firsts seconds wide.0 wide'.0 wide.1 wide'.1 e h order.0 refl refl order.1 order.2)

-- ---- all stages
-- where pairs give a text, there is an answer
kept_text-answered : (game kept : Game) → All (λ n. 0 < n) kept.strategies → ((e : VertexPairs) → extreme_pairs kept (Ok e) → (text : List ℕ) × IsExtremeEquilibriaText game text) → IsAnswered (kept_text game kept)
kept_text-answered game kept positive found =
    bind-answered (extreme_pairs kept) (λ _. refused_by text_stop (within_text_limit (IsExtremeEquilibriaText game))) (extreme_pairs-answered kept positive)
    (λ e h. refused_by-answered text_stop (within_text_limit (IsExtremeEquilibriaText game)) (within_text_limit-answered (IsExtremeEquilibriaText game) (λ none. let text = found e h in none text.0 text.1)))

-- a game has its text, or a reason why not
pub extreme_texts-answered : ExtremeTextsAreAnswered
extreme_texts-answered = record {
  own = λ game positive. kept_text-answered game game positive (own_text game);
  by_kept = λ t k valid form. kept_text-answered (game_of t) (game_of k.table) (All-map (λ n. 0 < n) length k.table.strategies form.is_table.some_strategy) (text_by_kept t k form);
}
