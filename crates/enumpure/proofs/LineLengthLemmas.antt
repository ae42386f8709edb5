-- The lengths of lines, and of the text of lines.
use Rattle.std.proofs.Common.{ℕ, zero, suc, ◌+◌, ◌*◌, ◌^◌, ◌<◌, ◌≤◌, ◌≡◌, ◌≢◌, ◌⊎◌, inl, inr, Bool, List, All, [], ◌∷◌, ◌++◌, length, codes, get_or, take, refl, sym, ap, ◌∙◌, arith, length-append}
use Rattle.std.proofs.lemmas.Bool.{cases_eq}
use Rattle.std.specs.List.{sum_by, count_by}
use Rattle.std.proofs.lemmas.Grind.{flat_map-append}
use Rattle.std.proofs.lemmas.List.{take_all}
use Rattle.std.proofs.lemmas.List.Sums.{sum_by-cons, sum_by-take-le}
use Rattle.std.proofs.Math.Nat.{mul-le-mul, mul-le-mul_left}
use Rattle.rational.specs.Rational.{ℚ}
use Rattle.game_theory.specs.Profiles.{profile_count}
use Rattle.game_theory.specs.Mixed.{Mixed, later, sure, pure}
use Rattle.game_theory.specs.Lines.{listed, entries, line_text, lines_text}
use Rattle.game_theory.proofs.SureStrategyLemmas.{sure-at, sure-other}
use Rattle.game_theory.proofs.LineTextLemmas.{one-text, zero-text}
use Rattle.game_core.specs.Table.{most_payoffs}
use Rattle.ne_printer.specs.Entries.{entry_text, entries_text}
use Rattle.ne_printer.proofs.LineTextLemmas.{line_text-joined}
use Rattle.enumpure.specs.Ranks.{ranked_plays_best, rank_line, lines_below}
use Rattle.enumpure.proofs.ListedLineLemmas.{length-listed_ones}
use Rattle.enumpure.specs.Replies.{plays_best}
use Rattle.game_core.proofs.StrideLemmas.{HaveStrategies, HaveStrategies-later, profile_count-positive}
use Rattle.enumpure.proofs.TotalLemmas.{total, one_if, total-ranked, total-best_replies}

-- an entry of a pure profile is a comma and a digit
length-entry_text : (s t : ℕ) → length (entry_text (sure s t)) ≡ 2
length-entry_text s t = go (cases_eq t s)
  where
    go : (t ≡ s) ⊎ (t ≢ s) → length (entry_text (sure s t)) ≡ 2
    go (inl e) = ap (λ q. length (entry_text q)) (ap (sure s) e ∙ sure-at s) ∙ ap (λ v. length (44 ∷ v)) one-text
    go (inr e) = ap (λ q. length (entry_text q)) (sure-other s t e) ∙ ap (λ v. length (44 ∷ v)) zero-text

-- n entries of two bytes each
length-listed : (n : ℕ) (f : ℕ → ℚ) → ((s : ℕ) → length (entry_text (f s)) ≡ 2) → length (entries_text (listed n f)) ≡ 2 * n
length-listed zero f h = refl
length-listed (suc n) f h = length-append (entry_text (f 0)) (entries_text (listed n (λ i. f (suc i)))) ∙ omega (arith, h 0, length-listed n (λ i. f (suc i)) (λ s. h (suc s)))

-- the entries of all players are two bytes for each strategy
length-entries : (ns : List ℕ) (m : Mixed) → ((i s : ℕ) → length (entry_text (m i s)) ≡ 2) → length (entries_text (entries ns m)) ≡ 2 * sum_by (λ n. n) ns
length-entries [] m h = refl
length-entries (n ∷ ns) m h =
    ap length (flat_map-append entry_text (listed n (m 0)) (entries ns (later m))) ∙ length-append (entries_text (listed n (m 0))) (entries_text (entries ns (later m))) ∙ omega (arith, sum_by-cons (λ n. n) n ns, length-listed n (m 0) (h 0), length-entries ns (later m) (λ i. h (suc i)))

-- the length of the line with some entry
length-line_some : (q : ℚ) (qs : List ℚ) → length (line_text (q ∷ qs)) ≡ 3 + length (entries_text (q ∷ qs))
length-line_some q qs =
    ap length (sym (line_text-joined [] (q ∷ qs))) ∙ length-append (codes "NE") (entries_text (q ∷ qs) ++ 10 ∷ []) ∙ ap (λ v. 2 + v) (length-append (entries_text (q ∷ qs)) (10 ∷ [])) ∙ omega arith

-- the length of the line without entries
pub length-line_none : (ns profile : List ℕ) → HaveStrategies ns → sum_by (λ n. n) ns ≡ 0 → length (line_text (entries ns (pure profile))) ≡ 4
length-line_none [] profile h e = refl
length-line_none (n ∷ ns) profile h e = let some : 0 < n = h.some 0 (omega arith) in absurd (omega (arith, some, sum_by-cons (λ n. n) n ns))

-- the length of the line of a profile with some strategy
pub length-line_text : (ns profile : List ℕ) → HaveStrategies ns → sum_by (λ n. n) ns ≢ 0 → length (line_text (entries ns (pure profile))) ≡ 3 + 2 * sum_by (λ n. n) ns
length-line_text [] profile h e = absurd (e refl)
length-line_text (zero ∷ ns) profile h e = absurd (omega (arith, h.some 0 (omega arith)))
length-line_text (suc n ∷ ns) profile h e =
    length-line_some (pure profile 0 0) (listed n (λ i. pure profile 0 (suc i)) ++ entries ns (later (pure profile))) ∙ ap (λ v. 3 + v) (length-entries (suc n ∷ ns) (pure profile) (λ i s. length-entry_text (get_or profile i 0) s))

-- each player has some strategy
pub HaveStrategies-all : (ns : List ℕ) → All (λ n. 0 < n) ns → HaveStrategies ns
HaveStrategies-all ns h = record { some = λ i l. h i 0 l }

-- the strategies of all players are at most as many as players and profiles
sum-at_most : (ns : List ℕ) → HaveStrategies ns → sum_by (λ n. n) ns ≤ length ns + profile_count ns
sum-at_most [] h = omega arith
sum-at_most (zero ∷ ns) h = absurd (omega (arith, h.some 0 (omega arith)))
sum-at_most (suc n ∷ ns) h =
    let rest : HaveStrategies ns = HaveStrategies-later (suc n) ns h in
    let one : n * 1 ≤ n * profile_count ns = mul-le-mul_left n (profile_count-positive ns rest) in
    omega (arith, one, sum_by-cons (λ n. n) (suc n) ns, sum-at_most ns rest)

-- few players with few profiles have few strategies
pub few_strategies : (ns : List ℕ) (strategies i : ℕ) → All (λ n. 0 < n) ns → length ns < 2 ^ 40 → profile_count ns ≤ most_payoffs → strategies ≡ sum_by (λ n. n) (take i ns) → strategies < 2 ^ 41
few_strategies ns strategies i h l few e = omega (arith, e, sum_by-take-le (λ n. n) ns i, sum-at_most ns (HaveStrategies-all ns h))

-- past the last player all strategies are counted
pub all_counted : (ns : List ℕ) (strategies i : ℕ) → length ns ≤ i → strategies ≡ sum_by (λ n. n) (take i ns) → strategies ≡ sum_by (λ n. n) ns
all_counted ns strategies i l e = e ∙ ap (sum_by (λ n. n)) (take_all i ns l)

-- the lines of few profiles have few bytes
pub few_bytes : (profiles n : ℕ) → profiles ≤ most_payoffs → n ≤ 3 + 2 * 2 ^ 41 → profiles * n < 2 ^ 64
few_bytes profiles n h l = omega (arith, mul-le-mul h l)

-- the length of the text is that of a line for each entry
pub length-lines_text : (ns : List ℕ) (best_replies : List Bool) (n : ℕ) → length best_replies ≡ profile_count ns → ((profile : List ℕ) → length (line_text (entries ns (pure profile))) ≡ n) → length (lines_text (lines_below ns best_replies (length best_replies))) ≡ count_by (λ b. b) best_replies * n
length-lines_text ns best_replies n e h =
    length-listed_ones (rank_line ns) (ranked_plays_best ns best_replies) n (length best_replies) (λ q l. h _) ∙ ap (λ v. v * n) (ap (λ v. total v (λ q. one_if (ranked_plays_best ns best_replies q))) e ∙ total-ranked ns (λ k. one_if (plays_best best_replies k)) ∙ ap (λ v. total v (λ k. one_if (plays_best best_replies k))) (sym e) ∙ total-best_replies best_replies)
