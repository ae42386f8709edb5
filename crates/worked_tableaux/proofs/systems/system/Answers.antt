use Rattle.std.proofs.Common.{ℕ, ◌<◌, ◌≤◌, ◌≡◌, ◌+◌, ◌*◌, ◌^◌, ◌⊎◌, inl, inr, List, length, get_or, sym, ap, ◌∙◌, arith}
use Rattle.std.proofs.lemmas.Bool.{cases_lt}
use Rattle.std.proofs.lemmas.List.{get_or_past}
use Rattle.rational.specs.Rational.{ℚ}
use Rattle.lex_tableau.specs.Entries.{AreNumbered}
use Rattle.lex_tableau.specs.Starts.{IsSystem, linear_system}
use Rattle.worked_tableaux.proofs.systems.system.Goals as goal

small : (first n : ℕ) (xs : List ℕ) → AreNumbered first n xs → first + n < 2 ^ 32 → (i : ℕ)
    → get_or xs i 0 < 2 ^ 32
small first n xs h few i = go (cases_lt i n)
  where
    size : length xs ≡ n
    size = h.length_is

    go : (i < n) ⊎ (n ≤ i) → get_or xs i 0 < 2 ^ 32
    go (inl l) = let e : get_or xs i 0 ≡ first + i = h.number_is i l in omega arith
    go (inr l) = let e : get_or xs i 0 ≡ 0 = get_or_past xs i 0 (omega arith) in omega arith

numbered_system : (rows width rated : ℕ) (basics nonbasics : List ℕ) (cells : List ℚ)
    → rows + width < 2 ^ 32 → AreNumbered 0 rows basics → AreNumbered rows width nonbasics
    → length cells ≡ rows * (width + 1) → rated ≤ rows
    → IsSystem (linear_system basics nonbasics cells rated)
numbered_system rows width rated basics nonbasics cells few b c e r =
    record {
      distinct = record {
        basic_once = λ i k l m q. (let x : get_or basics i 0 ≡ 0 + i = b.number_is i (omega arith) in let y : get_or basics k 0 ≡ 0 + k = b.number_is k (omega arith) in omega arith);
        nonbasic_once = λ i k l m q. (let x : get_or nonbasics i 0 ≡ rows + i = c.number_is i (omega arith) in let y : get_or nonbasics k 0 ≡ rows + k = c.number_is k (omega arith) in omega arith);
        apart = λ i j l m q. (let x : get_or basics i 0 ≡ 0 + i = b.number_is i (omega arith) in let y : get_or nonbasics j 0 ≡ rows + j = c.number_is j (omega arith) in omega arith);
      };
      shape = e ∙ sym (ap (λ k. k * (width + 1)) rows_are) ∙ ap (λ k. length basics * (k + 1)) (sym width_is);
      rated = omega arith;
      basics_small = small 0 rows basics b (omega arith);
      nonbasics_small = small rows width nonbasics c few;
      few = omega arith;
    }
  where
    rows_are : length basics ≡ rows
    rows_are = b.length_is

    width_is : length nonbasics ≡ width
    width_is = c.length_is

pub new-requires : goal.new-requires
new-requires c =
    numbered_system c.args.rows c.args.width c.args.rated _ _ _ (omega arith)
    c.in_ok-basics.ensures c.in_ok-nonbasics.ensures c.requires.cells c.requires.rated
