-- The start of a system
use Rattle.std.proofs.Common.{ℕ, ℤ, inl, inr, Result, Ok, Err, ◌≡◌, ◌<◌, ◌^◌, ◌+◌, ◌*◌, refl, sym, ap, ap₂, ◌∙◌, subst, List, ◌++◌, arith, length, take}
use Rattle.answers.specs.Answers.{Gives}
use Rattle.rational.specs.Rational.{ℚ}
use Rattle.frac128.specs.Steps.{Step}
use Rattle.linear_systems.specs.Rows.{Alike}
use Rattle.linear_systems.specs.RowEquivalence.{IsStart}
use Rattle.linear_systems.proofs.RowEquivalenceLemmas.{reached_start, reached_alike}
use Rattle.whole_rows.specs.Rows.{fraction, from_place, IsRow}
use Rattle.lex_tableau.specs.Rows.{WholeTableau, tableau, IsTableau}
use Rattle.lex_tableau.specs.Starts.{LinearSystem, system_of, IsSystem, IsStartOf}
use Rattle.whole_rows.specs.StartRows.{cells_from, start_rows_fit, IsStartRow}
use Rattle.lex_tableau.specs.StartStops.{rows_in, start_in}
use Rattle.lex_tableau.specs.declared.tableau.StartStop.TheVariants.{Unfit, Memory}
use Rattle.std.proofs.Math.Seq.{take-append_seam}

-- ---- the whole start
pub start_rows : (s : LinearSystem) (xs : List ℤ) (count : ℕ) → count ≡ length s.nonbasics + 1 → ((i : ℕ) → i < length s.basics → IsStartRow count (cells_from s.cells (i * count)) (from_place xs (i * (count + 1)))) → (i : ℕ) → i < length s.basics → IsRow (length s.nonbasics + 2) (from_place xs (i * (length s.nonbasics + 2))) × ((k : ℕ) → k < length s.nonbasics + 1 → fraction (from_place xs (i * (length s.nonbasics + 2))) (k + 1) ≡ cells_from s.cells (i * (length s.nonbasics + 1)) k)
start_rows s xs count e h i hi =
    let f : count + 1 ≡ length s.nonbasics + 2 = omega (arith, e) in
    (subst (λ z. IsRow z (from_place xs (i * z))) f (h i hi).is_row, λ k hk. ap (λ z. fraction (from_place xs (i * z)) (k + 1)) (sym f) ∙ (h i hi).same k (omega (arith, hk, e)) ∙ ap (λ z. cells_from s.cells (i * z) k) e)

module _ (s : LinearSystem) (xs : List ℤ) (t : IsSystem s) (shape : length xs ≡ length s.basics * (length s.nonbasics + 2)) (h : (i : ℕ) → i < length s.basics → IsRow (length s.nonbasics + 2) (from_place xs (i * (length s.nonbasics + 2))) × ((k : ℕ) → k < length s.nonbasics + 1 → fraction (from_place xs (i * (length s.nonbasics + 2))) (k + 1) ≡ cells_from s.cells (i * (length s.nonbasics + 1)) k)) where
  abbrev pub started : WholeTableau
  started = record { starts = s.basics; basics = s.basics; nonbasics = s.nonbasics; rated = s.rated; numbers = xs }

  pub start_alike : Alike (system_of s) (tableau started)
  start_alike = record { rows = refl; width = refl; basic = λ i hi. refl; nonbasic = λ j hj. refl; cell = λ i j hi hj. sym ((h i hi).1 j (omega (arith, hj))); right = λ i hi. sym ((h i hi).1 (length s.nonbasics) (omega arith)) }

  is_start : IsStart (2 ^ 32) s.rated (system_of s)
  is_start = record { rated = t.rated; proper = t.distinct; basic_below = λ i hi. t.basics_small i; nonbasic_below = λ j hj. t.nonbasics_small j }

  pub start_is_tableau : IsTableau started
  start_is_tableau =
      record {
        starts = refl;
        rated = t.rated;
        shape = shape;
        rows = λ i hi. (h i hi).0;
        reached = record { bound = 2 ^ 32; start = system_of s; begins = is_start; basics = λ i hi. refl; reached = reached_alike (2 ^ 32) s.rated (system_of s) (system_of s) (tableau started) t.rated start_alike (reached_start (2 ^ 32) s.rated (system_of s) is_start) };
      }

  pub start_is : IsStartOf s started
  start_is = record { fractions = start_alike; starts = refl; rated = refl }

-- the start, as the code copies its lists
pub start_copied : (P : WholeTableau → Type 0) (s : LinearSystem) (xs ys : List ℤ) (a b c : List ℕ) → a ≡ s.basics → b ≡ s.basics → c ≡ s.nonbasics → ys ≡ xs → P (record { starts = s.basics; basics = s.basics; nonbasics = s.nonbasics; rated = s.rated; numbers = xs }) → P (record { starts = a; basics = b; nonbasics = c; rated = s.rated; numbers = ys })
start_copied P s xs ys a b c ea eb ec ex h =
    subst (λ a. P (record { starts = a; basics = b; nonbasics = c; rated = s.rated; numbers = ys })) (sym ea)
    (subst (λ b. P (record { starts = s.basics; basics = b; nonbasics = c; rated = s.rated; numbers = ys })) (sym eb)
    (subst (λ c. P (record { starts = s.basics; basics = s.basics; nonbasics = c; rated = s.rated; numbers = ys })) (sym ec)
    (subst (λ ys. P (record { starts = s.basics; basics = s.basics; nonbasics = s.nonbasics; rated = s.rated; numbers = ys })) (sym ex) h)))

pub start_shape : (n rows w r k : ℕ) → n ≡ rows * (w + 1 + 1) → rows ≡ r → w ≡ k → n ≡ r * (k + 2)
start_shape n rows w r k e f g = e ∙ ap₂ (λ a b. a * b) f (two w k g)
  where
    two : (w k : ℕ) → w ≡ k → w + 1 + 1 ≡ k + 2
    two w k g = omega (arith, g)

pub take_all : {X : Type 0} (xs ys : List X) (n : ℕ) → length xs ≡ n → take n (xs ++ ys) ≡ xs
take_all xs ys n e = ap (λ n. take n (xs ++ ys)) (sym e) ∙ take-append_seam xs ys

-- ---- the stages
-- the rows are those of the system
pub rows_read : (s : LinearSystem) (rows count : ℕ) (cells : List ℚ) (answer : Result (Unit {0}) (ℕ × Step)) → rows ≡ length s.basics → count ≡ length s.nonbasics → cells ≡ s.cells → start_rows_fit rows (count + 1) cells answer → start_rows_fit (length s.basics) (length s.nonbasics + 1) s.cells answer
rows_read s rows count cells answer e f g h =
    subst (λ r. start_rows_fit r (length s.nonbasics + 1) s.cells answer) e
    (subst (λ n. start_rows_fit rows (n + 1) s.cells answer) f (subst (λ xs. start_rows_fit rows (count + 1) xs answer) g h))

pub start_given : (s t : LinearSystem) (n : WholeTableau) → s ≡ t → start_rows_fit (length s.basics) (length s.nonbasics + 1) s.cells (Ok tt) → IsStartOf s n → IsTableau n → start_in t (Ok n)
start_given s t n e h start valid = subst (λ t. start_in t (Ok n)) e (tt, h, record { start = start; valid = valid })

pub start_stopped : (s t : LinearSystem) (row : ℕ) (step : Step) → s ≡ t → start_rows_fit (length s.basics) (length s.nonbasics + 1) s.cells (Err (row, step)) → Gives Memory (start_in t) (Err (Unfit row step))
start_stopped s t row step e h = inr (inl (subst (λ t. rows_in t (Err (Unfit row step))) e ((row, step), h, refl)))
