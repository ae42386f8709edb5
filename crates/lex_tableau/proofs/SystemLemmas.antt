-- A system is determined by its fractions, and has one start.
use Rattle.std.proofs.Common.{ℕ, ◌≡◌, ◌<◌, ◌+◌, ◌*◌, ◌/◌, ◌%◌, inl, inr, ◌≤◌, length, get_or, sym, ap, ap₂, ◌∙◌, subst, arith, div-add-mod', eq-or-lt_of_le}
use Rattle.std.specs.List.{range_with_len}
use Rattle.std.proofs.lemmas.Grind.{same_number_lists}
use Rattle.std.proofs.lemmas.List.{ext_get_or}
use native.Mathlib.Nat.{div-lt_iff_lt-mul, mod-lt}
use Rattle.answers.specs.Answers.{such_that, IsSingle}
use Rattle.answers.proofs.AnswerLemmas.{bind-single, refused_by-single, such_that-single}
use Rattle.rational.specs.Rational.{zero_ℚ}
use Rattle.linear_systems.specs.Rows.{Alike}
use Rattle.linear_systems.proofs.AgreementLemmas.{alike_both}
use Rattle.lex_tableau.specs.Rows.{WholeTableau, tableau, IsTableau}
use Rattle.lex_tableau.specs.Starts.{LinearSystem, system_of, IsSystem, IsStartOf, cells_from, start_steps, start_rows_fit}
use Rattle.lex_tableau.specs.StartStops.{rows_in, start_in, start_of, IsStartTableau}
use Rattle.lex_tableau.specs.declared.tableau.StartStop.TheVariants.{Unfit}
use Rattle.frac128.proofs.FirstUnfitLemmas.{all_fit-single}
use Rattle.lex_tableau.proofs.TableauLemmas.{determined}

parts_same : (a b : LinearSystem) → a.basics ≡ b.basics → a.nonbasics ≡ b.nonbasics → a.cells ≡ b.cells → a.rated ≡ b.rated → a ≡ b
parts_same a b p q r s = λ i. record { basics = p i; nonbasics = q i; cells = r i; rated = s i }

module _ (a b : LinearSystem) (l : Alike (system_of a) (system_of b)) where
  width : length a.nonbasics ≡ length b.nonbasics
  width = l.width

  -- row by row
  row_cells : (i p : ℕ) → i < length a.basics → p < length a.nonbasics + 1 → cells_from a.cells (i * (length a.nonbasics + 1)) p ≡ cells_from b.cells (i * (length a.nonbasics + 1)) p
  row_cells i p hi hp = elim (eq-or-lt_of_le (let q : p ≤ length a.nonbasics = omega arith in q)) [
    | inl e ↦ subst (λ k. cells_from a.cells (i * (length a.nonbasics + 1)) k ≡ cells_from b.cells (i * (length a.nonbasics + 1)) k) (sym e)
        (l.right i hi ∙ ap (λ w. cells_from b.cells (i * (w + 1)) w) (sym width))
    | inr m ↦ (l.cell i p hi m ∙ ap (λ w. cells_from b.cells (i * (w + 1)) p) (sym width))
  ]

pub systems_determined : (a b : LinearSystem) → IsSystem a → IsSystem b → Alike (system_of a) (system_of b) → a.rated ≡ b.rated → a ≡ b
systems_determined a b ha hb l r = parts_same a b basics nonbasics (ext_get_or zero_ℚ a.cells b.cells lengths at) r
  where
    basics : a.basics ≡ b.basics
    basics = same_number_lists a.basics b.basics l.rows (λ i h. l.basic i h)

    nonbasics : a.nonbasics ≡ b.nonbasics
    nonbasics = same_number_lists a.nonbasics b.nonbasics l.width (λ j h. l.nonbasic j h)

    lengths : length a.cells ≡ length b.cells
    lengths = ha.shape ∙ ap₂ (λ x y. length x * (length y + 1)) basics nonbasics ∙ sym hb.shape

    size : ℕ
    size = length a.nonbasics + 1

    at : (k : ℕ) → k < length a.cells → get_or a.cells k zero_ℚ ≡ get_or b.cells k zero_ℚ
    at k h =
        subst (λ n. get_or a.cells n zero_ℚ ≡ get_or b.cells n zero_ℚ) (div-add-mod' k size)
        (row_cells a b l (k / size) (k % size) ((div-lt_iff_lt-mul {k = size} (omega arith)).1 (subst (λ n. k < n) ha.shape h)) (mod-lt k {m = size} (omega arith)))

pub starts_same : (s : LinearSystem) (m n : WholeTableau) → IsTableau m → IsTableau n → IsStartOf s m → IsStartOf s n → m ≡ n
starts_same s m n hm hn p q =
    determined m n hm hn (p.starts ∙ sym q.starts) (p.rated ∙ sym q.rated) (alike_both (system_of s) (tableau m) (tableau n) p.fractions q.fractions)

-- a system has one start, or one step that is the first that does not fit
pub start_in-single : (s : LinearSystem) → IsSingle (start_in s)
start_in-single s =
    bind-single (rows_in s) (λ _. such_that (IsStartTableau s))
    (refused_by-single (λ stop. Unfit stop.0 stop.1) (start_rows_fit (length s.basics) (length s.nonbasics + 1) s.cells) (all_fit-single (start_steps (length s.nonbasics + 1) s.cells) (range_with_len 0 (length s.basics))))
    (λ _ _. such_that-single (IsStartTableau s) (λ m n h g. starts_same s m n h.valid g.valid h.start g.start))

-- the one system that is described has one start
pub start_of-single : (Describes : LinearSystem → Type 0) → ((s t : LinearSystem) → Describes s → Describes t → s ≡ t) → IsSingle (start_of Describes)
start_of-single Describes same one other h g =
    start_in-single g.0 one other (subst (λ s. start_in s one) (same h.0 g.0 h.1.0 g.1.0) h.1.1) g.1.1
