-- What the stages of a level say, under names.
use Rattle.std.proofs.Common.{ℕ, suc, zero, ◌≡◌, ◌<◌, ◌≤◌, ◌+◌, sym, ap, ap₂, ◌∙◌, subst, arith, inl, inr, List, [], ◌∷◌, ◌++◌, length, Ok}
use Rattle.std.specs.List.{Contains}
use Rattle.std.proofs.lemmas.List.{get_or_default, length-append}
use Rattle.lists.proofs.ElementLemmas.{in_cases}
use Rattle.lex_tableau.specs.Rows.{WholeTableau, IsTableau}
use Rattle.lex_tableau.specs.Starts.{LinearSystem}
use Rattle.lex_tableau.specs.StartStops.{IsStartTableau}
use Rattle.basis_enum.specs.Levels.{Levels, Pivot, AreNextPivots, IsNextLevel, no_tableau, basis_count, most_bases, first_level}
use Rattle.basis_enum.specs.Reached.{level_of, next_level}

-- level 0
pub record IsFirst (s : LinearSystem) (l : Levels) : Type 0 where
  pub start : WholeTableau
  pub started : IsStartTableau s start
  pub before : l.before ≡ []
  pub level : l.level ≡ start ∷ []

pub first_read : (s : LinearSystem) (l : Levels) → level_of s 0 (Ok l) → IsFirst s l
first_read s l h =
    let same : l ≡ first_level h.0 = cc (h.2) in
    record { start = h.0; started = h.1.2; before = ap (λ (l : Levels). l.before) same; level = ap (λ (l : Levels). l.level) same }

-- l has the level after p
pub record IsNext (p l : Levels) : Type 0 where
  pub pivots : List Pivot
  pub are : AreNextPivots p pivots
  pub some : 0 < length pivots
  pub few : basis_count p pivots ≤ most_bases
  pub next : IsNextLevel p pivots l

pub next_read : (k : ℕ) (p l : Levels) → next_level k p (Ok l) → IsNext p l
next_read k p l h =
    let within : most_bases < basis_count p h.0 → ⊥ = h.2.1 in
    record { pivots = h.0; are = h.1.0; some = h.1.1; few = omega (arith, within); next = h.2.2.2 }

-- the tableaux of a level are tableaux
pub level_valid : (s : LinearSystem) (k : ℕ) (l : Levels) → level_of s k (Ok l) → (t : WholeTableau) → Contains l.level t → IsTableau t
level_valid s zero l h t c =
    let f = first_read s l h in
    elim (in_cases f.start t [] (subst (λ xs. Contains xs t) f.level c)) [ inl e ↦ subst IsTableau e f.started.valid | inr x ↦ absurd (omega (arith, x.1)) ]
level_valid s (suc k) l (p, hp, q) t c =
    let n = next_read k p l q in
    subst IsTableau (get_or_default l.level c.0 no_tableau t c.1 ∙ c.2) (n.next.tableaux c.0 (let e : length l.level ≡ length n.pivots = n.next.size in let w : c.0 < length l.level = c.1 in omega arith)).is_tableau

-- there are not too many bases
pub level_few : (s : LinearSystem) (k : ℕ) (l : Levels) → level_of s k (Ok l) → length (l.before ++ l.level) ≤ most_bases
level_few s zero l h = (let f = first_read s l h in subst (λ n. n ≤ most_bases) (sym (ap₂ (λ b x. length (b ++ x)) f.before f.level)) (omega arith))
level_few s (suc k) l (p, hp, q) =
    let n = next_read k p l q in
    subst (λ m. m ≤ most_bases) (sym (ap (λ b. length (b ++ l.level)) n.next.before ∙ length-append (p.before ++ p.level) l.level ∙ ap (λ m. length (p.before ++ p.level) + m) n.next.size)) n.few

-- each level has a basis, so that levels are as few as bases
pub level_many : (s : LinearSystem) (k : ℕ) (l : Levels) → level_of s k (Ok l) → k < length (l.before ++ l.level)
level_many s zero l h = (let f = first_read s l h in subst (λ n. 0 < n) (sym (ap₂ (λ b x. length (b ++ x)) f.before f.level)) (omega arith))
level_many s (suc k) l (p, hp, q) =
    let n = next_read k p l q in
    let ih : k < length (p.before ++ p.level) = level_many s k p hp in
    let sum : length (l.before ++ l.level) ≡ length l.before + length l.level = length-append l.before l.level in
    let before : length l.before ≡ length (p.before ++ p.level) = ap length n.next.before in
    let size : length l.level ≡ length n.pivots = n.next.size in
    let some : 0 < length n.pivots = n.some in
    omega arith
