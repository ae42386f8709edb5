-- The text of the lines of the first pairs, and of a line from its parts
use Rattle.std.proofs.Common.{ℕ, zero, suc, ◌+◌, ◌<◌, ◌≤◌, ◌≡◌, List, [], ◌∷◌, ◌++◌, length, length-append, map, get_or, take, drop, codes, refl, sym, ap, ap₂, ◌∙◌, arith, add-one, append_assoc}
use Rattle.std.proofs.Math.Seq.{take-suc}
use Rattle.std.proofs.lemmas.List.{append-nil, map-append, take-append-drop}
use Rattle.std.proofs.lemmas.Grind.{flat_map-append}
use Rattle.rational.specs.Rational.{ℚ}
use Rattle.game_theory.specs.Lines.{line_text, lines_text}
use Rattle.ne_printer.specs.Entries.{entry_text, entries_text, line_start}
use Rattle.ne_printer.proofs.LineTextLemmas.{line_text-joined}

module _ {X : Type 0} (line : X → List ℚ) (xs : List X) (k : ℕ) (d : X) (l : k < length xs) where
  -- one more line
  pub text-next : (text new : List ℕ) (entries : List ℚ) → text ≡ lines_text (map line (take k xs)) → entries ≡ line (get_or xs k d) → new ≡ text ++ line_text entries → new ≡ lines_text (map line (take (k + 1) xs))
  text-next text new entries before is push =
      push ∙ ap₂ (λ t e. t ++ line_text e) before is
      ∙ ap (λ t. lines_text (map line (take k xs)) ++ t) (sym (append-nil (line_text (line (get_or xs k d)))))
      ∙ sym (flat_map-append line_text (map line (take k xs)) (line (get_or xs k d) ∷ []))
      ∙ ap lines_text (sym (map-append line (take k xs) (get_or xs k d ∷ [])) ∙ ap (map line) (sym (ap (λ n. take n xs) (add-one k) ∙ take-suc xs k d l)))

-- more lines are no shorter
pub text-grows : {X : Type 0} (line : X → List ℚ) (xs : List X) (k : ℕ) → length (lines_text (map line (take k xs))) ≤ length (lines_text (map line xs))
text-grows line xs k =
    let e : lines_text (map line xs) ≡ lines_text (map line (take k xs)) ++ lines_text (map line (drop k xs)) = ap (λ ys. lines_text (map line ys)) (sym (take-append-drop k xs)) ∙ ap lines_text (map-append line (take k xs) (drop k xs)) ∙ flat_map-append line_text (map line (take k xs)) (map line (drop k xs)) in
    omega (arith, ap length e, length-append (lines_text (map line (take k xs))) (lines_text (map line (drop k xs))))

-- ---- lines of points whose entries are written
-- what is written of the entries at a place
pub entries-at : {V : Type 0} (point : V → List ℚ) (vs : List V) (i : ℕ) → get_or (map (λ v. entries_text (point v)) vs) i [] ≡ entries_text (get_or (map point vs) i [])
entries-at point [] i = refl
entries-at point (v ∷ vs) zero = refl
entries-at point (v ∷ vs) (suc i) = entries-at point vs i

-- a line without entries has its comma before them
pub start-both : (first second : List ℕ) (xs ys : List ℚ) → length first ≡ 0 → length second ≡ 0 → first ≡ entries_text xs → second ≡ entries_text ys → codes "NE," ≡ line_start (xs ++ ys)
start-both first second [] [] h l e f = refl
start-both first second [] (y ∷ ys) h l e f = absurd (omega (arith, l, ap length f))
start-both first second (x ∷ xs) ys h l e f = absurd (omega (arith, h, ap length e))

pub start-some : (first second : List ℕ) (xs ys : List ℚ) → 0 < length first + length second → first ≡ entries_text xs → second ≡ entries_text ys → codes "NE" ≡ line_start (xs ++ ys)
start-some first second [] [] h e f = absurd (omega (arith, h, ap length e, ap length f))
start-some first second [] (y ∷ ys) h e f = refl
start-some first second (x ∷ xs) ys h e f = refl

-- the line of two points, from its parts
pub line-joined : (old start first second : List ℕ) (xs ys : List ℚ) → start ≡ line_start (xs ++ ys) → first ≡ entries_text xs → second ≡ entries_text ys → (((old ++ start) ++ first) ++ second) ++ 10 ∷ [] ≡ old ++ line_text (xs ++ ys)
line-joined old start first second xs ys s e f =
    ap (λ v. v ++ 10 ∷ []) (append_assoc (old ++ start) first second ∙ ap₂ (λ v w. (old ++ v) ++ w) s (ap₂ (λ v w. v ++ w) e f ∙ sym (flat_map-append entry_text xs ys)))
    ∙ line_text-joined old (xs ++ ys)
