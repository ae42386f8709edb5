-- The lines that are listed: each whose number passes, in order; and their text.
use Rattle.std.proofs.Common.{ℕ, zero, suc, ◌+◌, ◌*◌, ◌<◌, ◌≡◌, inl, inr, Bool, true, false, cond, IsTrue, List, [], ◌∷◌, ◌++◌, length, map, filter, add-one, All, Contains, refl, sym, ap, ap₂, ◌∙◌, subst, arith, append_assoc, length-append}
use Rattle.std.specs.List.{range_with_len}
use Rattle.std.proofs.lemmas.Bool.{cases_lt}
use Rattle.std.proofs.lemmas.Grind.{flat_map-append}
use Rattle.std.proofs.lemmas.List.{append-nil, map-append}
use Rattle.std.proofs.lemmas.List.Elements.{All-push, Contains-append_left, Contains-push, filter-append}
use Rattle.lists.proofs.ElementLemmas.{range-last}
use Rattle.rational.specs.Rational.{ℚ}
use Rattle.game_theory.specs.Lines.{StandsBefore, AreInOrder, line_text, lines_text}
use Rattle.game_theory.proofs.LineOrderLemmas.{AreInOrder-push}
use Rattle.enumpure.specs.Ranks.{listed_below}
use Rattle.enumpure.proofs.TotalLemmas.{total, one_if}

module _ (line : ℕ → List ℚ) (passes : ℕ → Bool) where
  -- the last line is listed where it passes
  listed_below-more : (r : ℕ) → listed_below line passes (suc r) ≡ listed_below line passes r ++ cond (passes r) (line r ∷ []) []
  listed_below-more r =
      ap (λ v. map line (filter passes v)) (range-last r) ∙ ap (map line) (filter-append passes (range_with_len 0 r) (r ∷ [])) ∙ map-append line (filter passes (range_with_len 0 r)) (filter passes (r ∷ [])) ∙ ap (λ v. listed_below line passes r ++ v) (one (passes r))
    where
      one : (b : Bool) → map line (cond b (r ∷ []) []) ≡ cond b (line r ∷ []) []
      one true = refl
      one false = refl

  listed_below-push : (r : ℕ) → passes r ≡ true → listed_below line passes (r + 1) ≡ listed_below line passes r ++ line r ∷ []
  listed_below-push r f = ap (listed_below line passes) (add-one r) ∙ listed_below-more r ∙ ap (λ b. listed_below line passes r ++ cond b (line r ∷ []) []) f

  listed_below-skip : (r : ℕ) → passes r ≡ false → listed_below line passes (r + 1) ≡ listed_below line passes r
  listed_below-skip r f =
      ap (listed_below line passes) (add-one r) ∙ listed_below-more r ∙ ap (λ b. listed_below line passes r ++ cond b (line r ∷ []) []) f ∙ append-nil (listed_below line passes r)

  -- what holds of each listed line holds of all
  pub listed_below-all : (P : List ℚ → Type 0) (r : ℕ) → ((q : ℕ) → q < r → IsTrue (passes q) → P (line q)) → All P (listed_below line passes r)
  listed_below-all P zero h = λ k d l. absurd (omega arith)
  listed_below-all P (suc r) h = subst (All P) (sym (listed_below-more r)) (go (listed_below-all P r (λ q l. h q (omega arith))) (passes r) refl)
    where
      go : All P (listed_below line passes r) → (b : Bool) → passes r ≡ b → All P (listed_below line passes r ++ cond b (line r ∷ []) [])
      go before true e = All-push P (listed_below line passes r) (line r) before (h r (omega arith) e)
      go before false e = subst (All P) (sym (append-nil (listed_below line passes r))) before

  -- the listed ones of lines in order are in order
  pub listed_below-in_order : (r : ℕ) → ((p q : ℕ) → p < q → q < r → StandsBefore (line p) (line q)) → AreInOrder (listed_below line passes r)
  listed_below-in_order zero h = tt
  listed_below-in_order (suc r) h = subst AreInOrder (sym (listed_below-more r)) (go (listed_below-in_order r (λ p q l b. h p q l (omega arith))) (passes r))
    where
      go : AreInOrder (listed_below line passes r) → (b : Bool) → AreInOrder (listed_below line passes r ++ cond b (line r ∷ []) [])
      go before true = AreInOrder-push (listed_below line passes r) (line r) before (listed_below-all (λ x. StandsBefore x (line r)) r (λ q l f. h q r l (omega arith)))
      go before false = subst AreInOrder (sym (append-nil (listed_below line passes r))) before

  -- each listed line is one of them
  pub listed_below-has : (r q : ℕ) → q < r → IsTrue (passes q) → Contains (listed_below line passes r) (line q)
  listed_below-has zero q l f = absurd (omega arith)
  listed_below-has (suc r) q l f =
      subst (λ v. Contains v (line q)) (sym (listed_below-more r))
      (elim (cases_lt q r) [
        | inl b ↦ Contains-append_left (listed_below line passes r) (cond (passes r) (line r ∷ []) []) (line q) (listed_below-has r q b f)
        | inr b ↦ (let e : q ≡ r = omega arith in subst (λ x. Contains (listed_below line passes r ++ cond (passes x) (line x ∷ []) []) (line q)) e (subst (λ v. Contains (listed_below line passes r ++ cond v (line q ∷ []) []) (line q)) (sym f) (Contains-push (listed_below line passes r) (line q))))
      ])

-- ---- the text, a line after another
-- the text of the lines and one more
lines_text-more : (lines : List (List ℚ)) (last : List ℚ) → lines_text (lines ++ last ∷ []) ≡ lines_text lines ++ line_text last
lines_text-more lines last = flat_map-append line_text lines (last ∷ []) ∙ ap (λ v. lines_text lines ++ v) (append-nil (line_text last))

module _ (line : ℕ → List ℚ) (passes : ℕ → Bool) where
  -- no lines at first
  pub text-none : (old : List ℕ) → old ≡ old ++ lines_text (listed_below line passes 0)
  text-none old = sym (append-nil old)

  -- the text with the line of a number that passes
  pub text-push : (r : ℕ) (old text : List ℕ) → text ≡ old ++ lines_text (listed_below line passes r) → passes r ≡ true → text ++ line_text (line r) ≡ old ++ lines_text (listed_below line passes (r + 1))
  text-push r old text e f =
      ap (λ v. v ++ line_text (line r)) e ∙ append_assoc old (lines_text (listed_below line passes r)) (line_text (line r)) ∙ ap (λ v. old ++ v) (sym (lines_text-more (listed_below line passes r) (line r)) ∙ ap lines_text (sym (listed_below-push line passes r f)))

  -- the text where the number does not pass
  pub text-skip : (r : ℕ) (old text : List ℕ) → text ≡ old ++ lines_text (listed_below line passes r) → passes r ≡ false → text ≡ old ++ lines_text (listed_below line passes (r + 1))
  text-skip r old text e f = e ∙ ap (λ v. old ++ lines_text v) (sym (listed_below-skip line passes r f))

  -- ---- its length
  -- listed lines of one length
  pub length-listed_ones : (n r : ℕ) → ((q : ℕ) → q < r → length (line_text (line q)) ≡ n) → length (lines_text (listed_below line passes r)) ≡ total r (λ q. one_if (passes q)) * n
  length-listed_ones n zero h = omega arith
  length-listed_ones n (suc r) h = ap (λ v. length (lines_text v)) (listed_below-more line passes r) ∙ go (length-listed_ones n r (λ q l. h q (omega arith))) (passes r) refl
    where
      go : length (lines_text (listed_below line passes r)) ≡ total r (λ q. one_if (passes q)) * n → (b : Bool) → passes r ≡ b → length (lines_text (listed_below line passes r ++ cond b (line r ∷ []) [])) ≡ (total r (λ q. one_if (passes q)) + one_if b) * n
      go e true f = ap length (lines_text-more (listed_below line passes r) (line r)) ∙ length-append (lines_text (listed_below line passes r)) (line_text (line r)) ∙ ap₂ (λ x y. x + y) e (h r (omega arith)) ∙ omega arith
      go e false f = ap (λ v. length (lines_text v)) (append-nil (listed_below line passes r)) ∙ e ∙ omega arith
