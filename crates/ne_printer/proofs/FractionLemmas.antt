-- Texts of fractions: each is one fraction only, and a `/` stands in it once.
use Rattle.std.proofs.Common.{◌++◌, ◌≢◌, ◌∙◌, sym, subst, ap, ap₂, arith, ℕ, suc, ◌≡◌, pos, length, get_or, List, [], ◌∷◌, All, inl, inr}
use Rattle.rational.specs.Rational.{ℚ, frac, whole}
use Rattle.ne_printer.specs.ReadLines.{IsWholeNumber, IsFraction}
use Rattle.ne_printer.proofs.NumeralLemmas.{no_slash, one_cut}

-- a text that is cut at a `/` has one
pub no_cut : (text top bottom : List ℕ) → All (λ b. b ≢ 47) text → text ≡ top ++ 47 ∷ bottom → ⊥
no_cut text [] bottom h e = h 0 0 (omega (arith, ap length e)) (ap (λ t. get_or t 0 0) e)
no_cut [] (b ∷ top) bottom h e = cc
no_cut (c ∷ text) (b ∷ top) bottom h e =
    let rest : text ≡ top ++ 47 ∷ bottom = cc in
    no_cut text top bottom (λ k d l. h (suc k) d (omega arith)) rest

-- a text is one number only
pub one_number : (text : List ℕ) (n m : ℕ) → IsWholeNumber text n → IsWholeNumber text m → n ≡ m
one_number text n m h k = h.value ∙ sym k.value

-- of a text with no `/`
pub uncut_fraction : (text : List ℕ) (q : ℚ) → All (λ b. b ≢ 47) text → IsFraction text q → (n : ℕ) × IsWholeNumber text n × (q ≡ whole (pos n))
uncut_fraction text q h (inl f) = f
uncut_fraction text q h (inr f) = absurd (no_cut text f.top f.bottom h f.text_is)

-- the fraction of a text that is cut at its first `/`
pub record IsOver (top bottom : List ℕ) (q : ℚ) : Type 0 where
  pub num : ℕ
  pub den : ℕ
  pub top_is : IsWholeNumber top num
  pub bottom_is : IsWholeNumber bottom den
  pub not_zero : den ≢ 0
  pub value : q ≡ frac (pos num) den

-- of a text that is cut at its first `/`
pub cut_fraction : (text top bottom : List ℕ) (q : ℚ) → All (λ b. b ≢ 47) top → text ≡ top ++ 47 ∷ bottom → IsFraction text q → IsOver top bottom q
cut_fraction text top bottom q h e (inl f) = absurd (no_cut text top bottom (no_slash text f.1.numeral.is_numeral.1) e)
cut_fraction text top bottom q h e (inr f) =
    let same = one_cut f.top f.bottom top bottom (no_slash f.top f.top_is.numeral.is_numeral.1) h (sym f.text_is ∙ e) in
    record {
      num = f.num;
      den = f.den;
      top_is = subst (λ t. IsWholeNumber t f.num) same.0 f.top_is;
      bottom_is = subst (λ t. IsWholeNumber t f.den) same.1 f.bottom_is;
      not_zero = f.not_zero;
      value = f.value;
    }

-- a text is one fraction only
pub one_fraction : (text : List ℕ) (q r : ℚ) → IsFraction text q → IsFraction text r → q ≡ r
one_fraction text q r (inl f) g =
    let other = uncut_fraction text r (no_slash text f.1.numeral.is_numeral.1) g in
    f.2 ∙ ap (λ n. whole (pos n)) (one_number text f.0 other.0 f.1 other.1) ∙ sym other.2
one_fraction text q r (inr f) g =
    let other = cut_fraction text f.top f.bottom r (no_slash f.top f.top_is.numeral.is_numeral.1) f.text_is g in
    let nums = one_number f.top f.num other.num f.top_is other.top_is in
    let dens = one_number f.bottom f.den other.den f.bottom_is other.bottom_is in
    f.value ∙ ap₂ (λ n d. frac (pos n) d) nums dens ∙ sym other.value
