-- Tests of bytes and what they tell.
use Rattle.std.proofs.Common.{◌≡◌, ℕ, ◌≤◌, false, ◌||◌, ◌&&◌, ◌==◌, ◌⊎◌, inl, inr, arith}
use Rattle.std.specs.Prelude.{nat_le}
use Rattle.std.specs.Bool.{Decides}
use Rattle.std.specs.Char.{is_ascii_digit}
use Rattle.std.proofs.lemmas.Bool.{both_ways, false_from_ne_true}
use Rattle.std.proofs.lemmas.Bool.Decides.{Decides-or, Decides-and, Decides-eqb, leb_tells}
use Rattle.game_text.specs.Tokens.{IsBlank, IsLetter, IsBare}
use Rattle.game_text.specs.Reading.{is_blank, is_letter, is_bare}

-- what each test tells
tells_le : (a b : ℕ) → Decides (nat_le a b) (a ≤ b)
tells_le a b =
    elim (leb_tells a b) [ inl h ↦ (λ _. h.1, λ _. h.0) | inr h ↦ (λ e. absurd (both_ways (nat_le a b) h.0 e), λ k. absurd (omega arith)) ]

tells_range : (a b n : ℕ) → Decides (nat_le a n && nat_le n b) ((a ≤ n) × (n ≤ b))
tells_range a b n = Decides-and (nat_le a n) (nat_le n b) (tells_le a n) (tells_le n b)

pub tells_blank : (b : ℕ) → Decides (is_blank b) (IsBlank b)
tells_blank b = Decides-or (b == 32) (nat_le 9 b && nat_le b 13) (Decides-eqb b 32) (tells_range 9 13 b)

pub tells_letter : (b : ℕ) → Decides (is_letter b) (IsLetter b)
tells_letter b = Decides-or (nat_le 65 b && nat_le b 90) (nat_le 97 b && nat_le b 122) (tells_range 65 90 b) (tells_range 97 122 b)

-- the four bytes `+`, `-`, `.` and `/`
tells_sign : (b : ℕ) → Decides (b == 43 || (b == 45 || (b == 46 || b == 47))) ((b ≡ 43) ⊎ ((b ≡ 45) ⊎ ((b ≡ 46) ⊎ (b ≡ 47))))
tells_sign b =
    Decides-or (b == 43) (b == 45 || (b == 46 || b == 47)) (Decides-eqb b 43) (Decides-or (b == 45) (b == 46 || b == 47) (Decides-eqb b 45) (Decides-or (b == 46) (b == 47) (Decides-eqb b 46) (Decides-eqb b 47)))

pub tells_bare : (b : ℕ) → Decides (is_bare b) (IsBare b)
tells_bare b =
    Decides-or (is_letter b) (is_ascii_digit b || (b == 43 || (b == 45 || (b == 46 || b == 47)))) (tells_letter b) (Decides-or (is_ascii_digit b) (b == 43 || (b == 45 || (b == 46 || b == 47))) (tells_range 48 57 b) (tells_sign b))

-- a bare byte is no blank
pub bare_no_blank : (b : ℕ) → IsBare b → IsBlank b → ⊥
bare_no_blank b h k = omega arith

-- a blank is not bare
pub blank_not_bare : (b : ℕ) → IsBlank b → is_bare b ≡ false
blank_not_bare b h = false_from_ne_true (is_bare b) (λ e. bare_no_blank b ((tells_bare b).0 e) h)

-- a byte that is not bare is no letter
pub not_bare_no_letter : (b : ℕ) → is_bare b ≡ false → is_letter b ≡ false
not_bare_no_letter b e =
    false_from_ne_true (is_letter b) (λ k. both_ways (is_bare b) e ((tells_bare b).1 (inl ((tells_letter b).0 k))))
