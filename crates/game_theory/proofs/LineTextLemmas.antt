-- The texts of the lines of pure profiles: each entry is 0 or 1, and written as one digit.
use Rattle.std.proofs.Common.{ℕ, zero, suc, ◌≡◌, ◌⊎◌, inl, inr, List, [], ◌∷◌, ◌++◌, length, map, get_or, eqb, Bool, true, false, cond, refl, sym, ap, ap₂, ◌∙◌, arith}
use Rattle.std.specs.Fmt.{digits}
use Rattle.std.specs.List.{join_with_byte}
use Rattle.std.proofs.lemmas.List.{append_cancel_left, append_cancel_right}
use Rattle.rational.specs.Gcd.{gcd}
use Rattle.rational.specs.Rational.{ℚ, frac, is_lowest, zero_ℚ, one_ℚ}
use Rattle.game_theory.specs.Mixed.{Mixed, later, sure, pure}
use Rattle.game_theory.specs.Lines.{listed, entries}
use Rattle.rational.specs.Text.{number_text}
use Rattle.game_theory.specs.Laws.{LinesDetermineProfiles}
use Rattle.game_theory.proofs.ProfileLineLemmas.{length-entries, entries_pure-injective}

-- each number is 0 or 1
abbrev AreBits : List ℚ → Type 0
AreBits [] = Unit {0}
AreBits (q ∷ qs) = ((q ≡ zero_ℚ) ⊎ (q ≡ one_ℚ)) × AreBits qs

-- the probability of a strategy that is played for sure is 1, and that of each other 0
sure-bit : (s t : ℕ) → (sure s t ≡ zero_ℚ) ⊎ (sure s t ≡ one_ℚ)
sure-bit s t = go (eqb t s)
  where
    go : (b : Bool) → (cond b one_ℚ zero_ℚ ≡ zero_ℚ) ⊎ (cond b one_ℚ zero_ℚ ≡ one_ℚ)
    go true = inr refl
    go false = inl refl

-- a list of bits before another
bits-listed : (n : ℕ) (f : ℕ → ℚ) (rest : List ℚ) → ((t : ℕ) → (f t ≡ zero_ℚ) ⊎ (f t ≡ one_ℚ)) → AreBits rest → AreBits (listed n f ++ rest)
bits-listed zero f rest h r = r
bits-listed (suc n) f rest h r = (h 0, bits-listed n (λ i. f (suc i)) rest (λ t. h (suc t)) r)

-- where each probability is 0 or 1, each entry is
bits-entries : (ns : List ℕ) (m : Mixed) → ((i t : ℕ) → (m i t ≡ zero_ℚ) ⊎ (m i t ≡ one_ℚ)) → AreBits (entries ns m)
bits-entries [] m h = tt
bits-entries (n ∷ ns) m h = bits-listed n (m 0) (entries ns (later m)) (h 0) (bits-entries ns (later m) (λ i. h (suc i)))

-- the digits
pub zero-text : number_text zero_ℚ ≡ 48 ∷ []
unfolding frac gcd is_lowest digits
zero-text = refl

pub one-text : number_text one_ℚ ≡ 49 ∷ []
unfolding frac gcd is_lowest digits
one-text = refl

-- the texts of two bits before further bytes tell the bits and those bytes
bit-told : (p q : ℚ) (xs ys : List ℕ) → (p ≡ zero_ℚ) ⊎ (p ≡ one_ℚ) → (q ≡ zero_ℚ) ⊎ (q ≡ one_ℚ) → number_text p ++ xs ≡ number_text q ++ ys → (p ≡ q) × (xs ≡ ys)
bit-told p q xs ys (inl e) (inl f) h = (e ∙ sym f, append_cancel_left (48 ∷ []) xs ys (rw (e, f, zero-text) at h))
bit-told p q xs ys (inl e) (inr f) h =
    let both : (48 ∷ []) ++ xs ≡ (49 ∷ []) ++ ys = rw (e, f, zero-text, one-text) at h in
    absurd (omega (arith, ap (λ text. get_or text 0 0) both))
bit-told p q xs ys (inr e) (inl f) h =
    let both : (49 ∷ []) ++ xs ≡ (48 ∷ []) ++ ys = rw (e, f, one-text, zero-text) at h in
    absurd (omega (arith, ap (λ text. get_or text 0 0) both))
bit-told p q xs ys (inr e) (inr f) h = (e ∙ sym f, append_cancel_left (49 ∷ []) xs ys (rw (e, f, one-text) at h))

-- bits in equal numbers and with equal texts are equal
bits-told : (ps qs : List ℚ) → AreBits ps → AreBits qs → length ps ≡ length qs → join_with_byte 44 (map number_text ps) ≡ join_with_byte 44 (map number_text qs) → ps ≡ qs
bits-told [] [] a b l h = refl
bits-told [] (q ∷ qs) a b l h = absurd (omega arith)
bits-told (p ∷ ps) [] a b l h = absurd (omega arith)
bits-told (p ∷ []) (q ∷ []) a b l h = ap (λ x. x ∷ []) (bit-told p q [] [] a.0 b.0 (ap (λ x. x ++ []) h)).0
bits-told (p ∷ []) (q ∷ r ∷ qs) a b l h = absurd (omega arith)
bits-told (p ∷ o ∷ ps) (q ∷ []) a b l h = absurd (omega arith)
bits-told (p ∷ o ∷ ps) (q ∷ r ∷ qs) a b l h =
    let told = bit-told p q (44 ∷ join_with_byte 44 (map number_text (o ∷ ps))) (44 ∷ join_with_byte 44 (map number_text (r ∷ qs))) a.0 b.0 h in
    let rest : join_with_byte 44 (map number_text (o ∷ ps)) ≡ join_with_byte 44 (map number_text (r ∷ qs)) = cc told.1 in
    ap₂ (λ x xs. x ∷ xs) told.0 (bits-told (o ∷ ps) (r ∷ qs) a.1 b.1 (omega arith) rest)

-- two pure profiles never have the same line
pub lines-tell : LinesDetermineProfiles
lines-tell ns one other f g h =
    let line : (s : List ℕ) → AreBits (entries ns (pure s)) = λ s. bits-entries ns (pure s) (λ i t. sure-bit _ t) in
    let same : join_with_byte 44 (map number_text (entries ns (pure one))) ≡ join_with_byte 44 (map number_text (entries ns (pure other))) =
    append_cancel_right (join_with_byte 44 (map number_text (entries ns (pure one)))) (join_with_byte 44 (map number_text (entries ns (pure other)))) (10 ∷ []) (cc h) in
    entries_pure-injective ns one other f g (bits-told (entries ns (pure one)) (entries ns (pure other)) (line one) (line other) (length-entries ns (pure one) ∙ sym (length-entries ns (pure other))) same)
