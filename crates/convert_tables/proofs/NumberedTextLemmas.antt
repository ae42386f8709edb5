-- What is written for each number from 0 on.
use Rattle.std.proofs.Common.{ℕ, zero, suc, ◌+◌, ◌-◌, ◌<◌, ◌≤◌, ◌≡◌, List, ◌++◌, length, refl, sym, ap, ◌∙◌, subst, append_assoc, length-append, arith, add-one}
use Rattle.std.specs.List.{flat_map, range_with_len}
use Rattle.lists.proofs.ElementLemmas.{made-next, made-same}

-- what is written for one more number
one_more : (f : ℕ → List ℕ) (n : ℕ) → flat_map f (range_with_len 0 (n + 1)) ≡ flat_map f (range_with_len 0 n) ++ f n
one_more f n = ap (λ k. flat_map f (range_with_len 0 k)) (add-one n) ∙ made-next f n

-- a text that grows by what is written for the next number
pub each-next : (f : ℕ → List ℕ) (old loop new : List ℕ) (n : ℕ) → loop ≡ old ++ flat_map f (range_with_len 0 n) → new ≡ loop ++ f n → new ≡ old ++ flat_map f (range_with_len 0 (n + 1))
each-next f old loop new n h k =
    k ∙ ap (λ v. v ++ f n) h ∙ append_assoc old (flat_map f (range_with_len 0 n)) (f n) ∙ ap (λ v. old ++ v) (sym (one_more f n))

-- the same written for each number
pub each-same : (f g : ℕ → List ℕ) (n : ℕ) → ((k : ℕ) → k < n → f k ≡ g k) → flat_map f (range_with_len 0 n) ≡ flat_map g (range_with_len 0 n)
each-same f g n h = made-same f g 0 n (λ k l b. h k (omega arith))

each_long-by : (f : ℕ → List ℕ) (k n d : ℕ) → n ≡ k + d → length (flat_map f (range_with_len 0 k)) ≤ length (flat_map f (range_with_len 0 n))
each_long-by f k n zero e =
    let same : n ≡ k = omega arith in
    subst (λ v. length (flat_map f (range_with_len 0 k)) ≤ length (flat_map f (range_with_len 0 v))) (sym same) (omega arith)
each_long-by f k n (suc d) e =
    let next : n ≡ (k + d) + 1 = omega arith in
    let long : length (flat_map f (range_with_len 0 (k + d + 1))) ≡ length (flat_map f (range_with_len 0 (k + d))) + length (f (k + d)) = ap length (one_more f (k + d)) ∙ length-append (flat_map f (range_with_len 0 (k + d))) (f (k + d)) in
    subst (λ v. length (flat_map f (range_with_len 0 k)) ≤ length (flat_map f (range_with_len 0 v))) (sym next) (omega (arith, each_long-by f k (k + d) d refl))

-- a text that is too long for the first numbers is so for all
pub each-long : (f : ℕ → List ℕ) (old part : List ℕ) (k n most : ℕ) → k ≤ n → part ≡ old ++ flat_map f (range_with_len 0 k) → most < length part → most < length (old ++ flat_map f (range_with_len 0 n))
each-long f old part k n most l h b =
    omega (arith, ap length h, length-append old (flat_map f (range_with_len 0 k)), length-append old (flat_map f (range_with_len 0 n)), each_long-by f k n (n - k) (omega arith))

-- a text that grows by three parts
pub three_parts : (old a b c one two new : List ℕ) → one ≡ old ++ a → two ≡ one ++ b → new ≡ two ++ c → new ≡ old ++ (a ++ b ++ c)
three_parts old a b c one two new h k l = l ∙ ap (λ v. v ++ c) (k ∙ ap (λ v. v ++ b) h) ∙ simp append_assoc

-- a text that grows by one more part
pub grown : (old part more text new : List ℕ) → text ≡ old ++ part → new ≡ text ++ more → new ≡ old ++ (part ++ more)
grown old part more text new h k = k ∙ ap (λ v. v ++ more) h ∙ append_assoc old part more
