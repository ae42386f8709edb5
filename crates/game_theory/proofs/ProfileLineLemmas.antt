-- The entries of profiles, and the order in which the lines of pure profiles stand.
use Rattle.std.proofs.Common.{ℕ, zero, suc, ◌+◌, ◌<◌, ◌≡◌, ◌⊎◌, inl, inr, List, [], ◌∷◌, ◌++◌, length, length-append, get_or, refl, sym, ap, ap₂, ◌∙◌, subst, subst₂, arith}
use Rattle.std.specs.List.{sum}
use Rattle.std.proofs.lemmas.List.Sums.{sum_by-cons}
use Rattle.std.proofs.lemmas.List.{ext_get_or}
use Rattle.lists.specs.Orders.{ComesBefore}
use Rattle.rational.specs.Rational.{ℚ, ◌<ℚ◌, zero_ℚ}
use Rattle.rational.proofs.InverseLemmas.{zero_lt_one}
use Rattle.game_theory.specs.Profiles.{IsProfile}
use Rattle.game_theory.specs.Mixed.{Mixed, later, sure, pure}
use Rattle.game_theory.specs.Lines.{listed, entries, StandsBefore}
use Rattle.game_theory.proofs.LineOrderLemmas.{StandsBefore-irrefl, StandsBefore-append}
use Rattle.game_theory.proofs.ProfileOrderLemmas.{ComesBefore-cases}
use Rattle.game_theory.proofs.SureStrategyLemmas.{sure-at, sure-other}

-- there are n entries
pub length-listed : (n : ℕ) (f : ℕ → ℚ) → length (listed n f) ≡ n
length-listed zero f = refl
length-listed (suc n) f = ap suc (length-listed n (λ i. f (suc i)))

-- the entry at i
pub get_or-listed : (n : ℕ) (f : ℕ → ℚ) (i : ℕ) (d : ℚ) → i < n → get_or (listed n f) i d ≡ f i
get_or-listed zero f i d h = absurd (omega arith)
get_or-listed (suc n) f zero d h = refl
get_or-listed (suc n) f (suc i) d h = get_or-listed n (λ i. f (suc i)) i d (omega arith)

-- equal numbers give equal lists
pub listed-same : (n : ℕ) (f g : ℕ → ℚ) → ((i : ℕ) → i < n → f i ≡ g i) → listed n f ≡ listed n g
listed-same zero f g e = refl
listed-same (suc n) f g e = ap₂ (λ x y. x ∷ y) (e 0 (omega arith)) (listed-same n (λ i. f (suc i)) (λ i. g (suc i)) (λ i h. e (suc i) (omega arith)))

-- a list by its entries
pub listed-of : (n : ℕ) (xs : List ℚ) (f : ℕ → ℚ) → length xs ≡ n → ((k : ℕ) → k < n → get_or xs k zero_ℚ ≡ f k) → xs ≡ listed n f
listed-of n xs f e each =
    ext_get_or zero_ℚ xs (listed n f) (e ∙ sym (length-listed n f)) (λ k l. each k (omega (arith, l, e)) ∙ sym (get_or-listed n f k zero_ℚ (omega (arith, l, e))))

-- equal probabilities give equal entries
pub entries-same : (ns : List ℕ) (m n : Mixed) → ((i s : ℕ) → i < length ns → s < get_or ns i 0 → m i s ≡ n i s) → entries ns m ≡ entries ns n
entries-same [] m n e = refl
entries-same (k ∷ ns) m n e =
    ap₂ (λ x y. x ++ y) (listed-same k (m 0) (n 0) (λ s h. e 0 s (omega arith) h)) (entries-same ns (later m) (later n) (λ i s l h. e (suc i) s (omega arith) h))

-- a profile has an entry for each strategy of each player
pub length-entries : (ns : List ℕ) (m : Mixed) → length (entries ns m) ≡ sum ns
length-entries [] m = refl
length-entries (n ∷ ns) m =
    length-append (listed n (m 0)) (entries ns (later m)) ∙ ap₂ (λ x y. x + y) (length-listed n (m 0)) (length-entries ns (later m)) ∙ sym (sum_by-cons (λ x. x) n ns)

-- lists that begin with n equal numbers
listed-parts : (n : ℕ) (f g : ℕ → ℚ) (xs ys : List ℚ) → listed n f ++ xs ≡ listed n g ++ ys → ((i : ℕ) → i < n → f i ≡ g i) × (xs ≡ ys)
listed-parts zero f g xs ys e = ((λ i h. absurd (omega arith)), e)
listed-parts (suc n) f g xs ys e = go (cc) (listed-parts n (λ i. f (suc i)) (λ i. g (suc i)) xs ys (cc))
  where
    go : f 0 ≡ g 0 → ((i : ℕ) → i < n → f (suc i) ≡ g (suc i)) × (xs ≡ ys) → ((i : ℕ) → i < suc n → f i ≡ g i) × (xs ≡ ys)
    go d p = (at, p.1)
      where
        at : (i : ℕ) → i < suc n → f i ≡ g i
        at zero h = d
        at (suc i) h = p.0 i (omega arith)

-- equal entries are of equal probabilities
pub entries-injective : (ns : List ℕ) (m n : Mixed) → entries ns m ≡ entries ns n → (i s : ℕ) → i < length ns → s < get_or ns i 0 → m i s ≡ n i s
entries-injective [] m n e i s l b = absurd (omega arith)
entries-injective (k ∷ ns) m n e zero s l b = (listed-parts k (m 0) (n 0) (entries ns (later m)) (entries ns (later n)) e).0 s b
entries-injective (k ∷ ns) m n e (suc i) s l b =
    entries-injective ns (later m) (later n) (listed-parts k (m 0) (n 0) (entries ns (later m)) (entries ns (later n)) e).1 i s (omega arith) b

-- the list with the greater number at the first place that differs stands before
pub StandsBefore-listed : (n c : ℕ) (f g : ℕ → ℚ) (xs ys : List ℚ) → c < n → ((j : ℕ) → j < c → f j ≡ g j) → g c <ℚ f c → StandsBefore (listed n f ++ xs) (listed n g ++ ys)
StandsBefore-listed zero c f g xs ys h e l = absurd (omega arith)
StandsBefore-listed (suc n) zero f g xs ys h e l = inl l
StandsBefore-listed (suc n) (suc c) f g xs ys h e l =
    inr (e 0 (omega arith), StandsBefore-listed n c (λ i. f (suc i)) (λ i. g (suc i)) xs ys (omega arith) (λ j k. e (suc j) (omega arith)) l)

-- the smaller strategy's probabilities stand before the greater one's
StandsBefore-sure : (n s t : ℕ) (xs ys : List ℚ) → s < t → t < n → StandsBefore (listed n (sure s) ++ xs) (listed n (sure t) ++ ys)
StandsBefore-sure n s t xs ys h l =
    StandsBefore-listed n s (sure s) (sure t) xs ys (omega arith) (λ j k. sure-other s j (λ e. omega arith) ∙ sym (sure-other t j (λ e. omega arith))) (subst₂ (λ v w. v <ℚ w) (sym (sure-other t s (λ e. omega arith))) (sym (sure-at s)) zero_lt_one)

-- the line of the profile that comes before stands before the other's
pub StandsBefore-entries : (ns s t : List ℕ) → IsProfile ns s → IsProfile ns t → ComesBefore s t → StandsBefore (entries ns (pure s)) (entries ns (pure t))
StandsBefore-entries ns [] t h l c = absurd c
StandsBefore-entries ns (a ∷ s) [] h l c = absurd c
StandsBefore-entries [] (a ∷ s) (b ∷ t) h l c = absurd h
StandsBefore-entries (n ∷ ns) (a ∷ s) (b ∷ t) h l (inl k) = StandsBefore-sure n a b (entries ns (pure s)) (entries ns (pure t)) k l.0
StandsBefore-entries (n ∷ ns) (a ∷ s) (b ∷ t) h l (inr p) =
    subst (λ v. StandsBefore (listed n (sure a) ++ entries ns (pure s)) (listed n (sure v) ++ entries ns (pure t))) p.0 (StandsBefore-append (listed n (sure a)) (entries ns (pure s)) (entries ns (pure t)) (StandsBefore-entries ns s t h.1 l.1 p.1))

-- different pure profiles have different entries
pub entries_pure-injective : (ns s t : List ℕ) → IsProfile ns s → IsProfile ns t → entries ns (pure s) ≡ entries ns (pure t) → s ≡ t
entries_pure-injective ns s t h l e = go (ComesBefore-cases ns s t h l)
  where
    go : (s ≡ t) ⊎ (ComesBefore s t ⊎ ComesBefore t s) → s ≡ t
    go (inl f) = f
    go (inr (inl c)) = absurd (StandsBefore-irrefl (entries ns (pure t)) (subst (λ v. StandsBefore v (entries ns (pure t))) e (StandsBefore-entries ns s t h l c)))
    go (inr (inr c)) = absurd (StandsBefore-irrefl (entries ns (pure t)) (subst (λ v. StandsBefore (entries ns (pure t)) v) e (StandsBefore-entries ns t s l h c)))
