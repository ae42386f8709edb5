-- The path of complementary pivots, over what it needs of tableaux: its bases and its edges
use Rattle.std.proofs.Common.{ℕ, suc, ◌≡◌, ◌≢◌, ◌⊎◌, inl, inr, Bool, true, false, not, cond, eqb, List, [], ◌∷◌, All, refl, sym, ap, ap₂, subst, ◌∙◌, true≢false, tests, arith}
use Rattle.std.proofs.lemmas.Bool.{cases_eq}
use Rattle.std.proofs.Math.Path.{fun_ext}
use Rattle.std.specs.Prelude.{AllPairs}
use Rattle.std.proofs.lemmas.List.Elements.{All-tail}
use Rattle.lemke_pivot.proofs.WalkLemmas.{FewNeighbours, Turns, Walk, walk_distinct}

-- b after c has entered and l has left
abbrev pub swap : (ℕ → Bool) → ℕ → ℕ → ℕ → Bool
swap b c l v = cond (eqb v c) true (cond (eqb v l) false (b v))

-- Tableaux of one system whose keys are all lexicographically positive. In `Enters t c l t'` the
-- variable c enters t, the variable l leaves it, being the basic variable of the lexicographic row
-- of c's column, and t' is the pivot there
pub record Pivots : Type 1 where
  pub T : Type 0
  pub basic : T → ℕ → Bool
  pub Enters : T → ℕ → ℕ → T → Type 0
  pub was_out : (t t' : T) (c l : ℕ) → Enters t c l t' → basic t c ≡ false
  pub was_in : (t t' : T) (c l : ℕ) → Enters t c l t' → basic t l ≡ true
  pub after : (t t' : T) (c l : ℕ) → Enters t c l t' → (v : ℕ) → basic t' v ≡ swap (basic t) c l v
  -- the set of basic variables and the entering one determine the leaving one
  pub same_leaves : (t t' s s' : T) (c l k : ℕ) → ((v : ℕ) → basic t v ≡ basic s v)
      → Enters t c l t' → Enters s c k s' → l ≡ k
  -- a pivot is undone by entering the variable that left
  pub undone : (t t' : T) (c l : ℕ) → Enters t c l t' → (t'' : T) × Enters t' l c t''

-- z0, and the pairs of complementary variables: a variable of no pair is its own partner
pub record Labels : Type 0 where
  pub z0 : ℕ
  pub partner : ℕ → ℕ
  pub twice : (v : ℕ) → partner (partner v) ≡ v
  pub alone : partner z0 ≡ z0

-- the basis has z0, no variable of the pair of c, and one variable of each other pair
pub record Almost (B : Labels) (b : ℕ → Bool) (c : ℕ) : Type 0 where
  pub paired : B.partner c ≢ c
  pub out : b c ≡ false
  pub partner_out : b (B.partner c) ≡ false
  pub has_z0 : b B.z0 ≡ true
  pub others : (v : ℕ) → B.partner v ≢ v → v ≢ c → v ≢ B.partner c → b (B.partner v) ≡ not (b v)
  pub only : (v : ℕ) → b v ≡ true → v ≢ B.z0 → B.partner v ≢ v

-- the first tableau of the path, the variable that enters it, and that its partner, which left to
-- make it, has no row to enter at
pub record Start (P : Pivots) (B : Labels) : Type 0 where
  pub first : P.T
  pub enters : ℕ
  pub almost : Almost B (P.basic first) enters
  pub dead : (t t' : P.T) (l : ℕ) → ((v : ℕ) → P.basic t v ≡ P.basic first v)
      → P.Enters t (B.partner enters) l t' → ⊥

-- a pivot on the path leads from basis a to basis b
pub record Edge (P : Pivots) (B : Labels) (a b : ℕ → Bool) : Type 0 where
  pub t : P.T
  pub t' : P.T
  pub c : ℕ
  pub l : ℕ
  pub from : P.basic t ≡ a
  pub to : P.basic t' ≡ b
  pub enters : P.Enters t c l t'
  pub almost : Almost B a c
  pub goes_on : l ≢ B.z0

pub swap_in : (b : ℕ → Bool) (c l : ℕ) → swap b c l c ≡ true
swap_in b c l = grind (arith, tests)

pub swap_out : (b : ℕ → Bool) (c l : ℕ) → l ≢ c → swap b c l l ≡ false
swap_out b c l h = grind (arith, tests)

pub swap_other : (b : ℕ → Bool) (c l v : ℕ) → v ≢ c → v ≢ l → swap b c l v ≡ b v
swap_other b c l v h g = grind (arith, tests)

pub swap_back : (b : ℕ → Bool) (c l v : ℕ) → b c ≡ false → b l ≡ true → swap (swap b c l) l c v ≡ b v
swap_back b c l v h g = go (cases_eq v l) (cases_eq v c)
  where
    go : (v ≡ l) ⊎ (v ≢ l) → (v ≡ c) ⊎ (v ≢ c) → swap (swap b c l) l c v ≡ b v
    go (inl e) d = ap (swap (swap b c l) l c) e ∙ swap_in (swap b c l) l c ∙ sym g ∙ ap b (sym e)
    go (inr n) (inl e) = ap (swap (swap b c l) l c) e ∙ swap_out (swap b c l) l c (λ q. n (e ∙ q)) ∙ sym h ∙ ap b (sym e)
    go (inr n) (inr m) = swap_other (swap b c l) l c v n m ∙ swap_other b c l v m n

clash : {A : Type 0} {x : Bool} → x ≡ true → x ≡ false → A
clash h g = absurd (true≢false (sym h ∙ g))

module _ (B : Labels) where
  partner_of : (v w : ℕ) → B.partner v ≡ w → v ≡ B.partner w
  partner_of v w e = sym (B.twice v) ∙ ap B.partner e

  -- either variable of the pair may be named
  pub almost_partner : (b : ℕ → Bool) (c : ℕ) → Almost B b c → Almost B b (B.partner c)
  almost_partner b c a =
      record {
        paired = λ e. a.paired (sym e ∙ B.twice c);
        out = a.partner_out;
        partner_out = ap b (B.twice c) ∙ a.out;
        has_z0 = a.has_z0;
        others = λ v p n m. a.others v p (λ e. m (e ∙ sym (B.twice c))) n;
        only = a.only;
      }

  -- after c has entered for l, the pair of l is the one that lacks
  pub almost_next : (b : ℕ → Bool) (c l : ℕ) → Almost B b c → b l ≡ true → l ≢ B.z0 → Almost B (swap b c l) l
  almost_next b c l a h nz =
      record {
        paired = paired;
        out = swap_out b c l l≢c;
        partner_out = swap_other b c l (B.partner l) (λ e. clash h (ap b (partner_of l c e) ∙ a.partner_out)) paired ∙ a.others l paired l≢c l≢c' ∙ ap not h;
        has_z0 = swap_other b c l B.z0 (λ e. a.paired (ap B.partner (sym e) ∙ B.alone ∙ e)) (λ e. nz (sym e)) ∙ a.has_z0;
        others = others;
        only = only;
      }
    where
      paired : B.partner l ≢ l
      paired = a.only l h nz

      l≢c : l ≢ c
      l≢c e = clash h (ap b e ∙ a.out)

      l≢c' : l ≢ B.partner c
      l≢c' e = clash h (ap b e ∙ a.partner_out)

      others : (v : ℕ) → B.partner v ≢ v → v ≢ l → v ≢ B.partner l → swap b c l (B.partner v) ≡ not (swap b c l v)
      others v p n m = go (cases_eq v c) (cases_eq v (B.partner c))
        where
          v'≢l : B.partner v ≢ l
          v'≢l e = m (partner_of v l e)

          go : (v ≡ c) ⊎ (v ≢ c) → (v ≡ B.partner c) ⊎ (v ≢ B.partner c) → swap b c l (B.partner v) ≡ not (swap b c l v)
          go (inl e) d = swap_other b c l (B.partner v) (λ q. a.paired (ap B.partner (sym e) ∙ q)) v'≢l ∙ ap (λ x. b (B.partner x)) e ∙ a.partner_out ∙ ap not (sym (ap (swap b c l) e ∙ swap_in b c l))
          go (inr k) (inl e) = let e' : B.partner v ≡ c = ap B.partner e ∙ B.twice c in ap (swap b c l) e' ∙ swap_in b c l ∙ ap not (sym (swap_other b c l v k n ∙ ap b e ∙ a.partner_out))
          go (inr k) (inr j) = swap_other b c l (B.partner v) (λ q. j (partner_of v c q)) v'≢l ∙ a.others v p k j ∙ ap not (sym (swap_other b c l v k n))

      only : (v : ℕ) → swap b c l v ≡ true → v ≢ B.z0 → B.partner v ≢ v
      only v t n = go (cases_eq v c) (cases_eq v l)
        where
          go : (v ≡ c) ⊎ (v ≢ c) → (v ≡ l) ⊎ (v ≢ l) → B.partner v ≢ v
          go (inl e) d = subst (λ x. B.partner x ≢ x) (sym e) a.paired
          go (inr k) (inl e) = subst (λ x. B.partner x ≢ x) (sym e) paired
          go (inr k) (inr j) = a.only v (sym (swap_other b c l v k j) ∙ t) n

  -- the pair that lacks is one
  pub one_pair : (b : ℕ → Bool) (c d : ℕ) → Almost B b c → Almost B b d → (d ≡ c) ⊎ (d ≡ B.partner c)
  one_pair b c d a k = go (cases_eq d c) (cases_eq d (B.partner c))
    where
      go : (d ≡ c) ⊎ (d ≢ c) → (d ≡ B.partner c) ⊎ (d ≢ B.partner c) → (d ≡ c) ⊎ (d ≡ B.partner c)
      go (inl e) q = inl e
      go (inr n) (inl e) = inr e
      go (inr n) (inr m) = clash (a.others d k.paired n m ∙ ap not k.out) k.partner_out

-- ---- the graph of bases
module _ (P : Pivots) (B : Labels) where
  moved : (a b : ℕ → Bool) (e : Edge P B a b) → b ≡ swap a e.c e.l
  moved a b e = sym e.to ∙ fun_ext (λ v. P.after e.t e.t' e.c e.l e.enters v) ∙ ap (λ f. swap f e.c e.l) e.from

  was_in : (a b : ℕ → Bool) (e : Edge P B a b) → a e.l ≡ true
  was_in a b e = ap (λ (f : ℕ → Bool). f e.l) (sym e.from) ∙ P.was_in e.t e.t' e.c e.l e.enters

  pub edge_back : (a b : ℕ → Bool) → Edge P B a b → Edge P B b a
  edge_back a b e = let u = P.undone e.t e.t' e.c e.l e.enters in
      record {
        t = e.t';
        t' = u.0;
        c = e.l;
        l = e.c;
        from = e.to;
        to = fun_ext (λ v. P.after e.t' u.0 e.l e.c u.1 v ∙ ap (λ (f : ℕ → Bool). swap f e.l e.c v) (e.to ∙ moved a b e) ∙ swap_back a e.c e.l v e.almost.out (was_in a b e));
        enters = u.1;
        almost = subst (λ f. Almost B f e.l) (sym (moved a b e)) (almost_next B a e.c e.l e.almost (was_in a b e) e.goes_on);
        goes_on = λ q. e.almost.paired (ap B.partner q ∙ B.alone ∙ sym q);
      }

  pub edge_apart : (a b : ℕ → Bool) → Edge P B a b → a ≢ b
  edge_apart a b e q = clash (ap (λ (f : ℕ → Bool). f e.c) (q ∙ moved a b e) ∙ swap_in a e.c e.l) e.almost.out

  pub same_edge : (a b d : ℕ → Bool) (e : Edge P B a b) (k : Edge P B a d) → e.c ≡ k.c → b ≡ d
  same_edge a b d e k q = moved a b e ∙ ap₂ (λ c l. swap a c l) q leaves ∙ sym (moved a d k)
    where
      leaves : e.l ≡ k.l
      leaves = P.same_leaves e.t e.t' k.t k.t' k.c e.l k.l (λ v. ap (λ (f : ℕ → Bool). f v) (e.from ∙ sym k.from)) (subst (λ c. P.Enters e.t c e.l e.t') q e.enters) k.enters

  pub edge_two : (a b d f : ℕ → Bool) → Edge P B a b → Edge P B a d → Edge P B a f → (b ≡ d) ⊎ (b ≡ f) ⊎ (d ≡ f)
  edge_two a b d f e k j = go (one_pair B a e.c k.c e.almost k.almost) (one_pair B a e.c j.c e.almost j.almost)
    where
      go : (k.c ≡ e.c) ⊎ (k.c ≡ B.partner e.c) → (j.c ≡ e.c) ⊎ (j.c ≡ B.partner e.c) → (b ≡ d) ⊎ (b ≡ f) ⊎ (d ≡ f)
      go (inl p) q = inl (same_edge a b d e k (sym p))
      go (inr p) (inl q) = inr (inl (same_edge a b f e j (sym q)))
      go (inr p) (inr q) = inr (inr (same_edge a d f k j (p ∙ sym q)))

  module _ (S : Start P B) where
    pub only_enters : (b : ℕ → Bool) (e : Edge P B (P.basic S.first) b) → e.c ≡ S.enters
    only_enters b e = go (one_pair B (P.basic S.first) S.enters e.c S.almost e.almost)
      where
        go : (e.c ≡ S.enters) ⊎ (e.c ≡ B.partner S.enters) → e.c ≡ S.enters
        go (inl q) = q
        go (inr q) = absurd (S.dead e.t e.t' e.l (λ v. ap (λ (f : ℕ → Bool). f v) e.from) (subst (λ c. P.Enters e.t c e.l e.t') q e.enters))

    pub few_neighbours : FewNeighbours (Edge P B) (P.basic S.first)
    few_neighbours =
        record {
          both = edge_back;
          apart = edge_apart;
          two = edge_two;
          one = λ a b e k. same_edge (P.basic S.first) a b e k (only_enters a e ∙ sym (only_enters b k));
        }

    -- c was out of the basis before the last pivot
    abbrev pub Entering : ℕ → List (ℕ → Bool) → Type 0
    Entering c [] = c ≡ S.enters
    Entering c (b ∷ bs) = b c ≡ false

    -- the path has come to t, which c enters next, over the bases of the list
    pub record At (t : P.T) (c : ℕ) (earlier : List (ℕ → Bool)) : Type 0 where
      pub walk : Walk (Edge P B) (P.basic S.first) (P.basic t ∷ earlier)
      pub almost : Almost B (P.basic t) c
      pub entering : Entering c earlier

    pub at_start : At S.first S.enters []
    at_start = record { walk = refl; almost = S.almost; entering = refl }

    -- the same at any tableau with the first basis
    pub at_begin : (t : P.T) → ((v : ℕ) → P.basic t v ≡ P.basic S.first v) → At t S.enters []
    at_begin t e = record { walk = fun_ext e; almost = subst (λ f. Almost B f S.enters) (sym (fun_ext e)) S.almost; entering = refl }

    turned : (t t' : P.T) (c l : ℕ) (earlier : List (ℕ → Bool)) → Entering c earlier → P.Enters t c l t' → Turns (P.basic t') earlier
    turned t t' c l [] e h = tt
    turned t t' c l (b ∷ bs) e h = λ q. clash (ap (λ (f : ℕ → Bool). f c) (sym q) ∙ P.after t t' c l h c ∙ swap_in (P.basic t) c l) e

    pub at_next : (t t' : P.T) (c l : ℕ) (earlier : List (ℕ → Bool)) → At t c earlier → P.Enters t c l t' → l ≢ B.z0 → At t' (B.partner l) (P.basic t ∷ earlier)
    at_next t t' c l earlier a h n =
        record {
          walk = (record { t = t; t' = t'; c = c; l = l; from = refl; to = refl; enters = h; almost = a.almost; goes_on = n }, turned t t' c l earlier a.entering h, a.walk);
          almost = almost_partner B (P.basic t') l (subst (λ f. Almost B f l) (sym (fun_ext (λ v. P.after t t' c l h v))) (almost_next B (P.basic t) c l a.almost l_in n));
          entering = a.almost.others l (a.almost.only l l_in n) (λ e. clash l_in (ap (P.basic t) e ∙ a.almost.out)) (λ e. clash l_in (ap (P.basic t) e ∙ a.almost.partner_out)) ∙ ap not l_in;
        }
      where
        l_in : P.basic t l ≡ true
        l_in = P.was_in t t' c l h

    -- no basis of the path occurs twice
    pub no_basis_twice : (t : P.T) (c : ℕ) (earlier : List (ℕ → Bool)) → At t c earlier → AllPairs (λ x y. x ≢ y) (P.basic t ∷ earlier)
    no_basis_twice t c earlier a = walk_distinct (Edge P B) (P.basic S.first) few_neighbours (P.basic t ∷ earlier) a.walk

    not_start : (b a : ℕ → Bool) (earlier : List (ℕ → Bool)) → Walk (Edge P B) (P.basic S.first) (a ∷ earlier) → All (λ x. b ≢ x) (a ∷ earlier) → b ≢ P.basic S.first
    not_start b a [] w p e = p 0 a (omega arith) (e ∙ sym w)
    not_start b a (x ∷ xs) w p e = not_start b x xs w.2 (All-tail (λ y. b ≢ y) a (x ∷ xs) p) e

    -- the path is at its first basis only at its beginning
    pub at_first : (t : P.T) (c : ℕ) (earlier : List (ℕ → Bool)) → At t c earlier → ((v : ℕ) → P.basic t v ≡ P.basic S.first v) → c ≡ S.enters
    at_first t c [] a e = a.entering
    at_first t c (b ∷ bs) a e = absurd (not_start (P.basic t) b bs a.walk.2 (λ k d h. walk_distinct (Edge P B) (P.basic S.first) few_neighbours (P.basic t ∷ (b ∷ bs)) a.walk 0 (suc k) d (omega arith) (omega arith)) (fun_ext e))
