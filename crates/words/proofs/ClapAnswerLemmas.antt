-- What clap's answers say of the words.
use Rattle.std.proofs.Common.{◌≡◌, ◌∙◌, ◌<◌, ◌≤◌, refl, ap, sym, subst, arith, tests, ℕ, Bool, true, false, ◌==◌, List, [], ◌∷◌, map, codes, length, Option, Some, None, nat_lt, inl, inr, string_bytes, String}
use Rattle.std.specs.Prelude.{fold}
use Rattle.std.specs.List.{list_all}
use Rattle.std.proofs.lemmas.Str.{IsUtf8-string_bytes}
use Rattle.std.proofs.lemmas.Bool.{and_parts}
use Rattle.clap.specs.Matches.{found_of}
use Rattle.clap.specs.Walk.{Row, Text, rows_of as rows_in, with_default}
use Rattle.clap.specs.Simple.{App, HasMatchesOf, is_simple, matches_of}
use Rattle.clap.specs.Kinds.{HasKind, Kinds}
use Rattle.clap.specs.Values.{kind_of}
use Rattle.clap.specs.Faults.{fault_of, is_free_app, is_simple_and_free}
use Rattle.clap.specs.Simple.{built}
use Rattle.clap.specs.declared.error.Error.{Error}
use Rattle.clap.specs.declared.error.kind.ErrorKind.TheVariants as kind
use Rattle.clap.specs.declared.parser.matches.ArgMatches.{ArgMatches}
use Rattle.words.specs.Grammar.{Options, Part, has_letter, word_parts}
use Rattle.words.specs.Commands.{Says, SaysParts, app_with, is_ascii, is_counted, texts_at}
use Rattle.words.proofs.RuleLemmas.{built_rules, fits}
use Rattle.words.proofs.RunLemmas.{Sound}
use Rattle.words.proofs.LineLemmas.{Agrees, AllUtf8, words_agree}
use Rattle.words.proofs.RowLemmas.{end_rows, flag_end, plain_end, prices_end, values_end}
use Rattle.words.proofs.WordListLemmas.{fault_is, matches_are, simple_and_free}

no_wide : (letters : List ℕ) → list_all (λ l. nat_lt l 128) letters ≡ true → (x : ℕ) → 128 ≤ x → has_letter letters x ≡ false
no_wide [] e x ge = refl
no_wide (l ∷ ls) e x ge = go (l == x) refl (and_parts (nat_lt l 128) (list_all (λ y. nat_lt y 128) ls) e) (no_wide ls)
  where
    go : (t : Bool) → (l == x) ≡ t → (nat_lt l 128 ≡ true) × (list_all (λ y. nat_lt y 128) ls ≡ true) → (list_all (λ y. nat_lt y 128) ls ≡ true → (x : ℕ) → 128 ≤ x → has_letter ls x ≡ false)
        → has_letter (l ∷ ls) x ≡ false
    go true is h later = let less : l < 128 = grind (arith, tests, h.0) in let same : l ≡ x = grind (arith, tests, is) in absurd (omega (arith, less, same, ge))
    go false is h later = rw is (later h.1 x ge)

sound : (o : Options) → is_ascii o ≡ true → Sound o
sound o e = let h = and_parts (list_all (λ l. nat_lt l 128) o.flags) (list_all (λ l. nat_lt l 128) o.valued) e in
    record { flags = no_wide o.flags h.0; valued = no_wide o.valued h.1 }

pub strings_utf8 : {Z : Type 0} (ss : List (String Z)) → AllUtf8 (map string_bytes ss)
strings_utf8 [] = tt
strings_utf8 (s ∷ ss) = (IsUtf8-string_bytes s, strings_utf8 ss)

says : (o : Options) (m : ArgMatches) (ps : List Part) → rows_in (found_of m) ≡ end_rows o ps → Says m ps
says o m ps e = record {
  flags = λ letter. ap (is_counted (letter ∷ [])) e ∙ flag_end o letter ps;
  prices = ap (is_counted (codes "prices")) e ∙ prices_end o ps;
  values = λ letter. ap (texts_at (45 ∷ letter ∷ [])) e ∙ values_end o letter ps;
  plain = ap (texts_at (codes "words")) e ∙ plain_end o ps;
}

module _ (o : Options) (words : List Text) where
  told_by : (g : Option (List Part)) (fault : Kinds) (end : List Row) (m : ArgMatches) → Agrees o g fault end [] → fault ≡ [] → rows_in (found_of m) ≡ fold with_default end (built_rules o) → SaysParts o g m
  told_by (Some ps) fault end m agrees none rows = says o m ps (rows ∙ ap (λ r. fold with_default r (built_rules o)) agrees.1)
  told_by None fault end m (inl long) none rows = let bad : 0 < length fault = long in absurd (omega (arith, bad, ap length none))
  told_by None fault end m (inr h) none rows = (h.0, h.1, says o m h.0 (rows ∙ ap (λ r. fold with_default r (built_rules o)) h.2))

  refused_by : (g : Option (List Part)) (fault : Kinds) (end : List Row) → Agrees o g fault end [] → 0 < length fault → g ≡ None
  refused_by (Some ps) fault end agrees long = absurd (omega (arith, long, ap length agrees.0))
  refused_by None fault end agrees long = refl

  pub told : (a : App) (m : ArgMatches) → a ≡ app_with o → is_ascii o ≡ true → AllUtf8 words → HasMatchesOf a words m → (is_simple_and_free a ≡ true → fault_of a words ≡ []) → SaysParts o (word_parts o words None) m
  told a m is ascii utf8 matches passes =
      let free : is_simple_and_free a ≡ true = ap is_simple_and_free is ∙ simple_and_free o in
      let simple : is_simple a ≡ true = (and_parts (is_simple a) (is_free_app (built a)) free).0 in
      told_by (word_parts o words None) _ _ m (words_agree o (built_rules o) (fits o) (sound o ascii) words utf8)
      (sym (fault_is o words) ∙ ap (λ (b : App). fault_of b words) (sym is) ∙ passes free)
      ((matches simple).0 ∙ ap (λ (b : App). matches_of b words) is ∙ matches_are o words)

  some_kind : (ks : Kinds) (e : Error) → (kind_of e ≡ kind.OutOfMemory → ⊥) → HasKind ks e → 0 < length ks
  some_kind ks e other (inl m) = absurd (other m)
  some_kind [] e other (inr x) = absurd x
  some_kind (k ∷ ks) e other (inr x) = omega arith

  pub refused_words : (a : App) (e : Error) → a ≡ app_with o → is_ascii o ≡ true → AllUtf8 words → (kind_of e ≡ kind.OutOfMemory → ⊥) → (is_simple_and_free a ≡ true → HasKind (fault_of a words) e) → word_parts o words None ≡ None
  refused_words a e is ascii utf8 other fails =
      let free : is_simple_and_free a ≡ true = ap is_simple_and_free is ∙ simple_and_free o in
      refused_by (word_parts o words None) _ _ (words_agree o (built_rules o) (fits o) (sound o ascii) words utf8)
      (subst (λ ks. 0 < length ks) (ap (λ (b : App). fault_of b words) is ∙ fault_is o words) (some_kind (fault_of a words) e other (fails free)))
