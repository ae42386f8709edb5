-- Quoted texts and what their bytes spell.
use Rattle.std.proofs.Common.{◌≡◌, ◌≢◌, ℕ, Bool, true, false, cond, ◌&&◌, ◌==◌, inl, inr, List, [], ◌∷◌, ◌++◌, Option, Some, None, refl, sym, ap, ◌∙◌}
use Rattle.std.proofs.lemmas.Bool.{and_parts, false_from_ne_true}
use Rattle.std.proofs.lemmas.Bool.Decides.{Decides-eqb}
use Rattle.std.proofs.lemmas.Option.{same_Some}
use Rattle.game_text.specs.Tokens.{FirstIs, SpellsText}
use Rattle.game_text.specs.Reading.{spelled_byte, spelled, from_closing_quote}
use Rattle.lists.proofs.NumberLemmas.{unequal}

-- not a backslash before a quote
no_escape : (b c : ℕ) → (b ≡ 92 → c ≢ 34) → (b == 92 && c == 34) ≡ false
no_escape b c h =
    false_from_ne_true (b == 92 && c == 34) (λ e. let p = and_parts (b == 92) (c == 34) e in h ((Decides-eqb b 92).0 p.0) ((Decides-eqb c 34).0 p.1))

-- the bytes between the quotes spell what is read, up to the closing quote
pub spelled-text : (inner text rest : List ℕ) → SpellsText inner text → (spelled (inner ++ 34 ∷ rest) ≡ text) × (from_closing_quote (inner ++ 34 ∷ rest) ≡ 34 ∷ rest)
spelled-text [] text [] h = (sym h, refl)
spelled-text [] text (c ∷ rest) h = (sym h, refl)
spelled-text (b ∷ []) text rest h =
    let quote : (b == 34) ≡ false = unequal b 34 h.0 in
    let escape : (b == 92) ≡ false = unequal b 92 h.1 in
    let more = spelled-text [] [] rest refl in
    rw (quote, escape) (ap (λ t. b ∷ t) more.0 ∙ sym h.2, more.1)
spelled-text (b ∷ c ∷ inner) text rest (inl h) =
    let more = spelled-text inner h.2 rest h.4 in
    rw (h.0, h.1) (ap (λ t. 34 ∷ t) more.0 ∙ sym h.3, more.1)
spelled-text (b ∷ c ∷ inner) text rest (inr h) =
    let quote : (b == 34) ≡ false = unequal b 34 h.0 in
    let escape : (b == 92 && c == 34) ≡ false = no_escape b c h.1 in
    let more = spelled-text (c ∷ inner) h.2 rest h.4 in
    rw (quote, escape) (ap (λ t. b ∷ t) more.0 ∙ sym h.3, more.1)

-- a text that is closed at a quote, and the bytes after the quote
pub record Closes (bytes rest text : List ℕ) : Type 0 where
  pub inner : List ℕ
  pub parts : bytes ≡ inner ++ 34 ∷ rest
  pub spells : SpellsText inner text

-- one more byte, which spells itself
spells-cons : (b : ℕ) (inner text : List ℕ) → b ≢ 34 → (b ≡ 92 → FirstIs (λ c. c ≢ 34) inner) → SpellsText inner text → SpellsText (b ∷ inner) (b ∷ text)
spells-cons b [] text q e h = (q, e, ap (λ t. b ∷ t) h)
spells-cons b (c ∷ inner) text q e h = inr (q, e, text, refl, h)

-- the byte after a backslash is no quote, where the backslash is itself
first_kept : (d : ℕ) (bytes inner rest : List ℕ) → d ≢ 34 → d ∷ bytes ≡ inner ++ 34 ∷ rest → FirstIs (λ c. c ≢ 34) inner
first_kept d bytes [] rest h e = let k : d ≡ 34 = cc in h k
first_kept d bytes (c ∷ inner) rest h e = λ k. let j : d ≡ 34 = let i : d ≡ c = cc in i ∙ k in h j

-- the text that is closed, with one more byte before it
closes-cons : (b d : ℕ) (bytes rest text : List ℕ) → (b == 34) ≡ false → (b == 92 && d == 34) ≡ false → Closes (d ∷ bytes) rest text → Closes (b ∷ d ∷ bytes) rest (b ∷ text)
closes-cons b d bytes rest text q e h = record {
  inner = b ∷ h.inner;
  parts = ap (λ t. b ∷ t) h.parts;
  spells =
      let quote : b ≢ 34 = λ k. let f : (b == 34) ≡ true = (Decides-eqb b 34).1 k in cc in
      let kept : b ≡ 92 → d ≢ 34 = λ k j. let f : (b == 92 && d == 34) ≡ true = rw (k, j) refl in cc in
      spells-cons b h.inner text quote (λ k. first_kept d bytes h.inner rest (kept k) h.parts) h.spells;
}

-- the text that is closed, with one more escaped quote before it
closes-escape : (b d : ℕ) (bytes rest text : List ℕ) → (b == 92 && d == 34) ≡ true → Closes bytes rest text → Closes (b ∷ d ∷ bytes) rest (34 ∷ text)
closes-escape b d bytes rest text e h =
    let p = and_parts (b == 92) (d == 34) e in record {
      inner = b ∷ d ∷ h.inner;
      parts = ap (λ t. b ∷ d ∷ t) h.parts;
      spells = inl ((Decides-eqb b 92).0 p.0, (Decides-eqb d 34).0 p.1, text, refl, h.spells);
    }

-- the empty text
closes_here : (b c : ℕ) (bytes rest : List ℕ) → (b == 34) ≡ true → b ∷ bytes ≡ c ∷ rest → Closes (b ∷ bytes) rest []
closes_here b c bytes rest q e =
    let quote : b ≡ 34 = (Decides-eqb b 34).0 q in
    let same : bytes ≡ rest = cc in
    record { inner = []; parts = rw (quote, same) refl; spells = refl }

-- where reading stops before the end, the text is closed there
pub text_closes : (bytes rest : List ℕ) (c : ℕ) → from_closing_quote bytes ≡ c ∷ rest → Closes bytes rest (spelled bytes)
text_closes [] rest c e = cc
text_closes (b ∷ []) rest c e =
    let E : Bool → Type 0 = λ v. (b == 34) ≡ v → cond v (b ∷ []) [] ≡ c ∷ rest → Closes (b ∷ []) rest (cond v [] (b ∷ [])) in
    let by : (v : Bool) → E v = λ v. elim v as E [ true ↦ λ q k. closes_here b c [] rest q k | false ↦ λ _ k. cc ] in
    by (b == 34) refl e
text_closes (b ∷ d ∷ bytes) rest c e =
    let F : Bool → Type 0 = λ w. (b == 34) ≡ false → (b == 92 && d == 34) ≡ w → cond w (from_closing_quote bytes) (from_closing_quote (d ∷ bytes)) ≡ c ∷ rest → Closes (b ∷ d ∷ bytes) rest (cond w (34 ∷ spelled bytes) (b ∷ spelled (d ∷ bytes))) in
    let inside : (w : Bool) → F w = λ w. elim w as F [ true ↦ λ q p k. closes-escape b d bytes rest (spelled bytes) p (text_closes bytes rest c k) | false ↦ λ q p k. closes-cons b d bytes rest (spelled (d ∷ bytes)) q p (text_closes (d ∷ bytes) rest c k) ] in
    let E : Bool → Type 0 = λ v. (b == 34) ≡ v → cond v (b ∷ d ∷ bytes) (cond (b == 92 && d == 34) (from_closing_quote bytes) (from_closing_quote (d ∷ bytes))) ≡ c ∷ rest → Closes (b ∷ d ∷ bytes) rest (cond v [] (cond (b == 92 && d == 34) (34 ∷ spelled bytes) (b ∷ spelled (d ∷ bytes)))) in
    let by : (v : Bool) → E v = λ v. elim v as E [ true ↦ λ q k. closes_here b c (d ∷ bytes) rest q k | false ↦ λ q k. inside (b == 92 && d == 34) q refl k ] in
    by (b == 34) refl e

-- where reading stops at the end, no quote closes a text
pub text_is_open : (bytes inner text rest : List ℕ) → from_closing_quote bytes ≡ [] → bytes ≡ inner ++ 34 ∷ rest → SpellsText inner text → ⊥
text_is_open bytes inner text rest e p h =
    let k : from_closing_quote bytes ≡ 34 ∷ rest = ap from_closing_quote p ∙ (spelled-text inner text rest h).1 in
    cc

-- the same piece spells the same
same_piece : (b c : ℕ) (bytes after : List ℕ) → ◌≡◌ {A = Option (ℕ × List ℕ)} (Some (b, bytes)) (Some (c, after)) → (b ∷ spelled bytes ≡ c ∷ spelled after) × (from_closing_quote bytes ≡ from_closing_quote after)
same_piece b c bytes after e =
    let p = same_Some (b, bytes) (c, after) e in
    (ap (λ (x : ℕ × List ℕ). x.0 ∷ spelled x.1) p, ap (λ (x : ℕ × List ℕ). from_closing_quote x.1) p)

-- one more byte of a text
pub spelled_more : (bytes after : List ℕ) (c : ℕ) → spelled_byte bytes ≡ Some (c, after) → (spelled bytes ≡ c ∷ spelled after) × (from_closing_quote bytes ≡ from_closing_quote after)
spelled_more [] after c e = cc
spelled_more (b ∷ []) after c e =
    let E : Bool → Type 0 = λ v. cond {A = Option (ℕ × List ℕ)} v None (Some (b, [])) ≡ Some (c, after) → (cond v [] (b ∷ []) ≡ c ∷ spelled after) × (cond v (b ∷ []) [] ≡ from_closing_quote after) in
    let by : (v : Bool) → E v = λ v. elim v as E [ true ↦ λ k. cc | false ↦ λ k. same_piece b c [] after k ] in
    by (b == 34) e
spelled_more (b ∷ d ∷ bytes) after c e =
    let F : Bool → Type 0 = λ w. cond {A = Option (ℕ × List ℕ)} w (Some (34, bytes)) (Some (b, d ∷ bytes)) ≡ Some (c, after) → (cond w (34 ∷ spelled bytes) (b ∷ spelled (d ∷ bytes)) ≡ c ∷ spelled after) × (cond w (from_closing_quote bytes) (from_closing_quote (d ∷ bytes)) ≡ from_closing_quote after) in
    let inside : (w : Bool) → F w = λ w. elim w as F [ true ↦ λ k. same_piece 34 c bytes after k | false ↦ λ k. same_piece b c (d ∷ bytes) after k ] in
    let E : Bool → Type 0 = λ v. cond {A = Option (ℕ × List ℕ)} v None (cond {A = Option (ℕ × List ℕ)} (b == 92 && d == 34) (Some (34, bytes)) (Some (b, d ∷ bytes))) ≡ Some (c, after) → (cond v [] (cond (b == 92 && d == 34) (34 ∷ spelled bytes) (b ∷ spelled (d ∷ bytes))) ≡ c ∷ spelled after) × (cond v (b ∷ d ∷ bytes) (cond (b == 92 && d == 34) (from_closing_quote bytes) (from_closing_quote (d ∷ bytes))) ≡ from_closing_quote after) in
    let by : (v : Bool) → E v = λ v. elim v as E [ true ↦ λ k. cc | false ↦ λ k. inside (b == 92 && d == 34) k ] in
    by (b == 34) e
