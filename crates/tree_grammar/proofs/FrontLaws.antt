-- The title and the players: what is read as the front of a file is one, and fronts are read.
use Rattle.std.proofs.Common.{◌≡◌, ℕ, suc, ◌+◌, ◌≤◌, List, [], ◌∷◌, ◌++◌, length, map, false, Some, None, refl, sym, ap, ◌∙◌, subst, append_assoc, length-append, arith}
use Rattle.std.proofs.lemmas.List.{length-map}
use Rattle.std.specs.Prelude.{Ok, codes}
use Rattle.game_core.specs.declared.token.Token.{Token}
use Rattle.game_core.specs.declared.token.Token.TheVariants.{Right, Text, Word}
use Rattle.file_parts.specs.Parts.{whole_number, braced_texts, IsFormatLetter, IsComment}
use Rattle.file_parts.specs.Reading.{after_text}
use Rattle.file_parts.specs.Parsing.{parse_title, parse_names}
use Rattle.file_parts.proofs.HeaderLaws.{title_is, title_again}
use Rattle.file_parts.proofs.ReaderLemmas.{bind_ok, ok_same}
use Rattle.file_parts.proofs.TokenLaws.{names_is, names_again}
use Rattle.file_parts.proofs.ValueLemmas.{value, value_some, value_title, value_names}
use Rattle.tree_grammar.specs.TreeFile.{IsFront}
use Rattle.tree_grammar.specs.TreeParsing.{FrontPart, has_text, parse_front}
use Rattle.tree_grammar.specs.declared.kinds.EfgKind.TheVariants.{Header, Players}
use Rattle.file_parts.proofs.TokenLaws.{over_comment}

-- a comment that may come
record HasTail (tokens : List Token) : Type 0 where
  pub comment : List Token
  pub is_comment : IsComment comment
  pub is : tokens ≡ comment ++ after_text tokens
  pub again : (more : List Token) → has_text more ≡ has_text (after_text tokens) → after_text (comment ++ more) ≡ more

no_text_after : (more : List Token) → has_text more ≡ false → after_text more ≡ more
no_text_after (Text text ∷ more) e = cc
no_text_after _ e = refl

tail_is : (tokens : List Token) → HasTail tokens
tail_is (Text text ∷ rest) = record { comment = Text text ∷ []; is_comment = (Some text, refl); is = refl; again = λ more h. refl }
tail_is _ = record { comment = []; is_comment = (None, refl); is = refl; again = λ more h. no_text_after more h }

-- a title, and what follows it
pub title_again_so : (letter title : List ℕ) (rest : List Token) → IsFormatLetter letter → parse_title Header (codes "EFG") 2 (Word (codes "EFG") ∷ whole_number 2 ∷ Word letter ∷ Text title ∷ rest) ≡ Ok (title, rest)
title_again_so letter title rest h = value_some (parse_title Header (codes "EFG") 2 _) (title, rest) (value_title Header (codes "EFG") 2 _ ∙ title_again (codes "EFG") 2 letter title rest h)

-- players, and what follows them
pub names_again_so : (players : List (List ℕ)) (rest : List Token) → 1 ≤ length players → parse_names Players (braced_texts players ++ rest) ≡ Ok (players, rest)
names_again_so players rest h = value_some (parse_names Players (braced_texts players ++ rest)) (players, rest) (value_names Players (braced_texts players ++ rest) ∙ names_again players rest h)

-- The front comes first, and is read whatever follows, unless a text follows here and not there.
pub record ReadsFront (tokens : List Token) (x : FrontPart × List Token) : Type 0 where
  pub front : List Token
  pub is_front : IsFront front x.0.0 x.0.1
  pub is : tokens ≡ front ++ x.1
  pub again : (more : List Token) → has_text more ≡ has_text x.1 → parse_front (front ++ more) ≡ Ok (x.0, more)
  pub few : length x.0.1 ≤ length tokens

pub front_read_is : (tokens : List Token) (x : FrontPart × List Token) → parse_front tokens ≡ Ok x → ReadsFront tokens x
unfolding parse_front
front_read_is tokens x e =
    let a = bind_ok (parse_title Header (codes "EFG") 2 tokens) _ x e in
    let b = bind_ok (parse_names Players a.0.1) _ x a.2 in
    let t = title_is (codes "EFG") 2 tokens a.0 (sym (value_title Header (codes "EFG") 2 tokens) ∙ ap value a.1) in
    let p = names_is a.0.1 b.0 (sym (value_names Players a.0.1) ∙ ap value b.1) in
    let c = tail_is b.0.1 in
    let names : List Token = braced_texts b.0.0 in
    let rest : List Token = after_text b.0.1 in
    let header : List Token = Word (codes "EFG") ∷ whole_number 2 ∷ Word t.0 ∷ [] in
    let front : List Token = header ++ (Text a.0.0 ∷ (names ++ c.comment)) in
    let following : a.0.1 ≡ (names ++ c.comment) ++ rest = p.1 ∙ ap (λ (r : List Token). names ++ r) c.is ∙ sym (append_assoc names c.comment rest) in
    let size : length b.0.0 ≤ length tokens = few_names tokens a.0.1 b.0.1 a.0.0 t.0 b.0.0 t.2 p.1 in
    let here : ReadsFront tokens ((a.0.0, b.0.0), rest) = record {
      front = front;
      is_front = record { header = header; is_header = (t.0, t.1, refl); some_player = p.0; comment = c.comment; is_comment = c.is_comment; is_front = refl };
      is = t.2 ∙ ap (λ (r : List Token). header ++ (Text a.0.0 ∷ r)) following;
      again = λ more h. again_so t.0 a.0.0 b.0.0 c.comment more t.1 p.0 (c.again more h);
      few = size;
    } in
    subst (ReadsFront tokens) (ok_same ((a.0.0, b.0.0), rest) x b.2) here
  where
    again_so : (letter title : List ℕ) (players : List (List ℕ)) (comment more : List Token) → IsFormatLetter letter → 1 ≤ length players → after_text (comment ++ more) ≡ more
        → parse_front (Word (codes "EFG") ∷ whole_number 2 ∷ Word letter ∷ Text title ∷ ((braced_texts players ++ comment) ++ more)) ≡ Ok ((title, players), more)
    again_so letter title players comment more l some h =
        let all : (braced_texts players ++ comment) ++ more ≡ braced_texts players ++ (comment ++ more) = append_assoc (braced_texts players) comment more in
        rw (all, title_again_so letter title (braced_texts players ++ (comment ++ more)) l, names_again_so players (comment ++ more) some, h) refl

    few_names : (tokens following rest : List Token) (title letter : List ℕ) (players : List (List ℕ)) → tokens ≡ Word (codes "EFG") ∷ whole_number 2 ∷ Word letter ∷ Text title ∷ following → following ≡ braced_texts players ++ rest → length players ≤ length tokens
    few_names tokens following rest title letter players e f =
        let inner : length (map Text players ++ Right ∷ []) ≡ length players + 1 = length-append (map Text players) (Right ∷ []) ∙ ap (λ (n : ℕ). n + 1) (length-map players Text) in
        let names : length following ≡ suc (length players + 1) + length rest = ap length f ∙ length-append (braced_texts players) rest ∙ ap (λ (n : ℕ). suc n + length rest) inner in
        let all : length tokens ≡ suc (suc (suc (suc (length following)))) = ap length e in
        omega (arith, names, all)

-- a front is read, where nothing follows that may be its comment
pub front_again : (front rest : List Token) (title : List ℕ) (players : List (List ℕ)) → IsFront front title players → after_text rest ≡ rest → parse_front (front ++ rest) ≡ Ok ((title, players), rest)
unfolding parse_front
front_again front rest title players f bare =
    let h = f.is_header in
    let names : List Token = braced_texts players in
    let tokens : front ++ rest ≡ Word (codes "EFG") ∷ whole_number 2 ∷ Word h.0 ∷ Text title ∷ (names ++ (f.comment ++ rest)) =
    rw (f.is_front, h.2) (ap (λ (r : List Token). Word (codes "EFG") ∷ whole_number 2 ∷ Word h.0 ∷ Text title ∷ r) (append_assoc names f.comment rest)) in
    let t = title_again_so h.0 title (names ++ (f.comment ++ rest)) h.1 in
    let p = names_again_so players (f.comment ++ rest) f.some_player in
    rw (tokens, t, p, over_comment f.comment rest f.is_comment bare) refl
