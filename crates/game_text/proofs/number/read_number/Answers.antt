use Rattle.std.proofs.Common.{◌≡◌, Bool, List, ℕ, Option, Some, None, Result, Ok, Err, refl, subst}
use Rattle.std.specs.Prelude.{IfOk, IsErrOf}
use Rattle.std.specs.Char.{is_ascii_digit}
use Rattle.std.specs.List.{take_while}
use Rattle.rational.specs.Rational.{ℚ}
use Rattle.game_text.specs.declared.number.NumberFault.{NumberFault}
use Rattle.game_text.specs.declared.number.NumberFault.TheVariants.{Bad, TooLarge}
use Rattle.game_text.specs.Numbers.{NumberForm, IsNumber, IsTooLarge, IsNoNumber}
use Rattle.game_text.specs.NumberReading.{Answers, is_minus, after_sign, following, form_with}
use Rattle.game_text.proofs.NumeralFormLemmas.{form_of}
use Rattle.game_text.proofs.NumeralFormLemmas.{form_found, form_again}
use Rattle.game_text.proofs.number.read_number.Goals as goal

number : (text : List ℕ) (form : Option NumberForm) (result : Result ℚ NumberFault) → form_of text ≡ form → Answers form result → IfOk result (IsNumber text)
number text None (Ok f) e h = absurd h
number text (Some form) (Ok f) e h = record { form = form; is_written = form_found text form e; is_within = h.1; is_value = h.0 }
number text form (Err fault) e h = tt

bad : (text : List ℕ) (form : Option NumberForm) (result : Result ℚ NumberFault) → form_of text ≡ form → Answers form result → IsErrOf result Bad → IsNoNumber text
bad text None result e h is = λ form w. let again : form_of text ≡ Some form = form_again text form w in cc
bad text (Some form) (Ok f) e h is = cc
bad text (Some form) (Err fault) e h is = cc

too_large : (text : List ℕ) (form : Option NumberForm) (result : Result ℚ NumberFault) → form_of text ≡ form → Answers form result → IsErrOf result TooLarge → IsTooLarge text
too_large text None (Ok f) e h is = absurd h
too_large text None (Err fault) e h is = cc
too_large text (Some form) (Ok f) e h is = cc
too_large text (Some form) (Err fault) e h is = record { form = form; is_written = form_found text form e; is_beyond = h.1 }

parts_form : (text bytes before rest : List ℕ) (negative : Bool) → negative ≡ is_minus text → bytes ≡ after_sign text → before ≡ take_while is_ascii_digit bytes → rest ≡ following is_ascii_digit bytes → form_with negative before rest ≡ form_of text
unfolding form_of
parts_form text bytes before rest negative a b f r = rw (f, r, b, a) refl

-- what was read of the parts is the form of the text
read_parts : (c : goal.After-read_rest) → Answers (form_of c.args.text.now) c.read_rest.result
read_parts c =
    subst (λ form. Answers form c.read_rest.result) (parts_form c.args.text.now c.split_sign-negative.result.1.now c.split_digits.result.0.now c.split_digits.result.1.now c.split_sign-negative.result.0 c.split_sign-negative.ensures.negative c.split_sign-negative.ensures.rest c.split_digits.ensures.front c.split_digits.ensures.rest) c.read_rest.ensures

pub returns-clause-number : goal.returns-clause-number
returns-clause-number c = number c.args.text.now _ c.read_rest.result refl (read_parts c)

pub returns-clause-bad : goal.returns-clause-bad
returns-clause-bad c = bad c.args.text.now _ c.read_rest.result refl (read_parts c)

pub returns-clause-too_large : goal.returns-clause-too_large
returns-clause-too_large c = too_large c.args.text.now _ c.read_rest.result refl (read_parts c)
