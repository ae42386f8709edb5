-- Numbers of tokens are short, so each whole number that comes is below 2^64.
use Rattle.std.proofs.Common.{◌≡◌, ℕ, ◌<◌, ◌≤◌, false, nat_eq, nat_le, List, ◌∷◌, Some, None, inl, inr, refl, sym, ap, ◌∙◌, subst, arith}
use Rattle.std.proofs.lemmas.Bool.Decides.{nat_tests}
use Rattle.std.specs.Prelude.{Ok}
use Rattle.std.specs.List.{AllByRecursion}
use Rattle.game_core.specs.declared.token.Token.{Token}
use Rattle.game_core.specs.Spacing.{IsShortToken}
use Rattle.file_parts.specs.declared.stop.PartStop.{PartStop}
use Rattle.file_parts.specs.declared.stop.PartStop.TheVariants.{Unexpected}
use Rattle.file_parts.specs.Parts.{whole_number}
use Rattle.file_parts.specs.Reading.{whole_at, label_at, count_at}
use Rattle.file_parts.specs.Parsing.{unexpected_at, IsPartStop}
use Rattle.file_parts.proofs.TokenLaws.{whole_is, label_again, le_passes}
use Rattle.file_parts.proofs.TokenReaderLemmas.{some_or_none}
use Rattle.written_trees.specs.Building.{PartialOutcome}
use Rattle.tree_grammar.specs.TreeParsing.{parse_named, parse_outcome}
use Rattle.tree_grammar.specs.declared.kinds.EfgKind.{EfgKind}
use Rattle.tree_grammar.specs.declared.kinds.EfgKind.TheVariants.{Node}
use Rattle.tree_grammar.proofs.SetLaws.{short_label}

-- a whole number that comes is a label
pub label_fits : (tokens : List Token) → AllByRecursion IsShortToken tokens → label_at tokens ≡ whole_at tokens
unfolding label_at
label_fits tokens short = elim (some_or_none (whole_at tokens)) [
  | inl p ↦
      let all : AllByRecursion IsShortToken (whole_number p.0.0 ∷ p.0.1) = subst (AllByRecursion IsShortToken) (whole_is tokens p.0 p.1) short in
      ap label_at (whole_is tokens p.0 p.1) ∙ label_again p.0.0 p.0.1 (short_label p.0.0 all.0) ∙ sym p.1
  | inr none ↦ rw none refl
]

-- ---- a number of at least 1
pub positive_lacks : (tokens : List Token) → AllByRecursion IsShortToken tokens → label_at tokens ≡ None → count_at tokens ≡ None
unfolding count_at
positive_lacks tokens short e = rw (← label_fits tokens short, e) refl

pub positive_so : (tokens rest : List Token) (n : ℕ) → AllByRecursion IsShortToken tokens → label_at tokens ≡ Some (n, rest) → 1 ≤ n → count_at tokens ≡ Some (n, rest)
unfolding count_at
positive_so tokens rest n short e h = rw (← label_fits tokens short, e, le_passes 1 n h) refl

pub positive_zero : (tokens rest : List Token) (n : ℕ) → AllByRecursion IsShortToken tokens → label_at tokens ≡ Some (n, rest) → n < 1 → count_at tokens ≡ None
unfolding count_at
positive_zero tokens rest n short e h = let no : nat_le 1 n ≡ false = grind (arith, nat_tests) in rw (← label_fits tokens short, e, no) refl

pub ruleset positives = (positive_lacks, positive_so, positive_zero)

-- ---- the number of an outcome
pub outcome_lacks : (players : ℕ) (outcomes : List PartialOutcome) (tokens : List Token) (stopped : PartStop EfgKind) → AllByRecursion IsShortToken tokens → label_at tokens ≡ None → stopped ≡ Unexpected (unexpected_at Node tokens) → IsPartStop stopped (parse_outcome players outcomes tokens)
unfolding parse_outcome
outcome_lacks players outcomes tokens stopped short e u = rw (← label_fits tokens short, e, u) refl

pub outcome_zero : (players : ℕ) (outcomes : List PartialOutcome) (tokens rest : List Token) (n : ℕ) → AllByRecursion IsShortToken tokens → label_at tokens ≡ Some (n, rest) → n ≡ 0 → parse_outcome players outcomes tokens ≡ Ok ((outcomes, None), rest)
unfolding parse_outcome
outcome_zero players outcomes tokens rest n short e z = rw (← label_fits tokens short, e, z) refl

pub outcome_named : (players : ℕ) (outcomes : List PartialOutcome) (tokens rest : List Token) (n : ℕ) → AllByRecursion IsShortToken tokens → label_at tokens ≡ Some (n, rest) → nat_eq n 0 ≡ false → parse_outcome players outcomes tokens ≡ parse_named players n outcomes rest
unfolding parse_outcome
outcome_named players outcomes tokens rest n short e z = rw (← label_fits tokens short, e, z) refl

pub ruleset outcome_steps = (outcome_lacks, outcome_zero, outcome_named)
