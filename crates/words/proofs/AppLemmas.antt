-- How a command of clap is put together, rule by rule.
use Rattle.std.proofs.Common.{◌≡◌, ◌∙◌, ap, refl, false, true, ℕ, List, [], ◌∷◌, ◌++◌, fold, Some, IfOk, Result}
use Rattle.std.proofs.lemmas.Result.{IfOk-weaker}
use Rattle.clap.specs.Built.{AddsArg}
use Rattle.std.specs.Borrow.{Bor}
use Rattle.clap.specs.Simple.{App, app_of, app_of_fields, new_app, new_rule, on_top, with_rule}
use Rattle.clap.specs.Walk.{Rule, Text, rule_of}
use Rattle.clap.specs.declared.builder.action.ArgAction.{ArgAction}
use Rattle.clap.specs.declared.builder.arg.Arg.{Arg}
use Rattle.clap.specs.declared.builder.command.Command.{Command}
use Rattle.clap.specs.declared.builder.command.Command.TheOpen.{Command-F}
use Rattle.clap.specs.declared.builder.command.Command.TheViews.{out-Command}
use Rattle.words.specs.Commands.{app_with, bare, plain_rule, rules_of}
use Rattle.words.specs.Grammar.{Options}

one_folded : {A B : Type 0} (f : B → A → B) (b : B) (xs : List A) (x : A) → f (fold f b xs) x ≡ fold f b (xs ++ x ∷ [])
one_folded f b [] x = refl
one_folded f b (y ∷ xs) x = one_folded f (f b y) xs x

-- the command with plain words alone
pub plain_app : (a : App) → a ≡ with_rule bare plain_rule → a ≡ app_with (record { flags = []; valued = []; prices = false })
unfolding app_with
plain_app a e = e

-- the command with one more rule
pub one_more : (o p : Options) (r : Rule) (a b : App) → a ≡ app_with o → b ≡ with_rule a r → rules_of o ++ r ∷ [] ≡ rules_of p → b ≡ app_with p
unfolding app_with
one_more o p r a b before more rules = more ∙ ap (λ x. with_rule x r) before ∙ one_folded with_rule bare (rules_of o) r ∙ ap (fold with_rule bare) rules

-- ---- rules

-- what `Arg::new`, `Arg::short` and `Arg::action` make, which is not global
pub short_rule : (start short made : Arg) (id : Text) (letter : ℕ) (action : ArgAction) → rule_of start ≡ new_rule id → start.global ≡ false
    → short ≡ record start { short = Some letter } → made ≡ record short { action = Some action }
    → (made.global ≡ false) × (rule_of made ≡ record (new_rule id) { short = Some letter; action = Some action })
short_rule start short made id letter action rule none e f = (
  ap (λ (a : Arg). a.global) f ∙ ap (λ (a : Arg). a.global) e ∙ none,
  ap rule_of f ∙ ap (λ (a : Arg). rule_of (record a { action = Some action })) e ∙ ap {A = Rule} (λ r. record r { short = Some letter; action = Some action }) rule,
)

-- the same with `Arg::long`
pub long_rule : (start long made : Arg) (id : Text) (name : Bor Text) (action : ArgAction) → rule_of start ≡ new_rule id → start.global ≡ false
    → long ≡ record start { long = Some name } → made ≡ record long { action = Some action }
    → (made.global ≡ false) × (rule_of made ≡ record (new_rule id) { long = Some name.now; action = Some action })
long_rule start long made id name action rule none e f = (
  ap (λ (a : Arg). a.global) f ∙ ap (λ (a : Arg). a.global) e ∙ none,
  ap rule_of f ∙ ap (λ (a : Arg). rule_of (record a { action = Some action })) e ∙ ap {A = Rule} (λ r. record r { long = Some name.now; action = Some action }) rule,
)

-- the same with neither
pub bare_rule : (start made : Arg) (id : Text) (action : ArgAction) → rule_of start ≡ new_rule id → start.global ≡ false → made ≡ record start { action = Some action }
    → (made.global ≡ false) × (rule_of made ≡ record (new_rule id) { action = Some action })
bare_rule start made id action rule none f = (
  ap (λ (a : Arg). a.global) f ∙ none,
  ap rule_of f ∙ ap {A = Rule} (λ r. record r { action = Some action }) rule,
)

-- what `Command::new`, `Command::no_binary_name` and `Command::disable_help_flag` make
pub bare_app : (start unnamed made : Command) (name : Text) → app_of start ≡ new_app name → out-Command unnamed ≡ record (out-Command start) { no_binary_name = true }
    → out-Command made ≡ record (out-Command unnamed) { disable_help_flag = true }
    → app_of made ≡ on_top (λ s. record s { no_binary_name = true; disable_help_flag = true }) (new_app name)
bare_app start unnamed made name app e f = ap app_of_fields f ∙ ap {A = Command-F Command} (λ c. app_of_fields (record c { disable_help_flag = true })) e
    ∙ ap {A = App} (on_top (λ s. record s { no_binary_name = true; disable_help_flag = true })) app

-- a command that takes the argument has its rule
pub ruled : {E : Type 0} (added : Result Command E) (old : Command) (a : Arg) (x : App) (r : Rule) → app_of old ≡ x → (a.global ≡ false) × (rule_of a ≡ r)
    → IfOk added (λ c. AddsArg old a c) → IfOk added (λ c. app_of c ≡ with_rule x r)
ruled added old a x r app rule = IfOk-weaker added _ _ (λ c h. h.shape rule.0 ∙ ap (λ y. with_rule y (rule_of a)) app ∙ ap (with_rule x) rule.1)
