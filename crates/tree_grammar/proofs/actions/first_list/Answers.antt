use Rattle.std.proofs.Common.{rules, ◌≡◌, true, false, length, arith}
use Rattle.rational.specs.Rational.{one_ℚ}
use Rattle.game_core.specs.TokenList.{bare}
use Rattle.tree_grammar.proofs.ActionStepLemmas.{own_closed, chance_differs, chance_closed}
use Rattle.tree_grammar.proofs.actions.first_list.Goals as goal
use Rattle.rational.specs.Tests.{eq_ℚ}

pub returns-then-ne : goal.returns-then-ne
returns-then-ne c =
    let read = c.in_ok-actions-in-None in
    let test : eq_ℚ read.sum one_ℚ ≡ false = search (rules, c.ne.ensures, c.if-ne.true, c.one.ensures) in
    let size : c.len-in-None.result ≡ length read.actions.items = omega (arith, c.len-in-None.ensures, read.actions.ok.0) in
    chance_differs c.args.owner c.args.set c.len-in-None.result (bare c.args.tokens.now) (bare c.in-Some.inner.now) (bare read.following.now) (bare c.in_ok-rest-in-None.rest.now) read.actions.items read.sum c.unexpected-then-ne.result
    c.in-None.is c.in-Some.ensures read.ensures size c.in_ok-rest-in-None.ensures test c.unexpected-then-ne.ensures

pub returns-in_ok-rest-in-Some-owner : goal.returns-in_ok-rest-in-Some-owner
returns-in_ok-rest-in-Some-owner c =
    let read = c.in_ok-actions-in-Some-owner in
    let size : c.len.result ≡ length read.actions.items = omega (arith, c.len.ensures, read.actions.ok.0) in
    own_closed c.args.owner c.in-Some-owner.field-0 c.args.set c.len.result (bare c.args.tokens.now) (bare c.in-Some.inner.now) (bare read.following.now) (bare c.in_ok-rest-in-Some-owner.rest.now) read.actions.items
    c.in-Some-owner.is c.in-Some.ensures read.ensures size c.in_ok-rest-in-Some-owner.ensures

pub returns-else-ne : goal.returns-else-ne
returns-else-ne c =
    let read = c.in_ok-actions-in-None in
    let test : eq_ℚ read.sum one_ℚ ≡ true = search (rules, c.ne.ensures, c.if-ne.false, c.one.ensures) in
    let size : c.len-in-None.result ≡ length read.actions.items = omega (arith, c.len-in-None.ensures, read.actions.ok.0) in
    chance_closed c.args.owner c.args.set c.len-in-None.result (bare c.args.tokens.now) (bare c.in-Some.inner.now) (bare read.following.now) (bare c.in_ok-rest-in-None.rest.now) read.actions.items read.sum
    c.in-None.is c.in-Some.ensures read.ensures size c.in_ok-rest-in-None.ensures test
