use Rattle.std.proofs.Common.{inr, ◌≡◌, ◌*◌, ◌<◌, ◌≤◌, Ok, List, length, arith}
use Rattle.game_core.specs.Table.{most_payoffs}
use Rattle.game_core.specs.declared.token.Token.{Token}
use Rattle.game_core.specs.TokenList.{bare}
use Rattle.nfg_reader.specs.Fronts.{FrontPart, front_of, profiles}
use Rattle.nfg_reader.specs.TableParsing.{parse_front}
use Rattle.nfg_reader.proofs.ReadStopLemmas.{front_value, rest_value, front_stop, rest_stop}
use Rattle.nfg_reader.proofs.FileLaws.{front_some, too_many_next, finished}
use Rattle.nfg_reader.proofs.reading.read.Goals as goal

pub returns-in-Err : goal.returns-in-Err
returns-in-Err c =
    front_stop c.args.tokens.now c.in-Err.stopped c.stop.result (rw c.list.ensures.list at c.in-Err.ensures) c.stop.ensures

pub profile_count_within_limit-requires-clause-some : goal.profile_count_within_limit-requires-clause-some
profile_count_within_limit-requires-clause-some c =
    let v = c.in-Ok.read.0.players in
    let some = front_some (bare c.list.result.now) (front_of c.in-Ok.read.0, bare c.in-Ok.read.1.now) (front_value _ _ c.in-Ok.ensures) in
    omega (arith, some.0, c.len-players.ensures, v.ok.0)

pub profile_count_within_limit-requires-clause-strategies : goal.profile_count_within_limit-requires-clause-strategies
profile_count_within_limit-requires-clause-strategies c = (front_some (bare c.list.result.now) (front_of c.in-Ok.read.0, bare c.in-Ok.read.1.now) (front_value _ _ c.in-Ok.ensures)).1

pub returns-in_default : goal.returns-in_default
returns-in_default c =
    let tokens = bare c.args.tokens.now.list in
    let front : FrontPart × List Token = (front_of c.in-Ok.read.0, bare c.in-Ok.read.1.now) in
    let v = c.in-Ok.read.0.players in
    let players : c.len-players.result ≡ length v.items = omega (arith, c.len-players.ensures, v.ok.0) in
    let read : parse_front tokens ≡ Ok front = rw c.list.ensures.list at c.in-Ok.ensures in
    let long : most_payoffs < c.len-players.result * profiles (front_of c.in-Ok.read.0) = rw c.in_default.is at c.in_ok-profiles.ensures in
    inr (too_many_next tokens front (front_value tokens front read) (rw players at long), c.first_above.ensures)

pub table-requires : goal.table-requires
table-requires c =
    let tokens = bare c.args.tokens.now.list in
    let front : FrontPart × List Token = (front_of c.in-Ok.read.0, bare c.in-Ok.read.1.now) in
    let v = c.in-Ok.read.0.players in
    let players : c.len-players.result ≡ length v.items = omega (arith, c.len-players.ensures, v.ok.0) in
    let read : parse_front tokens ≡ Ok front = rw c.list.ensures.list at c.in-Ok.ensures in
    let count : (c.in-Some.profiles ≡ profiles (front_of c.in-Ok.read.0)) × (c.len-players.result * c.in-Some.profiles ≤ most_payoffs) = rw c.in-Some.is at c.in_ok-profiles.ensures in
    (finished tokens front c.in-Ok-last_payoffs.payoffs.items c.len-players.result c.in-Some.profiles (front_value tokens front read) players count.0 count.1 (rest_value c.len-players.result c.in-Some.profiles (bare c.in-Ok.read.1.now) c.in-Ok-last_payoffs.payoffs.items c.in-Ok-last_payoffs.ensures)).0

pub returns-in_ok-table-in-Ok-last_payoffs : goal.returns-in_ok-table-in-Ok-last_payoffs
returns-in_ok-table-in-Ok-last_payoffs c =
    let tokens = bare c.args.tokens.now.list in
    let front : FrontPart × List Token = (front_of c.in-Ok.read.0, bare c.in-Ok.read.1.now) in
    let v = c.in-Ok.read.0.players in
    let players : c.len-players.result ≡ length v.items = omega (arith, c.len-players.ensures, v.ok.0) in
    let read : parse_front tokens ≡ Ok front = rw c.list.ensures.list at c.in-Ok.ensures in
    let count : (c.in-Some.profiles ≡ profiles (front_of c.in-Ok.read.0)) × (c.len-players.result * c.in-Some.profiles ≤ most_payoffs) = rw c.in-Some.is at c.in_ok-profiles.ensures in
    let rest = rest_value c.len-players.result c.in-Some.profiles (bare c.in-Ok.read.1.now) c.in-Ok-last_payoffs.payoffs.items c.in-Ok-last_payoffs.ensures in
    let file = finished tokens front c.in-Ok-last_payoffs.payoffs.items c.len-players.result c.in-Some.profiles (front_value tokens front read) players count.0 count.1 rest in
    rw c.in_ok-table-in-Ok-last_payoffs.ensures (file.1, file.0)

pub returns-in-Err-last_payoffs : goal.returns-in-Err-last_payoffs
returns-in-Err-last_payoffs c =
    let tokens = bare c.args.tokens.now.list in
    let front : FrontPart × List Token = (front_of c.in-Ok.read.0, bare c.in-Ok.read.1.now) in
    let v = c.in-Ok.read.0.players in
    let players : c.len-players.result ≡ length v.items = omega (arith, c.len-players.ensures, v.ok.0) in
    let read : parse_front tokens ≡ Ok front = rw c.list.ensures.list at c.in-Ok.ensures in
    let count : (c.in-Some.profiles ≡ profiles (front_of c.in-Ok.read.0)) × (c.len-players.result * c.in-Some.profiles ≤ most_payoffs) = rw c.in-Some.is at c.in_ok-profiles.ensures in
    rest_stop c.args.tokens.now front c.len-players.result c.in-Some.profiles c.in-Err-last_payoffs.stopped c.stop-in-Err-last_payoffs.result read players count.0 count.1 c.in-Err-last_payoffs.ensures c.stop-in-Err-last_payoffs.ensures
