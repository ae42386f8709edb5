use Rattle.std.proofs.Common.{◌≡◌, ◌-◌, ◌∷◌, [], ◌++◌, length, refl, arith}
use Rattle.game_core.specs.declared.token.Spanned.{Spanned}
use Rattle.game_text.proofs.ByteRunLemmas.{drop_blanks}
use Rattle.game_text.proofs.TokenStepLemmas.{IsRead, blanks_before, blanks_shorten, shorter, read_tokens, read_places}
use Rattle.game_text.proofs.reading.read_tokens.Goals as goal

pub loop-rest-init : goal.loop-rest-init
loop-rest-init c =
    let bytes = c.args.bytes.now in
    let rest = c.without_blanks-rest.result.now in record {
      tokens = rw c.new-list.ensures.items (blanks_before bytes rest c.without_blanks-rest.ensures);
      are_spaced = rw c.new-list.ensures.items (omega arith);
      within = blanks_shorten bytes rest c.without_blanks-rest.ensures;
      no_blank = rw c.without_blanks-rest.ensures (drop_blanks bytes);
    }

pub loop-rest-preserved : goal.loop-rest-preserved
loop-rest-preserved c =
    let bytes = c.args.bytes.now in
    let rest = c.loop-rest.rest.now in
    let after = c.in_ok-token.after.now in
    let next = c.without_blanks-rest-in-loop-rest.result.now in
    let items = c.loop-rest.list.items in
    let one : Spanned = record { token = c.in_ok-token.token; start = length bytes - length rest; end = length bytes - length after } in
    let read : IsRead bytes rest after one = record { within = c.loop-rest.invariant.within; next = c.in_ok-token.ensures.token; start = refl; end = refl } in
    let pushed : c.push.new.self.items ≡ items ++ one ∷ [] = c.in_ok-push.ensures.items in
    let blanks = c.without_blanks-rest-in-loop-rest.ensures in record {
      tokens = rw pushed (read_tokens bytes rest after next items one read c.loop-rest.invariant.tokens blanks);
      are_spaced = rw pushed (read_places bytes rest after next items one read c.loop-rest.invariant.are_spaced blanks);
      within = omega (arith, shorter bytes rest after one read, blanks_shorten after next blanks, c.loop-rest.invariant.within);
      no_blank = rw blanks (drop_blanks after);
    }
