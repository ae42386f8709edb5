use Rattle.std.proofs.Common.{ℕ, ◌+◌, ◌-◌, ◌*◌, ◌/◌, ◌≤◌, ◌≡◌, ◌∙◌, length, arith}
use Rattle.std.proofs.lemmas.List.Edits.{length-between}
use Rattle.label_pairing.proofs.BlockLemmas.{part_matches, length-part, rest_matches}
use Rattle.label_pairing.proofs.matching.matches.Goals as goal

pub loop-block-preserved : goal.loop-block-preserved
loop-block-preserved c =
    let at : ℕ = 8 * c.loop-block.block in
    let within : at + 8 ≤ length c.args.low.now = omega (arith, c.loop-block-test.true, c.requires.found) in
    record {
      so_many = length-part c.loop-block.found c.match_block.new.found at (at + 8 - at) (omega (arith, within, c.loop-block.invariant.so_many, c.requires.found)) (c.match_block.ensures.so_many ∙ length-between c.args.low.now at (at + 8) within) ∙ c.loop-block.invariant.so_many;
      done = λ k d l. part_matches c.args.mask c.args.all c.args.low.now c.args.high.now c.loop-block.found c.match_block.new.found at (at + 8) (omega arith) within (c.loop-block.invariant.so_many ∙ c.requires.found) c.loop-block.invariant.done c.match_block.ensures k d (omega arith);
    }

pub returns : goal.returns
returns c =
    let at : ℕ = 8 * (length c.args.found.now / 8) in
    let end : c.loop-block.block ≡ length c.args.found.now / 8 = omega (arith, c.loop-block-test.false, c.loop-block.auto.block-end) in
    rest_matches c.args.mask c.args.all c.args.low.now c.args.high.now c.loop-block.found c.match_places.new.found at (omega (arith, c.requires.found)) c.requires.high (c.loop-block.invariant.so_many ∙ c.requires.found)
    (λ i d l. c.loop-block.invariant.done i d (omega (arith, end)))
    c.match_places.ensures
