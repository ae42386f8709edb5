use Rattle.std.proofs.Common.{◌∙◌, sym, arith}
use Rattle.label_pairing.proofs.matching.match_block.Goals as goal

pub returns : goal.returns
returns c = record {
  so_many = c.write_bits.ensures.so_many ∙ c.requires.found ∙ sym c.requires.low;
  are_matches = λ i d l. c.write_bits.ensures.bits i d (omega (arith, c.requires.found, c.requires.low)) ∙ c.block_bits.ensures.bits i (omega (arith, c.requires.low));
}
