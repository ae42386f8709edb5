use Rattle.std.proofs.Common.{◌≡◌, ◌∙◌, length, get_or, ap, arith}
use Rattle.std.specs.Vec.{with_items}
use Rattle.std.proofs.lemmas.List.{get_or-map, with_items_is}
use Rattle.basis_enum.specs.declared.vertex.Vertex.{Vertex}
use Rattle.label_pairing.specs.Matches.{partner_count}
use Rattle.label_pairing.proofs.RowLemmas.{pairs-next}
use Rattle.label_pairing.proofs.pairing.collected.Goals as goal

pub push_partners-requires-clause-count : goal.push_partners-requires-clause-count
push_partners-requires-clause-count c =
    ap (λ counts. get_or counts c.loop-i.i 0) c.requires.counts
    ∙ get_or-map (λ (vertex : Vertex). partner_count vertex.mask c.args.candidates.now.all c.args.candidates.now.low.now c.args.candidates.now.high.now) c.args.first.now c.loop-i.i c.index-first-i.result 0 c.loop-i-test.true

pub loop-i-preserved : goal.loop-i-preserved
loop-i-preserved c =
    let found : (with_items c.loop-i.found c.push_partners.new.found).items ≡ c.push_partners.new.found = with_items_is c.loop-i.found c.push_partners.new.found (omega (arith, c.in_ok-push_partners.ensures.room, c.loop-i.invariant.room, c.loop-i.found.ok)) in
    record {
      pairs = λ second w. pairs-next c.args.candidates.now.all c.args.first.now second c.loop-i.i c.index-first-i.result c.args.candidates.now.low.now c.args.candidates.now.high.now c.loop-i.pairs.items _ c.loop-i-test.true w c.in_ok-push_partners.ensures.pairs (c.loop-i.invariant.pairs second w);
      room = ap length found ∙ c.in_ok-push_partners.ensures.room;
    }
