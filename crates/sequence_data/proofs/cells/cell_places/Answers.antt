use Rattle.std.proofs.Common.{◌≡◌, ◌∙◌, ap, length, map, take, eqb, arith}
use Rattle.std.proofs.Math.Seq.{take-length}
use Rattle.std.proofs.lemmas.List.Filters.{dedup_is}
use Rattle.sequence_data.specs.Gathered.{cell_place}
use Rattle.sequence_data.proofs.PlaceLemmas.{places-made}
use Rattle.sequence_data.proofs.cells.cell_places.Goals as goal

pub returns : goal.returns
returns c =
    let whole : c.loop-leaf.leaf-index ≡ length c.args.leaves.now = omega arith in
    let all = c.loop-leaf.invariant ∙ ap (λ n. map (cell_place c.args.columns) (take n c.args.leaves.now)) whole ∙ ap (map (cell_place c.args.columns)) (take-length c.args.leaves.now) in
    let once = dedup_is eqb c.sort_unstable.new.self.items c.dedup.new.self.items c.dedup.ensures.filtered in
    places-made c.args.columns c.args.leaves.now c.loop-leaf.places.items c.sort_unstable.new.self.items c.dedup.new.self.items all c.sort_unstable.ensures.permutation c.sort_unstable.ensures.sorted once
