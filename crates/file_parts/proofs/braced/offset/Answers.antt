use Rattle.file_parts.proofs.PlaceLemmas.{place_within, place_read}
use Rattle.game_core.specs.Spacing.{AreSpaced}
use Rattle.file_parts.proofs.braced.offset.Goals as goal

pub returns-then-index-list : goal.returns-then-index-list
returns-then-index-list c =
    let ordered : AreSpaced 0 c.args.tokens.now.length c.list-list.result.now = rw c.list-list.ensures.list c.list-list.ensures.are_spaced in
    record {
      offset = place_read c.args.tokens.now c.list-list.result.now c.args.left c.saturating_sub-index.result c.index-list-index.result c.list-list.ensures.list c.saturating_sub-index.ensures c.if-index-list.true;
      within = place_within 0 c.args.tokens.now.length c.saturating_sub-index.result c.list-list.result.now c.index-list-index.result ordered c.if-index-list.true;
    }
