use Rattle.std.proofs.{Common.{◌<◌, length, arith}, lemmas.Grind.{common_steps}}
use Rattle.pmf_query.proofs.CursorLemmas.{next_here}
use Rattle.pmf_query.proofs.walking.next_record.Goals as goal

pub returns-then-not-is_empty : goal.returns-then-not-is_empty
returns-then-not-is_empty c =
    let some : 0 < length c.trim-text.result.now = grind (arith, common_steps) in
    next_here c.args.log.now c.args.start c.loop-at.at c.part_from-part.result.len c.part_from-part.result.next c.blanks_in_front.result c.trim-text.result.now
    c.loop-at.invariant.anew c.loop-at.invariant.from c.loop-at.invariant.same c.part_from-part.ensures c.trim-text.ensures c.blanks_in_front.ensures some
