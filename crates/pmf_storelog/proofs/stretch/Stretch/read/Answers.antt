use Rattle.std.proofs.Common.{◌-◌, length, drop, arith, length-drop, length-take-le}
use Rattle.pmf_storelog.proofs.{ProgressLemmas.{next_part}, AheadLemmas.{closed_none, plain_between, next_closed, next_plain}}
use Rattle.pmf_storelog.proofs.stretch.Stretch.read.Goals as goal

pub loop-end-init : goal.loop-end-init
loop-end-init c = record {
  rises = omega arith;
  within = c.requires;
  few = omega (arith, c.none-plain.ensures.none);
  closed = closed_none c.args.piece.now c.args.from;
  plain = plain_between c.args.piece.now c.args.from _ c.none-plain.ensures.plain;
}

pub loop-end-preserved : goal.loop-end-preserved
loop-end-preserved c =
    let piece = c.args.piece.now in let end = c.loop-end.end in let len = c.in-Some.len in let is = c.loop-end.invariant in
    let ends = next_part piece end len c.in-Some.ensures.cases in
    record {
      rises = omega (arith, is.rises);
      within = omega (arith, is.within, c.in-Some.ensures.within, length-take-le (length piece - end) (drop end piece), length-drop end piece);
      few = omega (arith, is.rises, is.few, c.take.ensures.grows);
      closed = next_closed piece c.args.from end len is.rises _ is.closed ends;
      plain = next_plain piece c.args.from end len is.rises _ is.closed ends _ (c.take.ensures.plain _ is.plain c.if-not-take.false);
    }
