use Rattle.std.{proofs.Common.{◌≡◌, ◌<◌, [], take, length, ◌∙◌, subst, arith}, proofs.KnownBytes.{Consumes-nil, Consumes-trans}, specs.Io.KnownBytes.{Consumes}}
use Rattle.pmf_stream.{proofs.lemmas.FilesLemmas.{cut-of, so-far-more}, proofs.cutting.cut_stream.Goals.{else-loop-total-test, then-loop-total-test+in-Ok+then-count-eq0}}
use Rattle.pmf_stream.proofs.cutting.cut_stream.Goals as goal

pub loop-total-preserved : goal.loop-total-preserved
loop-total-preserved g c =
    let so_far = c.loop-total.invariant in record {
      room = c.read_piece.auto.buffer ∙ so_far.room;
      within = omega (arith, c.in-Ok.ensures.limited, so_far.within);
      so_far = so-far-more _ _ (g.R.Source.left c.loop-total.reader) _ _ (g.W.Outlet.held_in c.loop-total.writer) _ c.loop-total.cutter c.take.new.cutter _ (take c.in-Ok.count c.read_piece.new.buffer) so_far.so_far c.in-Ok.ensures.bytes.0 c.in_ok-take.ensures.reads c.in_ok-size.ensures.written;
      reads = c.in-Ok.ensures.counted ∙ so_far.reads;
      writes = omega (arith, c.in_ok-size.ensures.writes, so_far.writes);
    }

pub returns-clause-cut : goal.returns-clause-cut
returns-clause-cut g c =
    let so_far = c.loop-total.invariant.so_far in
    let none : c.in-Ok-read_piece.count ≡ 0 = let more = c.if-more-gt0.false in omega arith in
    let before : Consumes (g.R.Source.left c.loop-total.reader) (g.R.Source.left c.loop-total-test.reader) [] × (length c.loop-total-test.piece ≡ 65536) = elim c.loop-total-test.branch [
      | else-loop-total-test w ↦ rw (w.reader-is, w.piece-is) (Consumes-nil (g.R.Source.left c.loop-total.reader), c.loop-total.invariant.room)
      | then-loop-total-test+in-Ok+then-count-eq0 w ↦
          rw (w.reader-is, w.piece-is) (
            subst (λ n. Consumes (g.R.Source.left c.loop-total.reader) (g.R.Source.left w.read_piece.new.reader) (take n w.read_piece.new.buffer)) w.if-count-eq0.true w.in-Ok.ensures.bytes.0,
            w.read_piece.auto.buffer ∙ c.loop-total.invariant.room,
          )
    ] in
    let last = c.in-Ok-read_piece.ensures.bytes in
    let room : 0 < length c.read_piece-2.new.buffer = omega (arith, c.read_piece-2.auto.buffer, before.1) in
    cut-of _ _ (g.R.Source.left c.loop-total.reader) _ _ (g.W.Outlet.held_in c.loop-total.writer) _ c.loop-total.cutter c.end.new.cutter _ so_far
    (Consumes-trans _ (g.R.Source.left c.loop-total-test.reader) _ [] [] before.0
    (subst (λ n. Consumes (g.R.Source.left c.loop-total-test.reader) (g.R.Source.left c.read_piece-2.new.reader) (take n c.read_piece-2.new.buffer)) none last.0)) (last.1 none room) c.in_ok-end.ensures.all c.in_ok-write_out.ensures.written c.told.result c.told.ensures
