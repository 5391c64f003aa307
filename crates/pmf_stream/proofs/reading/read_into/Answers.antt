use Rattle.std.proofs.Common.{◌≡◌, ℕ, ◌≤◌, List, ◌++◌, length, take, sym, ◌∙◌, arith, length-take}
use Rattle.pmf_stream.proofs.lemmas.ReadAllLemmas.{Reading-more, HasReadBytes-more}
use Rattle.pmf_stream.proofs.reading.read_into.Goals as goal

taken : (n : ℕ) (buffer : List ℕ) → n ≤ length buffer → n ≡ length (take n buffer)
taken n buffer within = sym (let all = length-take n buffer in omega arith)

pub returns-in-Err-clause-taken : goal.returns-in-Err-clause-taken
returns-in-Err-clause-taken g c =
    let so_far = c.loop-total.invariant.taken in
    let count = c.in_ok-count.count in
    let buffer = c.read_piece.new.buffer in
    let piece = take count buffer in
    let all = length-take count buffer in
    let room = c.loop-total.invariant.room in
    let same = c.read_piece.auto.buffer in record {
      before = so_far.bytes;
      piece = piece;
      small = omega (arith, all, room, same);
      read = HasReadBytes-more g.I.Intake.Takes c.args.limit _ _ _ c.args.intake.now c.loop-total.intake c.loop-total.total count piece so_far
          c.in_ok-count.ensures.bytes.0 (taken count buffer c.in_ok-count.ensures.within) c.in_ok-count.ensures.limited;
      taken = c.loop-total.intake;
      takes = so_far.taken;
      refuses = c.in-Err.ensures;
    }

pub returns-in-Err-clause-within : goal.returns-in-Err-clause-within
returns-in-Err-clause-within g c =
    let so_far = c.loop-total.invariant.taken in
    let count = c.in_ok-count.count in
    let buffer = c.read_piece.new.buffer in (
      so_far.bytes ++ take count buffer,
      HasReadBytes-more g.I.Intake.Takes c.args.limit _ _ _ c.args.intake.now c.loop-total.intake c.loop-total.total count (take count buffer) so_far
          c.in_ok-count.ensures.bytes.0 (taken count buffer c.in_ok-count.ensures.within) c.in_ok-count.ensures.limited,
    )

pub loop-total-preserved : goal.loop-total-preserved
loop-total-preserved g c =
    let so_far = c.loop-total.invariant in
    let count = c.in_ok-count.count in
    let buffer = c.read_piece.new.buffer in
    record {
      taken = Reading-more g.I.Intake.Takes c.args.limit _ _ _ c.args.intake.now c.loop-total.intake c.take.new.self c.loop-total.total count (take count buffer)
          g.met.I.Intake.takes_more so_far.taken c.in_ok-count.ensures.bytes.0 (taken count buffer c.in_ok-count.ensures.within) c.in_ok-count.ensures.limited c.in_default.ensures;
      counted = c.in_ok-count.ensures.counted ∙ so_far.counted;
      room = c.read_piece.auto.buffer ∙ so_far.room;
    }
