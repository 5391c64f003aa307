use Rattle.std.{proofs.{Common.{◌≡◌, ◌<◌, ◌≤◌, ℕ, [], refl, length, map, get_or, option_map, List, Option, Some, None, sym, ◌∙◌, ap, subst, arith, rules}, lemmas.List.{length-map, length-set, map-set}, lemmas.List.Elements.{All-set}}}
use Rattle.pmf_device.{specs.Failures.{CanCountOneMore}, proofs.PageLemmas.{stops_so}}
use Rattle.pmf_ledger.specs.RawText.{RawBlock}
use Rattle.pmf_merge.{specs.{RawFeeding.{IsRawHead, head_in}, Trusting.{IsTrustFaultOf, IsTrusting, heads_of}, Refusing.{WritesFront}, RawWritten.{IsTextOfBlocks}}, proofs.lemmas.FrontLemmas.{front_of_blocks, front_of_no_block}, proofs.lemmas.OverLemmas.{list_of}, proofs.lemmas.RawHeadsLemmas.{are_blocks, each_raw, fails-more, fails-none, head_of_feed, of_raw_tell, whole_at}, proofs.lemmas.SourceLemmas.{left_at}, proofs.trusting.trust_to.Goals.{in-Some-name+in_ok-tell, in_default-name}}
use Rattle.pmf_merge.proofs.trusting.trust_to.Goals as goal

pub returns-in_err-tell-clause-refused : goal.returns-in_err-tell-clause-refused
returns-in_err-tell-clause-refused g c =
    let state = c.loop-index.invariant.state in let out = state.0 in let m = state.1 in let profile = c.loop-index.heads.profile in
    let feeds = c.loop-index.heads.feeds.items in let index = c.in-Some.index in let left = g.R.Source.left in let feed = c.index-feed.result.now in
    let sources = c.loop-index.sources.items in let starts = map left c.args.sources.now.items in let lefts = map left sources in
    let least = c.in-Some.ensures in let v = least.1 in let inside : index < length feeds = least.0 in
    let long = m.feeds_are in let below : index < length starts = omega (arith, inside, long) in
    let head : head_in feed ≡ Some v = head_of_feed feeds index v feed c.index-feed.ensures inside least.2.0 in
    let both : Some c.in-Some-name.name ≡ Some v.name = sym c.in-Some-name.is ∙ c.name.ensures ∙ ap (option_map (λ (b : RawBlock). b.name)) head in let same : v.name ≡ c.in-Some-name.name = cc in
    stops_so _ (IsTrustFaultOf starts) c.from_residual-in_err-tell.result c.in_err-tell.field-0.0 c.from_residual-in_err-tell.ensures
    (of_raw_tell starts lefts feeds profile out m index v c.in_err-tell.field-0.0 below least.2.0 (c.in_err-tell.ensures.refused profile (g.W.Sink.held c.args.writer.now) out v state.2 same (sym (c.block.ensures v head))))

pub advance-requires-clause-counted : goal.advance-requires-clause-counted
advance-requires-clause-counted g c =
    let m = c.loop-index.invariant.state.1 in let left = g.R.Source.left in let sources = c.loop-index.sources.items in let index = c.in-Some.index in
    let inside : index < length c.loop-index.heads.feeds.items = c.in-Some.ensures.0 in let long = m.feeds_are in let len = c.loop-index.invariant.len in let count = length-map c.args.sources.now.items left in
    subst (λ s. CanCountOneMore (g.R.Device.failed_calls s)) (sym c.index_mut.ensures.value) (c.loop-index.invariant.counted index c.index_mut.result.now (omega (arith, inside, long, len, count)))

pub loop-index-preserved : goal.loop-index-preserved
loop-index-preserved g c =
    let state = c.loop-index.invariant.state in let out = state.0 in let m = state.1 in let profile = c.loop-index.heads.profile in
    let feeds = c.loop-index.heads.feeds.items in let index = c.in-Some.index in let left = g.R.Source.left in let feed = c.index-feed.result.now in
    let sources = c.loop-index.sources.items in let starts = map left c.args.sources.now.items in let lefts = map left sources in
    let least = c.in-Some.ensures in let v = least.1 in let inside : index < length feeds = least.0 in
    let long = m.feeds_are in let below : index < length starts = omega (arith, inside, long) in
    let head : head_in feed ≡ Some v = head_of_feed feeds index v feed c.index-feed.ensures inside least.2.0 in
    let len = c.loop-index.invariant.len in let count = length-map c.args.sources.now.items left in let read = length-map sources left in
    let in_sources : index < length sources = omega (arith, below, count, len) in
    let enough : length starts ≤ length lefts = omega (arith, count, read, len) in
    let at_left = left_at left sources index c.index_mut.result.now c.index_mut.ensures.value in_sources in
    let moved = map-set left sources index c.advance.new.source in
    let name = c.name.ensures ∙ ap (option_map (λ (b : RawBlock). b.name)) head in
    let is_head = subst (IsRawHead (get_or starts index None) (get_or lefts index None) (m.told index)) (sym c.index-feed.ensures) (m.heads index feed below) in
    elim c.match-name.branch [
      | in-Some-name+in_ok-tell w ↦
          let both : Some w.in-Some-name.name ≡ Some v.name = sym w.in-Some-name.is ∙ name in let same : v.name ≡ w.in-Some-name.name = cc in
          let told = w.in_ok-tell.ensures.told profile (g.W.Sink.held c.args.writer.now) out v state.2 m.rises same (sym (w.block.ensures v head)) (λ d has. m.after index v d below least.2.0 has) in
          let next = c.in_ok-advance.ensures.advanced (length starts) starts lefts out told.0 v m below enough at_left least.2 told.1 in
          record {
            state = (told.0, rw moved next, rw (c.in_ok-advance.ensures.profile, w.writer-is, w.written-is) told.2, rw w.fails-is (fails-more out told.0 v c.loop-index.fails w.tells_fail-fails.result told.1.members state.3 (w.tells_fail-fails.ensures (get_or starts index None) (get_or lefts index None) (m.told index) v is_head head)));
            waits = c.in_ok-advance.ensures.waiting c.loop-index.invariant.waits inside;
            of_none = λ none. c.in_ok-advance.ensures.profile ∙ c.loop-index.invariant.of_none none;
            counted = All-set (λ s. CanCountOneMore (g.R.Device.failed_calls s)) sources index c.advance.new.source
                (rw c.in_ok-advance.ensures.counted (subst (λ s. CanCountOneMore (g.R.Device.failed_calls s)) (sym c.index_mut.ensures.value) (c.loop-index.invariant.counted index c.index_mut.result.now in_sources)))
                c.loop-index.invariant.counted;
            len = length-set sources index c.advance.new.source ∙ len;
            writes = rw w.writer-is (w.in_ok-tell.ensures.counted ∙ c.loop-index.invariant.writes);
            room = c.in_ok-advance.ensures.room ∙ c.loop-index.invariant.room;
          }
      | in_default-name w ↦ absurd (w.in_default-name.not-Some v.name name)
    ]

pub returns-in_err-advance-clause-refused : goal.returns-in_err-advance-clause-refused
returns-in_err-advance-clause-refused g c =
    let state = c.loop-index.invariant.state in let index = c.in-Some.index in let left = g.R.Source.left in
    let inside : index < length c.loop-index.heads.feeds.items = c.in-Some.ensures.0 in let long = state.1.feeds_are in let len = c.loop-index.invariant.len in
    let sources = c.loop-index.sources.items in let starts = map left c.args.sources.now.items in let lefts = map left sources in
    let count = length-map c.args.sources.now.items left in
    let within : index < length starts = omega (arith, inside, long) in
    let in_sources : index < length sources = omega (arith, within, count, len) in
    let at_left = left_at left sources index c.index_mut.result.now c.index_mut.ensures.value in_sources in
    stops_so _ (IsTrustFaultOf starts) c.from_residual-in_err-advance.result c.in_err-advance.field-0.0 c.from_residual-in_err-advance.ensures
    (c.in_err-advance.ensures.refused starts lefts state.0 state.1 within at_left)

pub returns-clause-merges : goal.returns-clause-merges
returns-clause-merges g c =
    let state = c.loop-index.invariant.state in let out = state.0 in let m = state.1 in let profile = c.loop-index.heads.profile in
    let starts = map g.R.Source.left c.args.sources.now.items in let lefts = map g.R.Source.left c.loop-index.sources.items in let feeds = c.loop-index.heads.feeds.items in
    let none : (i : ℕ) → get_or (heads_of feeds) i None ≡ None = search rules in
    record {
      profile = profile;
      parts = list_of m.told (length starts);
      texts = each_raw profile starts m.told (λ i below. whole_at (length starts) starts lefts feeds profile out m none i below);
      out = out;
      blocks = are_blocks (length starts) starts lefts feeds profile out m none;
      written = c.in_ok-end.ensures.written profile (g.W.Sink.held c.args.writer.now) out state.2;
      fails_are_told = state.3;
      of_none = λ is. c.loop-index.invariant.of_none (ap (λ (ss : List (Option (List ℕ))). length ss) is);
    }

pub returns-in_err-heads-clause-front : goal.returns-in_err-heads-clause-front
returns-in_err-heads-clause-front g c =
    let held = g.W.Sink.held c.args.writer.now in
    stops_so _ (λ found. WritesFront IsTextOfBlocks held held) c.from_residual.result c.in_err-heads.field-0.0 c.from_residual.ensures (front_of_no_block held)

pub returns-in-Err-clause-front : goal.returns-in-Err-clause-front
returns-in-Err-clause-front g c = front_of_no_block (g.W.Sink.held c.args.writer.now)

pub returns-in_default-checked_add-clause-front : goal.returns-in_default-checked_add-clause-front
returns-in_default-checked_add-clause-front g c =
    let state = c.loop-index.invariant.state in front_of_blocks c.loop-index.heads.profile (g.W.Sink.held c.args.writer.now) _ state.0 c.loop-index.written state.2

pub returns-in_err-tell-clause-front : goal.returns-in_err-tell-clause-front
returns-in_err-tell-clause-front g c =
    let state = c.loop-index.invariant.state in let held = g.W.Sink.held c.args.writer.now in
    stops_so _ (λ found. WritesFront IsTextOfBlocks held (g.W.Sink.held c.tell.new.writer)) c.from_residual-in_err-tell.result c.in_err-tell.field-0.0 c.from_residual-in_err-tell.ensures
    (c.in_err-tell.ensures.front c.loop-index.heads.profile held state.0 state.2)

pub returns-in_err-advance-clause-front : goal.returns-in_err-advance-clause-front
returns-in_err-advance-clause-front g c =
    let state = c.loop-index.invariant.state in let out = state.0 in let m = state.1 in let profile = c.loop-index.heads.profile in
    let feeds = c.loop-index.heads.feeds.items in let index = c.in-Some.index in let held = g.W.Sink.held c.args.writer.now in let feed = c.index-feed.result.now in
    let starts = map g.R.Source.left c.args.sources.now.items in
    let least = c.in-Some.ensures in let v = least.1 in let inside : index < length feeds = least.0 in
    let long = m.feeds_are in let below : index < length starts = omega (arith, inside, long) in
    let head : head_in feed ≡ Some v = head_of_feed feeds index v feed c.index-feed.ensures inside least.2.0 in
    let name = c.name.ensures ∙ ap (option_map (λ (b : RawBlock). b.name)) head in
    stops_so _ (λ found. WritesFront IsTextOfBlocks held (g.W.Sink.held c.match-name.writer)) c.from_residual-in_err-advance.result c.in_err-advance.field-0.0 c.from_residual-in_err-advance.ensures
    (elim c.match-name.branch [
      | in-Some-name+in_ok-tell w ↦
          let both : Some w.in-Some-name.name ≡ Some v.name = sym w.in-Some-name.is ∙ name in let same : v.name ≡ w.in-Some-name.name = cc in
          let told = w.in_ok-tell.ensures.told profile held out v state.2 m.rises same (sym (w.block.ensures v head)) (λ d has. m.after index v d below least.2.0 has) in
          front_of_blocks profile held _ told.0 c.match-name.written (rw (w.writer-is, w.written-is) told.2)
      | in_default-name w ↦ front_of_blocks profile held _ out c.match-name.written (rw (w.writer-is, w.written-is) state.2)
    ])

pub returns-in_err-end-clause-front : goal.returns-in_err-end-clause-front
returns-in_err-end-clause-front g c =
    let state = c.loop-index.invariant.state in let held = g.W.Sink.held c.args.writer.now in
    stops_so _ (λ found. WritesFront IsTextOfBlocks held (g.W.Sink.held c.end.new.writer)) c.from_residual-in_err-end.result c.in_err-end.field-0.0 c.from_residual-in_err-end.ensures
    (c.in_err-end.ensures.front c.loop-index.heads.profile held state.0 state.2)

pub loop-index-init : goal.loop-index-init
loop-index-init g c =
    let sources = c.args.sources.now.items in let starts = map g.R.Source.left sources in
    let count : length sources ≡ length starts = sym (length-map sources g.R.Source.left) in
    record {
      state = (
        [],
        subst (λ n. IsTrusting n starts (map g.R.Source.left c.begin.new.sources.items) c.in_ok-heads.heads.feeds.items c.in_ok-heads.heads.profile []) count c.in_ok-heads.ensures.trusting,
        c.in-Ok.ensures (g.W.Sink.held c.args.writer.now),
        fails-none,
      );
      waits = c.in_ok-heads.ensures.waiting;
      of_none = λ none. c.in_ok-heads.ensures.of_none (count ∙ none);
      counted = c.in_ok-heads.ensures.counted;
      len = c.in_ok-heads.ensures.len;
      writes = refl;
      room = search rules;
    }
