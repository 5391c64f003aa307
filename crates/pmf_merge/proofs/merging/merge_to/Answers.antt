use Rattle.std.{proofs.{Common.{◌≡◌, ◌<◌, ◌≤◌, ℕ, [], length, map, get_or, Some, None, refl, sym, ◌∙◌, subst, arith, rules}, lemmas.List.{get_or_default, length-map, length-set, map-set}, lemmas.List.Elements.{All-set}}, specs.Io.KnownBytes.{Appends}}
use Rattle.pmf_device.{specs.Failures.{CanCountOneMore}, proofs.PageLemmas.{stops_so}}
use Rattle.pmf_ledger.proofs.lemmas.SummaryLemmas.{told_whole}
use Rattle.pmf_merge.{specs.Heads.{IsLast, IsMerging, IsLeast}, specs.Merging.{IsMergeFaultOf, Merges}, specs.Refusing.{WritesFront}, specs.Written.{IsTextOfSome}, proofs.lemmas.FrontLemmas.{front_of_none, front_of_some}, proofs.lemmas.OverLemmas.{are_all, is_merge}, proofs.lemmas.ConflictLemmas.{of_tell}, proofs.lemmas.SourceLemmas.{IfOk_map, left_at}, proofs.merging.merge_to.Goals.{in-Some-index+in_ok-tell, in_default-index}}
use Rattle.pmf_merge.proofs.merging.merge_to.Goals as goal

pub loop-index-init : goal.loop-index-init
loop-index-init g c =
    let sources = c.args.sources.now.items in let starts = map g.R.Source.left sources in
    let count : length sources ≡ length starts = sym (length-map sources g.R.Source.left) in
    record {
      state = (
        [],
        subst (λ n. IsMerging n starts (map g.R.Source.left c.begin.new.sources.items) c.in_ok-heads.heads.feeds.items c.in_ok-heads.heads.heads.items c.in_ok-heads.heads.profile []) count c.in_ok-heads.ensures.merging,
        c.in-Ok.ensures (g.W.Sink.held c.args.writer.now),
        refl,
      );
      waits = c.in_ok-heads.ensures.waiting;
      of_none = λ none. c.in_ok-heads.ensures.of_none (count ∙ none);
      counted = c.in_ok-heads.ensures.counted;
      len = c.in_ok-heads.ensures.len;
      writes = refl;
    }

pub tell-requires-clause-after : goal.tell-requires-clause-after
tell-requires-clause-after g c =
    let state = c.loop-index.invariant.state in let heads = c.loop-index.heads.heads.items in let index = c.in-Some.index in
    let least = c.in-Some.ensures in let inside : index < length heads = least.0 in
    let at : get_or heads index None ≡ Some c.in-Some-index.verdict = sym (get_or_default heads index c.index.result.now None inside) ∙ sym c.index.ensures ∙ c.in-Some-index.is in
    let long = state.1.heads_are in
    (state.0, state.3, λ found held. state.1.after index c.in-Some-index.verdict found (omega (arith, inside, long)) at held)

pub loop-index-preserved : goal.loop-index-preserved
loop-index-preserved g c =
    let state = c.loop-index.invariant.state in let out = state.0 in let m = state.1 in
    let heads = c.loop-index.heads.heads.items in let index = c.in-Some.index in let left = g.R.Source.left in
    let sources = c.loop-index.sources.items in let starts = map left c.args.sources.now.items in let lefts = map left sources in
    let least = c.in-Some.ensures in let inside : index < length heads = least.0 in
    let long = m.heads_are in let len = c.loop-index.invariant.len in
    let count = length-map c.args.sources.now.items left in let read = length-map sources left in
    let within : index < length starts = omega (arith, inside, long) in
    let in_sources : index < length sources = omega (arith, within, count, len) in
    let enough : length starts ≤ length lefts = omega (arith, count, read, len) in
    let at_left = left_at left sources index c.index_mut.result.now c.index_mut.ensures.value in_sources in
    let moved = map-set left sources index c.advance.new.source in
    elim c.match-index.branch [
      | in-Some-index+in_ok-tell w ↦
          let v = w.in-Some-index.verdict in
          let at : get_or heads index None ≡ Some v = sym (get_or_default heads index c.index.result.now None inside) ∙ sym c.index.ensures ∙ w.in-Some-index.is in
          let both : Some least.1 ≡ Some v = sym least.2.0 ∙ at in let one : least.1 ≡ v = cc in
          let told = w.in_ok-tell.ensures.told c.args.form c.loop-index.heads.profile (g.W.Sink.held c.args.writer.now) out state.2 state.3 m.rises m.checked (m.head index v within at).1 in
          let next = c.in_ok-last.ensures.advanced (length starts) starts lefts out told.0 v m within enough at_left (subst (IsLeast heads index) one least.2) told.1 in
          record {
            state = (
              told.0,
              rw moved next.1,
              rw (c.in_ok-last.ensures.profile, w.writer-is, w.written-is) told.3,
              subst (IsLast told.0) (sym next.0) told.2,
            );
            waits = c.in_ok-last.ensures.waiting c.loop-index.invariant.waits inside;
            of_none = λ none. c.in_ok-last.ensures.profile ∙ c.loop-index.invariant.of_none none;
            counted = All-set (λ s. CanCountOneMore (g.R.Device.failed_calls s)) sources index c.advance.new.source
                (rw c.in_ok-last.ensures.counted (subst (λ s. CanCountOneMore (g.R.Device.failed_calls s)) (sym c.index_mut.ensures.value) (c.loop-index.invariant.counted index c.index_mut.result.now in_sources)))
                c.loop-index.invariant.counted;
            len = length-set sources index c.advance.new.source ∙ len;
            writes = rw w.writer-is (w.in_ok-tell.ensures.counted ∙ c.loop-index.invariant.writes);
          }
      | in_default-index w ↦
          absurd (w.in_default-index.not-Some least.1 (c.index.ensures ∙ get_or_default heads index c.index.result.now None inside ∙ least.2.0))
    ]

pub returns-clause-merges : goal.returns-clause-merges
returns-clause-merges g c =
    let state = c.loop-index.invariant.state in let out = state.0 in let profile = c.loop-index.heads.profile in
    let starts = map g.R.Source.left c.args.sources.now.items in
    let none : (i : ℕ) → get_or c.loop-index.heads.heads.items i None ≡ None = search rules in
    let all = are_all starts (map g.R.Source.left c.loop-index.sources.items) c.loop-index.heads.feeds.items c.loop-index.heads.heads.items profile out state.1 none c.loop-index.invariant.of_none in
    let merge = is_merge starts (map g.R.Source.left c.loop-index.sources.items) c.loop-index.heads.feeds.items c.loop-index.heads.heads.items profile out state.1 none c.loop-index.invariant.of_none in
    IfOk_map _ (Merges c.args.form starts (g.W.Sink.held c.args.writer.now) (g.W.Sink.held c.end.new.writer)) c.end.result (c.end.ensures.written c.args.form profile (g.W.Sink.held c.args.writer.now) out state.2)
    (λ totals done. (
      _,
      all,
      (
        _,
        record { ledger = record { profile = profile; sections = out }; merges = merge; text_is = refl; totals_are = done.0 },
        subst (Appends (g.W.Sink.held c.args.writer.now) (g.W.Sink.held c.end.new.writer)) (told_whole c.args.form (record { profile = profile; sections = out }) state.1.rises) done.1,
      ),
    ))

pub returns-in_err-tell-clause-refused : goal.returns-in_err-tell-clause-refused
returns-in_err-tell-clause-refused g c =
    let state = c.loop-index.invariant.state in let heads = c.loop-index.heads.heads.items in let index = c.in-Some.index in
    let inside : index < length heads = c.in-Some.ensures.0 in let long = state.1.heads_are in
    let starts = map g.R.Source.left c.args.sources.now.items in let lefts = map g.R.Source.left c.loop-index.sources.items in
    let at : get_or heads index None ≡ Some c.in-Some-index.verdict = sym (get_or_default heads index c.index.result.now None inside) ∙ sym c.index.ensures ∙ c.in-Some-index.is in
    let both : Some c.in-Some.ensures.1 ≡ Some c.in-Some-index.verdict = sym c.in-Some.ensures.2.0 ∙ at in let one : c.in-Some.ensures.1 ≡ c.in-Some-index.verdict = cc in
    stops_so _ (IsMergeFaultOf starts) c.from_residual-in_err-tell.result c.in_err-tell.field-0.0 c.from_residual-in_err-tell.ensures
    (of_tell starts lefts c.loop-index.heads.feeds.items heads c.loop-index.heads.profile state.0 state.1 index c.in-Some-index.verdict (subst (IsLeast heads index) one c.in-Some.ensures.2) c.loop-index.last
    c.in_err-tell.field-0.0 (omega (arith, inside, long)) state.3 c.in_err-tell.ensures.refused)

pub returns-in_err-last-clause-refused : goal.returns-in_err-last-clause-refused
returns-in_err-last-clause-refused g c =
    let state = c.loop-index.invariant.state in let heads = c.loop-index.heads.heads.items in let index = c.in-Some.index in let left = g.R.Source.left in
    let inside : index < length heads = c.in-Some.ensures.0 in let long = state.1.heads_are in let len = c.loop-index.invariant.len in
    let sources = c.loop-index.sources.items in let starts = map left c.args.sources.now.items in let lefts = map left sources in
    let count = length-map c.args.sources.now.items left in
    let within : index < length starts = omega (arith, inside, long) in
    let in_sources : index < length sources = omega (arith, within, count, len) in
    let at_left = left_at left sources index c.index_mut.result.now c.index_mut.ensures.value in_sources in
    stops_so _ (IsMergeFaultOf starts) c.from_residual-in_err-last.result c.in_err-last.field-0.0 c.from_residual-in_err-last.ensures
    (c.in_err-last.ensures.refused starts lefts state.0 state.1 within at_left)

pub returns-in_err-heads-clause-front : goal.returns-in_err-heads-clause-front
returns-in_err-heads-clause-front g c =
    let held = g.W.Sink.held c.args.writer.now in
    stops_so _ (λ found. WritesFront (IsTextOfSome c.args.form) held held) c.from_residual.result c.in_err-heads.field-0.0 c.from_residual.ensures (front_of_none c.args.form held)

pub returns-in-Err-clause-front : goal.returns-in-Err-clause-front
returns-in-Err-clause-front g c = front_of_none c.args.form (g.W.Sink.held c.args.writer.now)

pub returns-in_default-checked_add-clause-front : goal.returns-in_default-checked_add-clause-front
returns-in_default-checked_add-clause-front g c =
    let state = c.loop-index.invariant.state in front_of_some c.args.form c.loop-index.heads.profile (g.W.Sink.held c.args.writer.now) _ state.0 c.loop-index.written state.2

pub returns-in_err-tell-clause-front : goal.returns-in_err-tell-clause-front
returns-in_err-tell-clause-front g c =
    let state = c.loop-index.invariant.state in let held = g.W.Sink.held c.args.writer.now in
    stops_so _ (λ found. WritesFront (IsTextOfSome c.args.form) held (g.W.Sink.held c.tell.new.writer)) c.from_residual-in_err-tell.result c.in_err-tell.field-0.0 c.from_residual-in_err-tell.ensures
    (c.in_err-tell.ensures.front c.args.form c.loop-index.heads.profile held state.0 state.2)

pub returns-in_err-last-clause-front : goal.returns-in_err-last-clause-front
returns-in_err-last-clause-front g c =
    let state = c.loop-index.invariant.state in let out = state.0 in let m = state.1 in let profile = c.loop-index.heads.profile in
    let heads = c.loop-index.heads.heads.items in let index = c.in-Some.index in let held = g.W.Sink.held c.args.writer.now in
    let starts = map g.R.Source.left c.args.sources.now.items in
    let inside : index < length heads = c.in-Some.ensures.0 in let long = m.heads_are in let within : index < length starts = omega (arith, inside, long) in
    stops_so _ (λ found. WritesFront (IsTextOfSome c.args.form) held (g.W.Sink.held c.match-index.writer)) c.from_residual-in_err-last.result c.in_err-last.field-0.0 c.from_residual-in_err-last.ensures
    (elim c.match-index.branch [
      | in-Some-index+in_ok-tell w ↦
          let at : get_or heads index None ≡ Some w.in-Some-index.verdict = sym (get_or_default heads index c.index.result.now None inside) ∙ sym c.index.ensures ∙ w.in-Some-index.is in
          let told = w.in_ok-tell.ensures.told c.args.form profile held out state.2 state.3 m.rises m.checked (m.head index w.in-Some-index.verdict within at).1 in
          front_of_some c.args.form profile held _ told.0 c.match-index.written (rw (w.writer-is, w.written-is) told.3)
      | in_default-index w ↦ front_of_some c.args.form profile held _ out c.match-index.written (rw (w.writer-is, w.written-is) state.2)
    ])

pub returns-clause-front : goal.returns-clause-front
returns-clause-front g c =
    let state = c.loop-index.invariant.state in c.end.ensures.front c.args.form c.loop-index.heads.profile (g.W.Sink.held c.args.writer.now) state.0 state.2
