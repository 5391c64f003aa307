use Rattle.std.proofs.{Common.{◌++◌, [], is_some, refl, sym, ◌∙◌, ap, subst, append_assoc, append-nil}, lemmas.Bool.{true≢false}}
use Rattle.pmf_ledger.proofs.lemmas.TextFrontLemmas.{gives_same, none_given}
use Rattle.pmf_merge.{specs.Feeding.{IsFed}, proofs.lemmas.FeedingLemmas.{fed_whole, measure_less, no_some}, proofs.lemmas.RefusalLemmas.{end_refused}}
use Rattle.pmf_merge.proofs.feed.Feed.next.Goals as goal

pub loop-more-init : goal.loop-more-init
loop-more-init g c = record {
  fed = λ start text r fed. ([], r, subst (λ xs. IsFed start (g.R.Source.left c.args.source.now) c.args.self.now xs r) (sym (append-nil text)) fed, refl, (λ wrong. absurd (true≢false wrong)));
  counted = refl;
}

pub next_of_piece-requires : goal.next_of_piece-requires
next_of_piece-requires g c = let asked = c.requires.fed in let here = c.loop-more.invariant.fed asked.0 asked.1 asked.2 asked.3 in (c.type_bounds.sync-T, (asked.0, g.R.Source.left c.loop-more.source, asked.1 ++ here.0, here.1, here.2))

pub returns-then-is_some-clause-next : goal.returns-then-is_some-clause-next
returns-then-is_some-clause-next g c = λ start text r fed.
    let here = c.loop-more.invariant.fed start text r fed in
    let left = g.R.Source.left c.loop-more.source in
    let next = c.in-Ok.ensures.next start left (text ++ here.0) here.1 here.2 in (
      here.0 ++ next.0,
      next.1,
      subst (λ xs. IsFed start left c.next_of_piece.new.self xs next.1) (append_assoc text here.0 next.0) next.2,
      gives_same r here.1 next.1 c.in-Ok.block here.3 next.3,
      (λ none. absurd (true≢false (sym c.if-is_some.true ∙ c.is_some.ensures ∙ ap is_some none))),
    )

pub loop-more-smaller : goal.loop-more-smaller
loop-more-smaller g c =
    rw (sym c.in-Ok.ensures.total) (measure_less c.next_of_piece.new.self.total c.read_more.new.self.total c.loop-more.more c.in_ok-more.more c.loop-more-test.true c.in_ok-more.ensures.total.0 c.in_ok-more.ensures.total.1)

pub loop-more-preserved : goal.loop-more-preserved
loop-more-preserved g c = record {
  fed = λ start text r fed.
      let here = c.loop-more.invariant.fed start text r fed in
      let left = g.R.Source.left c.loop-more.source in
      let next = c.in-Ok.ensures.next start left (text ++ here.0) here.1 here.2 in
      let no_block = sym c.is_some.ensures ∙ c.if-is_some.false in
      let more = c.in_ok-more.ensures.more start ((text ++ here.0) ++ next.0) next.1 next.2 (next.4 (no_some c.in-Ok.block no_block)) in (
        here.0 ++ next.0,
        next.1,
        subst (λ xs. IsFed start (g.R.Source.left c.read_more.new.source) c.read_more.new.self xs next.1) (append_assoc text here.0 next.0) more.0,
        none_given here.1 next.1 c.in-Ok.block no_block next.3 ∙ here.3,
        more.1,
      );
  counted = c.in_ok-more.ensures.counted ∙ c.loop-more.invariant.counted;
}

pub returns-in-Ok-finish-clause-next : goal.returns-in-Ok-finish-clause-next
returns-in-Ok-finish-clause-next g c = λ start text r fed.
    let here = c.loop-more.invariant.fed start text r fed in
    let over = here.4 c.loop-more-test.false in
    let done = c.in-Ok-finish.ensures (text ++ here.0) here.1 here.2.taken in
    (here.0, here.1, here.2, here.3, (λ _. fed_whole start (g.R.Source.left c.loop-more.source) c.loop-more.self (text ++ here.0) here.1 here.2 over.0 over.1 done.0 done.1))

pub returns-in-Err-clause-refused : goal.returns-in-Err-clause-refused
returns-in-Err-clause-refused g c = λ start text r fed.
    let here = c.loop-more.invariant.fed start text r fed in (refl, c.in-Err.ensures.next start (g.R.Source.left c.loop-more.source) (text ++ here.0) here.1 here.2)

pub returns-in-Err-finish-clause-refused : goal.returns-in-Err-finish-clause-refused
returns-in-Err-finish-clause-refused g c = λ start text r fed.
    let here = c.loop-more.invariant.fed start text r fed in
    (refl, end_refused start (g.R.Source.left c.loop-more.source) c.loop-more.self (text ++ here.0) here.1 here.2 c.in-Err-finish.fault (c.in-Err-finish.ensures (text ++ here.0) here.1 here.2.taken))
