use Rattle.std.proofs.Common.{◌≡◌, ◌+◌, ◌≤◌, length, sym, ◌∙◌, ap, subst, arith}
use Rattle.pmf_ledger.{specs.BlockReading.{without_blocks}, specs.Following.{IsStoppedBy, StandsFor}, specs.Loading.{Reading, after_line}, proofs.lemmas.BlockReadingLemmas.{stopped_stage}, proofs.lemmas.LinesLemmas.{blocks-more}}
use Rattle.pmf_ledger.proofs.block_lines.BlockLines.step.Goals as goal

pub follow-requires-clause-count : goal.follow-requires-clause-count
follow-requires-clause-count c = let count = c.requires.stands.2.stands.0.count in omega (arith, count)

pub follow-requires-clause-stands : goal.follow-requires-clause-stands
follow-requires-clause-stands c =
    (without_blocks c.requires.stands.0, subst (StandsFor (without_blocks c.requires.stands.0) c.args.self.now.blocks) (sym c.replace-next.ensures.value) c.requires.stands.2.stands)

pub returns-in-Err : goal.returns-in-Err
returns-in-Err c = λ r e line are is of_text.
    let bare = without_blocks r in
    let text = c.args.text.now in
    let stop = c.in-Err.ensures.reaches bare (subst (StandsFor bare c.args.self.now.blocks) (sym c.replace-next.ensures.value) are.stands) of_text in
    let same : after_line bare c.args.self.now.line text ≡ e = ap (λ n. after_line bare n text) are.line_is ∙ sym is in
    let few : length e.blocks ≤ 1 = subst (λ (o : Reading). length o.blocks ≤ 1) (sym is) (blocks-more bare line text) in
    stopped_stage e c.in-Err.fault few (subst (λ o. IsStoppedBy o c.in-Err.fault) same stop)

pub returns : goal.returns
returns c = λ r e line are is.
    let bare = without_blocks r in
    let text = c.args.text.now in
    let reached = c.in-Ok.ensures.reaches bare (subst (StandsFor bare c.args.self.now.blocks) (sym c.replace-next.ensures.value) are.stands) in
    let same : after_line bare c.args.self.now.line text ≡ e = ap (λ n. after_line bare n text) are.line_is ∙ sym is in
    c.hand_out.ensures r e (line + 1) (record {
      stands = subst (λ o. StandsFor o c.follow.new.self c.in-Ok.awaited) same reached;
      one = subst (λ (o : Reading). length o.blocks ≤ 1) (sym is) (blocks-more bare line text);
      line_is = ap (λ n. n + 1) are.line_is;
      count = are.count;
      few = let few = are.few in omega (arith, few);
      rises = are.rises;
      last = are.last;
    })
