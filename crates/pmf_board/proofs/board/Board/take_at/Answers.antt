use Rattle.std.proofs.Common.{rules, ◌≡◌, ◌+◌, ◌%◌, ◌<◌, ◌≤◌, refl, subst, arith}
use Rattle.pmf_board.{specs.Calls.{Takes}, specs.Views.{task}, specs.Rule.{Agrees, entry_of}, proofs.lemmas.CallLemmas.{Stays-seen, Stays-both, Takes-took, Takes-after, Known-seen, closed-known, low-not_done}}
use Rattle.pmf_board.proofs.board.Board.take_at.Goals as goal

pub returns-then-found-word-clause-some : goal.returns-then-found-word-clause-some
returns-then-found-word-clause-some c =
    let word = c.loop-word.word in
    let low : word < 8 = search rules in
    let below : word < c.args.limit = search rules in
    let s = c.args.section in
    let same : word % 16 ≡ word = omega (arith, low) in
    let agrees = subst (λ n. Agrees c.loop-word.pass.view s (entry_of n)) c.if-found-word.true c.exchange-found.ensures.agrees in
    let takes = Takes-took c.args.limit c.loop-word.pass.view c.exchange-found.new.pass.view s (entry_of word) agrees (low-not_done word low) (omega (arith, same, below)) (c.exchange-found.ensures.hit c.if-found-word.true) in
    let seen_first = Stays-seen _ _ s (entry_of c.look-word.result) c.look-word.ensures.agrees c.look-word.ensures.seen in
    (refl, subst (λ n. Takes c.args.limit c.args.pass.now.view (task s (n + 1)) c.exchange-found.new.pass.view) same (Takes-after _ _ _ _ _ (Stays-both _ _ _ seen_first c.loop-word.invariant.stays) takes))

pub loop-word-preserved : goal.loop-word-preserved
loop-word-preserved c =
    let seen = c.exchange-found.ensures.miss c.if-found-word.false in
    record {
      same = search rules;
      stays = Stays-both _ _ _ c.loop-word.invariant.stays (Stays-seen _ _ c.args.section (entry_of c.exchange-found.result) c.exchange-found.ensures.agrees seen);
      known = Known-seen _ _ c.args.section c.exchange-found.result seen c.exchange-found.ensures.agrees;
    }

pub returns-clause-none : goal.returns-clause-none
returns-clause-none c =
    let high : c.args.limit ≤ c.loop-word.word = search rules in
    let seen_first = Stays-seen _ _ c.args.section (entry_of c.look-word.result) c.look-word.ensures.agrees c.look-word.ensures.seen in
    (Stays-both _ _ _ seen_first c.loop-word.invariant.stays, closed-known c.args.limit _ c.args.section c.loop-word.word c.requires.limit c.loop-word.invariant.known high)
