use Rattle.std.{proofs.Common.{◌≡◌, ◌≤◌, length, take, sym, subst, arith}}
use Rattle.pmf_merge.proofs.{lemmas.FeedingLemmas.{more_taken, unread_of, unread_length}, lemmas.RefusalLemmas.{text_refused}}
use Rattle.pmf_merge.proofs.feed.Feed.feed.Goals as goal

pub slice_bounds-feed-count : goal.slice_bounds-feed-count
slice_bounds-feed-count c = c.requires.4.rises

pub slice_bounds-feed-start : goal.slice_bounds-feed-start
slice_bounds-feed-start c = c.requires.4.rises

pub slice_bounds-feed-end : goal.slice_bounds-feed-end
slice_bounds-feed-end c = subst (λ xs. c.args.self.now.end ≤ length xs) (sym c.deref.ensures.value) c.requires.4.within

pub feed-requires : goal.feed-requires
feed-requires c = (c.requires.2, c.requires.3, c.requires.4.taken)

pub returns-in-Ok-clause-next : goal.returns-in-Ok-clause-next
returns-in-Ok-clause-next c = λ start left text r fed.
    let n = c.in-Ok.fed.taken in
    let next = rw c.deref.ensures.value at c.in-Ok.ensures.takes text r fed.taken in
    let few : n ≤ length (unread_of c.args.self.now) = rw c.deref.ensures.value at c.in-Ok.ensures.within in
    let parts = more_taken start left c.args.self.now text r fed n few in (
      take n (unread_of c.args.self.now),
      next.0,
      record { taken = next.1; rises = parts.0; within = fed.within; read = parts.1; ahead = fed.ahead },
      next.2,
      (λ none.
          let all : n ≡ length (unread_of c.args.self.now) = rw c.deref.ensures.value at c.in-Ok.ensures.all none in
          let long = unread_length start left c.args.self.now text r fed in let rises = fed.rises in omega (arith, all, long, rises)),
    )

pub returns-in-Err-clause-next : goal.returns-in-Err-clause-next
returns-in-Err-clause-next c = λ start left text r fed.
    let refuses = rw c.deref.ensures.value at c.in-Err.ensures.takes text r fed.taken in text_refused start left c.args.self.now text r fed c.in-Err.fault refuses
