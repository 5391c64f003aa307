use Rattle.std.proofs.Common.{◌≡◌, Some, None, ◌∙◌, arith, codes, refl, sym}
use Rattle.clap.specs.Words.{found_of}
use Rattle.pmf_words.proofs.RequestLemmas.{flag-named, maybe-number-named, not-both}
use Rattle.pmf_words.proofs.request.joining_of.Goals as goal

pub returns-then-trust : goal.returns-then-trust
returns-then-trust c =
    let f = found_of c.args.join.now in
    let stream = flag-named f (codes "stream") c.get_flag-stream.result c.get_flag-stream.ensures.value c.get_flag-stream.ensures.other in
    let trust = flag-named f (codes "trust") c.get_flag-trust.result c.get_flag-trust.ensures.value c.get_flag-trust.ensures.other in
    let summary = flag-named f (codes "summary") c.get_flag-summary.result c.get_flag-summary.ensures.value c.get_flag-summary.ensures.other in
    record { trust = λ given. ((λ out. not-both _ c.if-not-stream.false (stream.left_out out)), (λ given. not-both _ (summary.given given) c.if-summary.false), refl); merge = λ out _. not-both _ c.if-trust.true (trust.left_out out); load = λ out _. not-both _ c.if-trust.true (trust.left_out out) }

pub returns-then-stream : goal.returns-then-stream
returns-then-stream c =
    let f = found_of c.args.join.now in
    let stream = flag-named f (codes "stream") c.get_flag-stream.result c.get_flag-stream.ensures.value c.get_flag-stream.ensures.other in
    let trust = flag-named f (codes "trust") c.get_flag-trust.result c.get_flag-trust.ensures.value c.get_flag-trust.ensures.other in
    record { trust = λ given. not-both _ (trust.given given) c.if-trust.false; merge = λ _ _. refl; load = λ _ out. not-both _ c.if-stream.true (stream.left_out out) }

pub returns-in-None : goal.returns-in-None
returns-in-None c =
    let f = found_of c.args.join.now in
    let stream = flag-named f (codes "stream") c.get_flag-stream.result c.get_flag-stream.ensures.value c.get_flag-stream.ensures.other in
    let trust = flag-named f (codes "trust") c.get_flag-trust.result c.get_flag-trust.ensures.value c.get_flag-trust.ensures.other in
    let workers = maybe-number-named 32 f (codes "workers") c.get_one.result (λ k below. omega (arith, below)) c.get_one.ensures.none c.get_one.ensures.value in
    record {
      trust = λ given. not-both _ (trust.given given) c.if-trust.false;
      merge = λ _ given. not-both _ (stream.given given) c.if-stream.false;
      load = λ _ _. ((λ k below named. let both : Some k ≡ None = sym (workers.given k below named) ∙ c.in-None.is in absurd cc), refl);
    }
