use Rattle.std.proofs.{Common.{◌≡◌, ◌-◌, ◌<◌, suc, if◌then◌else◌, length, get_or, [], ◌∷◌, ◌++◌, ◌+◌, sym, ◌∙◌, ap, arith}, lemmas.List.{length_push}}
use Rattle.pmf_event.specs.Store.{is_fence}
use Rattle.pmf_cause.{specs.Cause.{fence_after}, proofs.LaterLemmas.{fence-last, fence-step}, proofs.ListLemmas.{one_more}}
use Rattle.pmf_cause.proofs.later.fences_behind.Goals as goal

pub loop-left-init : goal.loop-left-init
loop-left-init c =
    let es = c.args.events.now in
    let len = c.len-left.ensures.value in
    let items = c.in_ok-push.ensures.items in
    let none = c.in_ok-fences.ensures.items in
    record {
      within = omega arith;
      fence = sym (fence-last es) ∙ ap (fence_after es) (sym len);
      long = ap length items ∙ ap (λ xs. length (xs ++ 0 ∷ [])) none ∙ (let first : 1 ≡ suc (length es - c.len-left.result) = omega (arith, len) in first);
      each = λ k d low high.
          let last : k ≡ length es = omega (arith, len, low, high) in
          let first : length es - k ≡ 0 = omega (arith, len, low, high) in
          ap (λ xs. get_or xs (length es - k) d) items ∙ ap (λ xs. get_or (xs ++ 0 ∷ []) (length es - k) d) none ∙ ap (λ i. get_or (0 ∷ []) i d) first
          ∙ sym (fence-last es) ∙ ap (fence_after es) (sym last);
    }

pub loop-left-preserved : goal.loop-left-preserved
loop-left-preserved c =
    let es = c.args.events.now in
    let n = length c.args.events.now in
    let p = c.loop-left.left - 1 in
    let old = c.loop-left.fences.items in
    let within = c.loop-left.invariant.within in
    let long = c.loop-left.invariant.long in
    let less : p < n = omega arith in
    let next : c.loop-left.left ≡ suc p = omega arith in
    let here = c.at.ensures.place in
    let e = c.at.result in
    let now : c.place_if-fence.result ≡ fence_after es p =
    c.place_if-fence.ensures
    ∙ ap (λ b. if b then c.loop-left.left else c.loop-left.fence) c.is_fence.ensures
    ∙ ap (λ k. if is_fence e then k else c.loop-left.fence) next
    ∙ ap (λ k. if is_fence e then suc p else k) (c.loop-left.invariant.fence ∙ ap (fence_after es) next)
    ∙ sym (fence-step es p e here less) in
    let items = c.in_ok-push-2.ensures.items in
    record {
      within = omega arith;
      fence = now;
      long = ap length items ∙ length_push old c.place_if-fence.result ∙ (let more : length old + 1 ≡ suc (n - p) = omega arith in more);
      each = one_more (fence_after es) (λ k. n - k) p n c.place_if-fence.result old c.push-in-loop-left.new.self.items items (omega arith) now
          (λ k low high. omega arith) (λ k d low high. c.loop-left.invariant.each k d (omega arith) high);
    }
