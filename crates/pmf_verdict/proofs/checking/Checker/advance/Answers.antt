use Rattle.std.proofs.{Common.{◌≡◌, ◌≤◌, ◌+◌, ℕ, [], ◌∷◌, ◌++◌, length, List, Some, slice_get, refl, sym, ◌∙◌, ap, subst, arith, add-one, append_assoc}, Math.Logic.{∥∥₁_map}}
use Rattle.std.proofs.lemmas.{List.{append-nil, length-append, length_push}, Option.{slice_get_within}}
use Rattle.pmf_event.{specs.{declared.event.Event.{Event}, Store.{event_at}}, proofs.PackedLemmas.{get-behind}}
use Rattle.pmf_shadow.proofs.SameLemmas.{slice_get-front}
use Rattle.pmf_verdict.specs.{Partly.{HasChecked, IsFrontOf}, Walks.{HasWalked, Walks}}
use Rattle.pmf_verdict.proofs.checking.Checker.advance.Goals as goal

-- what the events begin with is no longer than they are
within : (front es : List Event) → IsFrontOf front es → length front ≤ length es
within front es (more, is) = let whole = ap length is ∙ length-append front more in omega (arith, whole)

-- the event behind those of a list
at_seam : (es more : List Event) (e : Event) (i : ℕ) → i ≡ length es → slice_get (es ++ e ∷ more) i ≡ Some e
at_seam es more e i is = let behind : length es + 0 ≡ i = omega (arith, is) in subst (λ n. slice_get (es ++ e ∷ more) n ≡ Some e) behind (get-behind es (e ∷ more) 0)

nothing : (rest : List Event) → length rest ≡ 0 → rest ≡ []
nothing [] none = refl
nothing (e ∷ rest) none = absurd (omega (arith, none))

-- where no more is there than was walked over, those are all
pub returns-then-len-self : goal.returns-then-len-self
returns-then-len-self c = λ profile es has (rest, is).
    let none : length rest ≡ 0 = let whole = ap length is ∙ length-append es rest in let count = has.walked.1 in omega (arith, whole, count) in
    subst (λ xs. HasChecked profile xs c.args.self) (sym (is ∙ ap (λ more. es ++ more) (nothing rest none) ∙ append-nil es)) has

pub follow-requires : goal.follow-requires
follow-requires c =
    let i = c.loop-index.index in
    let few = c.requires in
    ∥∥₁_map c.loop-index.invariant.0 (λ (es, (walks, count)). (es ++ [], i, c.in_ok-settle_for.ensures.walks (es ++ []) i (walks []), omega (arith, few)))

pub loop-index-init : goal.loop-index-init
loop-index-init c = (
  c.args.self.of_some,
  λ es has (rest, is) more. subst (λ xs. Walks c.args.self.walk xs c.args.self.walked) (sym (ap (λ xs. xs ++ more) is ∙ append_assoc es rest more)) (has.0 (rest ++ more)),
  refl,
)

pub invariant_of-result : goal.invariant_of-result
invariant_of-result c =
    let end : c.loop-index.index ≡ c.len-2.result = omega arith in
    record { of_some = ∥∥₁_map c.loop-index.invariant.0 (λ (es, walked). (es, subst (HasWalked c.loop-index.walk es) end walked)) }

pub returns : goal.returns
returns c = λ profile es has front.
    let all = c.args.events.now in
    let end : c.loop-index.index ≡ length all = omega arith in
    record {
      walked = (λ more. subst (λ n. Walks c.loop-index.walk (all ++ more) n) (end ∙ sym c.len-2.ensures.value) (c.loop-index.invariant.1 es has.walked front more), c.len-2.ensures.value);
      profile_is = c.loop-index.invariant.2 ∙ has.profile_is;
    }

pub loop-index-preserved : goal.loop-index-preserved
unfolding event_at
loop-index-preserved c =
    let all = c.args.events.now in
    let i = c.loop-index.index in
    let e = c.at-event.result in
    let here : slice_get all i ≡ Some e = c.at-event.ensures.place in (
      ∥∥₁_map c.loop-index.invariant.0 (λ (es, (walks, count)). (
        es ++ e ∷ [],
        (
          λ more. subst (λ xs. Walks c.follow.new.self xs (i + 1)) (sym (append_assoc es (e ∷ []) more))
              (subst (λ n. Walks c.follow.new.self (es ++ e ∷ more) n) (sym (add-one i)) (c.in_ok-follow.ensures.walks (es ++ e ∷ more) i (c.in_ok-settle_for.ensures.walks (es ++ e ∷ more) i (walks (e ∷ more))) (at_seam es more e i count) (add-one i))),
          let longer = length_push es e in omega (arith, count, longer),
        ),
      )),
      λ es has front more. subst (λ n. Walks c.follow.new.self (all ++ more) n) (sym (add-one i)) (c.in_ok-follow.ensures.walks (all ++ more) i (c.in_ok-settle_for.ensures.walks (all ++ more) i (c.loop-index.invariant.1 es has front more))
          (slice_get-front all more i (slice_get_within all i _ here) ∙ here) (add-one i)),
      c.in_ok-follow.ensures.profile ∙ c.in_ok-settle_for.ensures.profile ∙ c.loop-index.invariant.2,
    )
