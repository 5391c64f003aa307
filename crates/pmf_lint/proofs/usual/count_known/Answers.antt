use Rattle.std.proofs.{Common.{◌≡◌, true, length, get_or, slice_set, List, [], ap, ◌∙◌, ℕ, subst, sym, arith}, lemmas.List.{length-map}}
use Rattle.pmf_query.specs.RecordNames.{known_names}
use Rattle.pmf_lint.proofs.UsualCountLemmas.{known_once, one_counted, one_more, only_is}
use Rattle.pmf_lint.proofs.usual.count_known.Goals as goal

pub returns : goal.returns
returns c =
    let counts = c.args.counts.now.items in
    let index = c.args.index in
    let name = get_or known_names index [] in
    let long = ap (λ (ns : List (List ℕ)). length ns) c.requires.names in
    ap (λ k. slice_set counts index (one_more k)) c.index-count.ensures
    ∙ one_counted name index counts c.index-count.result.now (subst (λ ns. only_is name index ns ≡ true) (sym c.requires.names) (known_once index c.requires.within)) (omega (arith, long, c.requires.within, length-map counts (λ k. k.name.now)))
