use Rattle.std.proofs.{Common.{rules, ◌≡◌, [], length, sym, subst}, lemmas.List.{nil_from_length}}
use Rattle.pmf_ledger.{specs.Joining.{IsMerged, IsMerging}, proofs.lemmas.MergingLemmas.{Merged-turned}}
use Rattle.pmf_ledger.proofs.joining.merge.Goals as goal

pub loop-second-preserved : goal.loop-second-preserved
loop-second-preserved c = record { merging = c.merge_last.ensures.merging c.args.first.items c.args.second.items c.loop-second.invariant.merging; room = c.merge_last.ensures.room }

pub returns : goal.returns
returns c =
    let first : length c.loop-second.first.items ≡ 0 = search rules in let second : length c.loop-second.second.items ≡ 0 = search rules in let xs = c.args.first.items in
    let ys = c.args.second.items in let merged = c.loop-second.merged.items in let done : IsMerging xs ys [] [] merged = subst (λ zs. IsMerging xs ys zs [] merged) (nil_from_length _ first)
    (subst (λ zs. IsMerging xs ys c.loop-second.first.items zs merged) (nil_from_length _ second) c.loop-second.invariant.merging) in
    subst (IsMerged xs ys) (sym c.reverse.ensures.items) (Merged-turned xs ys merged done)
