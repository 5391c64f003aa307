use Rattle.std.proofs.Common.{◌≡◌, ◌<◌, ◌+◌, get_or, length, subst, sym}
use Rattle.pmf_runs.{specs.Ranks.{LiesBefore}, proofs.CutLemmas.{cut-none, cut-end, fresh-beyond}}
use Rattle.pmf_runs.proofs.leaf.Leaf.cut_end.Goals as goal

pub returns-then-is_key_at-clause-bounds : goal.returns-then-is_key_at-clause-bounds
returns-then-is_key_at-clause-bounds g c =
    cut-none c.args.self.now c.args.first c.args.end c.args.index c.requires.rank c.requires.order c.requires.begins
    (subst (λ ks. (c.args.index < length ks) × (get_or ks c.args.index 0 ≡ c.args.end)) c.deref.ensures.value (c.is_key_at.ensures.key c.if-is_key_at.true))

pub put_key-requires-clause-fresh : goal.put_key-requires-clause-fresh
put_key-requires-clause-fresh g c =
    fresh-beyond c.args.self.now.keys.items c.args.first c.args.end c.args.index c.requires.rank c.requires.order
    (subst (λ ks. LiesBefore ks c.args.index (c.args.end + 1)) c.deref.ensures.value
    (c.is_key_at.ensures.other c.if-is_key_at.false (subst (λ ks. LiesBefore ks c.args.index c.args.end) (sym c.deref.ensures.value) c.requires.within)))

pub returns-clause-bounds : goal.returns-clause-bounds
returns-clause-bounds g c =
    cut-end c.args.self.now c.put_key.new.self c.args.first c.args.end c.args.index c.requires.rank c.requires.order c.requires.begins
    (subst (λ ks. LiesBefore ks c.args.index (c.args.end + 1)) c.deref.ensures.value
    (c.is_key_at.ensures.other c.if-is_key_at.false (subst (λ ks. LiesBefore ks c.args.index c.args.end) (sym c.deref.ensures.value) c.requires.within)))
    c.in_ok-put_key.ensures.keys
