use Rattle.std.proofs.{Common.{◌≡◌, ℕ, [], ◌∷◌, ◌++◌, List, All, sym, subst}, lemmas.List.Elements.{All-append, All-cons, All-nil}}
use Rattle.pmf_storelog.specs.{Ahead.{IsAheadOf}, declared.ahead.Ahead.{Ahead}}
use Rattle.pmf_stream.proofs.ahead.parts_of.Goals as goal

one_more : (piece : List ℕ) (old new : List Ahead) (part : Ahead) → new ≡ old ++ part ∷ [] → All (IsAheadOf piece) old → IsAheadOf piece part → All (IsAheadOf piece) new
one_more piece old new part same all one =
    let P = IsAheadOf piece in subst (All P) (sym same) (All-append P old (part ∷ []) all (All-cons P part [] one (All-nil P)))

pub loop-preserved : goal.loop-preserved
loop-preserved c = one_more c.args.piece.now c.loop.parts.items c.push.new.self.items c.new.result c.in_ok-push.ensures.items c.loop.invariant (c.new.ensures c.args.piece.now)

pub returns : goal.returns
returns c = one_more c.args.piece.now c.loop.parts.items c.push-2.new.self.items c.new-2.result c.in_ok-push-2.ensures.items c.loop.invariant (c.new-2.ensures c.args.piece.now)
