use Rattle.std.proofs.{Common.{◌≡◌, ℕ, [], ◌∷◌, ◌++◌, List, All, sym, subst}, lemmas.List.Elements.{All-append, All-cons, All-nil}}
use Rattle.pmf_storelog.specs.{Ahead.{IsStretchOf}, declared.stretch.Stretch.{Stretch}}
use Rattle.pmf_storelog.proofs.ahead.Ahead.read.Goals as goal

one_more : (piece : List ℕ) (old new : List Stretch) (stretch : Stretch) → new ≡ old ++ stretch ∷ [] → All (IsStretchOf piece) old → IsStretchOf piece stretch → All (IsStretchOf piece) new
one_more piece old new stretch same all one =
    let P = IsStretchOf piece in subst (All P) (sym same) (All-append P old (stretch ∷ []) all (All-cons P stretch [] one (All-nil P)))

pub loop-start-preserved : goal.loop-start-preserved
loop-start-preserved c = one_more c.args.piece.now _ _ c.read-stretch.result c.in-Ok.ensures.items c.loop-start.invariant c.read-stretch.ensures.of

pub returns-in_default-next_part : goal.returns-in_default-next_part
returns-in_default-next_part c = one_more c.args.piece.now _ _ c.read-stretch.result c.in-Ok.ensures.items c.loop-start.invariant c.read-stretch.ensures.of
