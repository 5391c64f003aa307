use Rattle.std.proofs.{Common.{◌≡◌, ℕ, [], ◌∷◌, ◌++◌, List, All, sym, subst}, lemmas.List.Elements.{All-append, All-cons, All-nil}}
use Rattle.pmf_storelog.specs.{Ahead.{IsAheadOf}, declared.ahead.Ahead.{Ahead}}
use Rattle.pmf_storelog.proofs.tests.ahead.parts_at.Goals as goal

one_more : (piece : List ℕ) (old new : List Ahead) (part : Ahead) → new ≡ old ++ part ∷ [] → All (IsAheadOf piece) old → IsAheadOf piece part → All (IsAheadOf piece) new
one_more piece old new part same all one =
    let P = IsAheadOf piece in subst (All P) (sym same) (All-append P old (part ∷ []) all (All-cons P part [] one (All-nil P)))

pub returns : goal.returns
returns c =
    let piece = c.args.piece.now in
    let none = subst (All (IsAheadOf piece)) (sym c.new-parts.ensures.items) (All-nil (IsAheadOf piece)) in
    let first = one_more piece c.new-parts.result.items c.push.new.self.items c.read.new.self c.in_ok-push.ensures.items none c.read.ensures in
    one_more piece c.push.new.self.items c.push-2.new.self.items c.read-2.new.self c.in_ok-push-2.ensures.items first c.read-2.ensures
