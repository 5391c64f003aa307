use Rattle.std.specs.{Prelude.{IfSome}, Result.{result_ok}}
use Rattle.std.proofs.{Common.{◌<◌, length, map, sym, subst, arith}, lemmas.List.{length-map}}
use Rattle.pmf_stream.{specs.Joining.{IsJoinOf}, proofs.lemmas.TextJoiningLemmas.{IfSome-both, IfSome-one, map-one, map-parted}}
use Rattle.pmf_stream.proofs.joining.+join_halves.Goals as goal

pub returns-in-len1 : goal.returns-in-len1
returns-in-len1 t c =
    let text = c.text-item.result in
    let one = map-one (λ t. t.items) c.args.texts.now text c.in-len1.len_at_least c.in-len1.len_below c.text-item.is in
    let loads = IfSome-one text.items c.load_ledger.result _ (rw c.deref.ensures.value at c.load_ledger.ensures.loads) in
    rw c.ok.ensures.value (subst (λ ts. IfSome (result_ok c.load_ledger.result) (IsJoinOf ts)) (sym one) loads)

pub returns-in_ok-back-in_default : goal.returns-in_ok-back-in_default
returns-in_ok-back-in_default t c =
    let cut = c.split_at.ensures in
    let front = c.split_at.result.0.now in
    let back = c.split_at.result.1.now in
    let some : 0 < length (map (λ t. t.items) front) = rw (length-map front (λ t. t.items)) (omega (arith, cut.front_len, c.middle_of.ensures.some, c.middle_of.ensures.within)) in
    let whole = map-parted (λ t. t.items) c.args.texts.now front back c.middle_of.result cut.front cut.back in
    let both = IfSome-both (map (λ t. t.items) front) (map (λ t. t.items) back) c.in_ok-front-in_default.front c.in_ok-back-in_default.back c.join_two.result some c.in_ok-front-in_default.ensures c.in_ok-back-in_default.ensures c.join_two.ensures.joined in
    rw c.ok-in_default.ensures.value (subst (λ ts. IfSome (result_ok c.join_two.result) (IsJoinOf ts)) whole both)
