-- Rows of one kind, and what is kept of their kinds.
use Rattle.std.proofs.{Common.{◌≡◌, ℕ, Bool, true, false, not, ◌&&◌, ◌||◌, ◌==◌, cond, List, [], ◌∷◌, refl, sym, ap, ◌∙◌, arith, count_by, bytes_eq}, lemmas.Slice.Eq.{bytes_eq-Decides}, lemmas.Bool.{eqb-true}, lemmas.Grind.{common_steps}}
use Rattle.std.specs.List.{AllZip, list_any}
use Rattle.pmf_request.specs.declared.settings.Reasons.{Reasons}
use Rattle.pmf_why.proofs.PairLemmas.{same_sums}
use Rattle.pmf_why.specs.{declared.kind.Kind.{Kind}, declared.taking.Told.{Told}, Kinds.{IsKindOf, is_one_kind}, Reasons.{Bad, are_alike, cause_number, distance_told, finding_number, frame_of, have_one_kind, told_by}, Telling.{IsToldAs}, Ending.{like_in}}

-- whether rows are of one kind is whether their kinds are one
pub one_kind : (x y : Bad) (k l : Kind) → IsKindOf x k → IsKindOf y l → is_one_kind k l ≡ have_one_kind x y
unfolding have_one_kind
one_kind x y k l is other =
    let a = is.finding in let b = is.cause in let c = is.distance in let d = is.frame in
    let e = other.finding in let f = other.cause in let g = other.distance in let h = other.frame in cc

four_parts : (a b c d : Bool) → (a && b && c && d) ≡ true → (a ≡ true) × (b ≡ true) × (c ≡ true) × (d ≡ true)
four_parts true true true true is = (refl, refl, refl, refl)
four_parts true true true false is = absurd cc
four_parts true true false d is = absurd cc
four_parts true false c d is = absurd cc
four_parts false b c d is = absurd cc

-- a row that is of one kind with another is of one kind with the same rows
kinds_pass : (x y z : Bad) → have_one_kind x y ≡ true → have_one_kind y z ≡ have_one_kind x z
unfolding have_one_kind
kinds_pass x y z same =
    let p = four_parts (finding_number x.row.finding == finding_number y.row.finding) (cause_number x.cause == cause_number y.cause) (distance_told x == distance_told y) (bytes_eq (frame_of x) (frame_of y)) same in
    let a : finding_number x.row.finding ≡ finding_number y.row.finding = eqb-true _ _ p.0 in
    let b : cause_number x.cause ≡ cause_number y.cause = eqb-true _ _ p.1 in
    let c : distance_told x ≡ distance_told y = eqb-true _ _ p.2 in
    let d : frame_of x ≡ frame_of y = (bytes_eq-Decides (frame_of x) (frame_of y)).0 p.3 in cc

alike_so : (all a b c : Bool) → (a ≡ true → b ≡ c) → (not all && a) ≡ true → (not all && b) ≡ (not all && c)
alike_so all a b c so is = grind (arith, common_steps)

pub alike_passes : (asked : Reasons) (x y z : Bad) → are_alike asked x y ≡ true → are_alike asked y z ≡ are_alike asked x z
unfolding are_alike
alike_passes asked x y z same = alike_so asked.all (have_one_kind x y) (have_one_kind y z) (have_one_kind x z) (kinds_pass x y z) same

any_so : (all a b c : Bool) → b ≡ (not all && c) → ((not all && a) || b) ≡ (not all && (a || c))
any_so all a b c is = grind (arith, common_steps)

-- whether one of the rows that are told is alike is whether one of the kinds is this one
pub met_told : (asked : Reasons) (rows : List Bad) (told : List Told) (y : Bad) (k : Kind) → AllZip IsToldAs rows told → IsKindOf y k →
    list_any (λ x. are_alike asked x y) rows ≡ (not asked.all && list_any (λ t. is_one_kind t.kind k) told)
unfolding are_alike
met_told asked [] [] y k zip is = grind (arith, common_steps)
met_told asked [] (t ∷ told) y k zip is = absurd zip
met_told asked (x ∷ rows) [] y k zip is = absurd zip
met_told asked (x ∷ rows) (t ∷ told) y k zip is =
    ap (λ b. (not asked.all && b) || list_any (λ x. are_alike asked x y) rows) (sym (one_kind x y t.kind k zip.0.kind is))
    ∙ any_so asked.all (is_one_kind t.kind k) (list_any (λ x. are_alike asked x y) rows) (list_any (λ t. is_one_kind t.kind k) told) (met_told asked rows told y k zip.1 is)

-- how many rows are of a kind
count_kinds : (rows : List Bad) (kinds : List Kind) (x : Bad) (k : Kind) → AllZip IsKindOf rows kinds → IsKindOf x k → count_by (have_one_kind x) rows ≡ count_by (is_one_kind k) kinds
count_kinds rows kinds x k zip is =
    same_sums IsKindOf (λ y. cond (have_one_kind x y) 1 0) (λ l. cond (is_one_kind k l) 1 0) (λ y l other. ap (λ b. cond b 1 0) (sym (one_kind x y k l is other))) rows kinds zip

pub told_same : (asked : Reasons) (rows : List Bad) (kinds : List Kind) (bad : Bad) (t : Told) → AllZip IsKindOf rows kinds → IsToldAs bad t → told_by asked rows bad ≡ like_in asked.all kinds t
unfolding like_in told_by
told_same asked rows kinds bad t zip is = ap (λ (n : ℕ). cond asked.all 1 n) (count_kinds rows kinds bad t.kind zip is.kind)
