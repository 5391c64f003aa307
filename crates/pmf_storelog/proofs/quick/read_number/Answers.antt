use Rattle.std.proofs.Common.{◌-◌, length, take, drop, sym, ◌∙◌, codes}
use Rattle.pmf_storelog.proofs.QuickLemmas.{begins_with, cut_at, number_found}
use Rattle.pmf_storelog.proofs.quick.read_number.Goals as goal

pub returns : goal.returns
returns c =
    let text = c.args.text.now in let digits = take (length text - 2) (drop 2 text) in number_found text digits _ c.in_ok-value.value c.in_ok-value.count
    (begins_with text (codes "0x") (sym c.starts_with.ensures.value ∙ c.if-not-starts_with.false))
    (cut_at c.in_ok-value.count digits) c.in_ok-value.ensures
