use Rattle.std.proofs.Common.{◌∙◌, arith, string_bytes}
use Rattle.pmf_images.specs.Showing.{shown_of}
use Rattle.pmf_query.{specs.Asking.{text_if_failed}, proofs.AskingLemmas.{no_row, count_left, own_part, other_part, text_more}}
use Rattle.pmf_query.proofs.explaining.push_rows.Goals as goal

pub split_at-requires : goal.split_at-requires
split_at-requires c =
    let left = count_left c.args.rows.now c.loop-row.row-index no_row c.loop-row-test.true in
    let long = c.loop-row.invariant.long in
    omega arith

pub loop-row-preserved : goal.loop-row-preserved
loop-row-preserved c =
    let rows = c.args.rows.now in
    let i = c.loop-row.row-index in
    let less = c.loop-row-test.true in
    let old = c.loop-row.invariant in
    let cut = c.split_at.ensures in
    record {
      long = let left = count_left rows i no_row less in let long = old.long in omega arith;
      rest = λ es shown. cut.back ∙ other_part rows i no_row less (shown_of es) c.loop-row.rest.now (old.rest es shown) c.count_asked.result c.count_asked.ensures;
      told = λ es shown.
          let own = cut.front ∙ own_part rows i no_row less (shown_of es) c.loop-row.rest.now (old.rest es shown) c.count_asked.result c.count_asked.ensures in
          text_more rows i no_row less (text_if_failed c.args.name es) (string_bytes c.args.text.now) (string_bytes c.loop-row.text) _ (old.told es shown) (c.in_ok-push_if_failed.ensures es own);
    }
