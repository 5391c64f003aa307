use Rattle.std.proofs.{Common.{◌≡◌, None, sym, ◌∙◌, subst, arith}, lemmas.Grind.{common_steps}}
use Rattle.memchr.specs.Find.{IsFirstByte, is_byte}
use Rattle.pmf_ledger.proofs.lemmas.RawTextLemmas.{no_block_begins}
use Rattle.pmf_ledger.proofs.raw_text.begins_no_block.Goals as goal

pub returns-in-Some : goal.returns-in-Some
returns-in-Some c = λ is more.
    let none : c.read_head.result ≡ None = grind (arith, common_steps) in
    no_block_begins c.args.bytes.now c.in-Some.end (subst (IsFirstByte (is_byte 10) c.args.bytes.now) c.in-Some.is c.memchr.ensures) (sym c.read_head.ensures ∙ none) more
