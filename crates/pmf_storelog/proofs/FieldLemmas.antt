-- What a search for a semicolon says of the fields.
use Rattle.std.proofs.{Common.{arith, ◌≡◌, ℕ, ◌+◌, List, [], ◌∷◌, Option, take, drop, MatchOption}, lemmas.Grind.{common_steps}}
use Rattle.memchr.specs.Find.{IsFirstByte, is_byte}
use Rattle.pmf_storelog.{specs.Records.{fields_of}, proofs.SplitLemmas.{split_none, split_some}}

pub field_end_found : (text : List ℕ) (r : Option ℕ) → IsFirstByte (is_byte 59) text r →
    MatchOption r (fields_of text ≡ text ∷ []) (λ end. fields_of text ≡ take end text ∷ fields_of (drop (end + 1) text))
unfolding fields_of
field_end_found text r found = grind (arith, common_steps, split_none, split_some)
