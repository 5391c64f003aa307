use Rattle.std.{proofs.Common.{◌≡◌, false, take, bytes_eq, string_bytes}, specs.List.{list_any}}
use Rattle.pmf_words.proofs.request.has_word.Given as goal

abbrev pub invariant-loop-word : goal.invariant-loop-word
invariant-loop-word l = list_any (λ word. bytes_eq (string_bytes word) l.named) (take l.word-index l.words) ≡ false
