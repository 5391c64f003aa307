use Rattle.std.proofs.lemmas.List.Sums.{prefix_len-le-length}
use Rattle.pmf_storelog.specs.Numbers.{is_digit_in}
use Rattle.pmf_storelog.proofs.number.read_number_in_front.Goals as goal

pub split_at-requires : goal.split_at-requires
split_at-requires c = rw c.count_digits.ensures (prefix_len-le-length (is_digit_in 10) c.args.text.now)
