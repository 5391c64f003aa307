-- The lemmas that functions of src/ name in their attributes.
use Rattle.pmf_runs.proofs.{AskingLemmas.{rank-front}, ChangingLemmas.{alters-none, on-ok, level-changed, on-error, changes-none, changes-altered}, CutLemmas.{rank-beyond, fresh-beyond, rank-put, next-put, cut-none, cut-end, cut-first, joined-more, joined-other}, TwoLemmas.{two-put, two-rises, two-bounds, two-same, two-joined}, JoinedLemmas.{joined-low, joined-high, beside-taken, joined-swap, joined-put}, JoinedLevelLemmas.{parts-kept, order-bound, parts-low as low-parts, parts-high as high-parts, parts-begun, parts-begun_too, parts-cut, parts-cut_too}, LeafLemmas.{same-both, parted-last, parted-middle, rest-copied, middle-is, parts-low, parts-high, same-joined, rank-bound, begins-kept, same-items, begins-put, begins-put_kept, same-put, begins-is, state-read, state-single, same-none}, FlagLemmas.{same-made, joined-plain as plain-joined}, LevelLemmas.{level-bound, level-set, begins-bound, inner-begins, level-joined, level-middle-is, level-low, level-high, level-tail, level-same, level-split, level-has, level-kept, level-begun, level-read, level-single}, LineCountLemmas.{counted-none}, RankLemmas.{bound_at-same, bound_at-other, rank-is, key-found, key-missing, remove-rises, insert-fresh, inner-within, at-low, at-high, high_rank-bound, none-is-any, high-some}, RunLemmas.{changes-empty, gap-is}, SkipLemmas.{least-none, first-none}, SpaceLemmas.{leaf-halved, level-halved, space-kept, space-other, size-is, size-halved, space-made}}
use Rattle.std.proofs.{Common.{vec_len}, lemmas.Bool.Decides.{nat_tests}, lemmas.List.{get_or_read}}

pub ruleset skipped = (least-none, counted-none, first-none)

pub ruleset handed = (bound_at-same, bound_at-other)

pub ruleset parted = (parted-last, parted-middle)

pub ruleset key = (rank-is, nat_tests, key-found, key-missing)

pub ruleset leaf_halves = (rest-copied, middle-is, parts-low, parts-high, joined-low, joined-high, leaf-halved)

pub ruleset leaf_middle = (get_or_read, middle-is)

pub ruleset leaf_taken = (remove-rises, same-joined, beside-taken)

pub ruleset leaf_altered = (rank-bound, alters-none)

pub ruleset leaf_key = (rank-bound, begins-kept, same-items, rank-is, vec_len, insert-fresh, begins-put, begins-put_kept, same-put, joined-swap, joined-put)

pub ruleset two_put = (vec_len, two-put)

pub ruleset leaf_keys = (rank-bound, vec_len, same-items, two-rises, two-bounds, two-same, two-joined)

pub ruleset leaf_cut = (rank-bound, vec_len, rank-beyond, fresh-beyond, rank-put, next-put, cut-none, cut-end, cut-first, joined-more, joined-other, joined-swap, same-both, same-none)

pub ruleset leaf_begun = (begins-is)

pub ruleset leaf_read = (rank-bound, state-read)

pub ruleset leaf_new = (state-single)

pub ruleset level_changes = (level-bound, on-ok, level-changed, parts-kept, on-error, level-set)

pub ruleset in_level = (level-bound, space-kept)

pub ruleset parts_rewritten = (begins-bound, order-bound)

pub ruleset level_rewritten = (inner-within, inner-begins, at-low, at-high, high_rank-bound, none-is-any, high-some)

pub ruleset level_joins = (remove-rises, level-joined)

pub ruleset level_halves = (rest-copied, level-middle-is, level-low, level-high, low-parts, high-parts, level-halved)

pub ruleset level_middle = (get_or_read, level-middle-is)

pub ruleset level_tail = (level-tail)

pub ruleset level_splits = (level-same, level-set, vec_len, insert-fresh, level-split, level-bound, size-halved)

pub ruleset level_parts = (level-bound, space-kept, space-other, size-is)

pub ruleset level_space = (level-bound, same-both, level-set, on-ok, space-made)

pub ruleset level_begun = (level-has, level-bound, level-kept, level-set, level-begun, parts-begun, parts-begun_too, parts-cut, parts-cut_too)

pub ruleset level_read = (level-bound, level-read)

pub ruleset level_new = (level-single)

pub ruleset flagged_plain = (same-made, plain-joined)

pub ruleset page_changes = (changes-none, same-none, changes-altered)

pub ruleset none_changed = (changes-empty)

pub ruleset no_root = (gap-is)

pub ruleset start = (nat_tests, rank-front)
