-- What stands behind the last separator of a log.
use Rattle.std.proofs.{Common.{◌≡◌, ℕ, ◌+◌, ◌-◌, ◌<◌, ◌≤◌, true, false, List, [], ◌∷◌, ◌++◌, length, take, drop, get_or, refl, sym, ap, subst, ◌∙◌, arith, slice_index_or, length-append, take-append-drop}, lemmas.List.{drop_more, take_more}, Math.Seq.{drop-length}, lemmas.Grind.{common_steps}}
use Rattle.pmf_storelog.{specs.Separators.{ended_parts, is_separator, parts_of, trimmed}, proofs.PartLemmas.{parts_of-ended, parts_of-nil, parts_of-open, unfinished}}
use Rattle.pmf_lint.specs.Ending.{last_part}

pub nothing_behind : (bytes : List ℕ) → parts_of (drop (length bytes) bytes) ≡ drop (length bytes) bytes ∷ []
nothing_behind bytes = subst (λ xs. parts_of xs ≡ xs ∷ []) (sym (drop-length bytes)) parts_of-nil

-- one byte more in front, which ends no record
longer_by : (c : ℕ) (rest : List ℕ) → is_separator c ≡ false → parts_of rest ≡ rest ∷ [] → parts_of (c ∷ rest) ≡ (c ∷ rest) ∷ []
unfolding parts_of
longer_by c rest other one = grind (arith, common_steps)

longer_at : (bytes : List ℕ) (k : ℕ) → k < length bytes → is_separator (get_or bytes k 0) ≡ false → parts_of (drop (k + 1) bytes) ≡ drop (k + 1) bytes ∷ [] → parts_of (drop k bytes) ≡ drop k bytes ∷ []
longer_at bytes k within other one = subst (λ xs. parts_of xs ≡ xs ∷ []) (sym (drop_more bytes k 0 within)) (longer_by (get_or bytes k 0) (drop (k + 1) bytes) other one)

pub longer_behind : (bytes : List ℕ) (start : ℕ) → 0 < start → start ≤ length bytes → is_separator (get_or bytes (start - 1) 0) ≡ false → parts_of (drop start bytes) ≡ drop start bytes ∷ [] →
    parts_of (drop (start - 1) bytes) ≡ drop (start - 1) bytes ∷ []
longer_behind bytes start some within other one =
    let next : start ≡ start - 1 + 1 = omega arith in longer_at bytes (start - 1) (omega arith) other (subst (λ n. parts_of (drop n bytes) ≡ drop n bytes ∷ []) next one)

there_is : (front : List (List ℕ)) (part : List ℕ) → slice_index_or (front ++ part ∷ []) (length front) [] ≡ part
there_is [] part = refl
there_is (x ∷ front) part = there_is front part

last_at : (front : List (List ℕ)) (part : List ℕ) → slice_index_or (front ++ part ∷ []) (length (front ++ part ∷ []) - 1) [] ≡ part
last_at front part =
    let place : length (front ++ part ∷ []) - 1 ≡ length front = omega (arith, length-append front (part ∷ [])) in
    ap (λ n. slice_index_or (front ++ part ∷ []) n []) place ∙ there_is front part

-- the last part is the whole log, where no separator stands in it
pub whole_last : (bytes : List ℕ) (start : ℕ) → start ≡ 0 → parts_of (drop start bytes) ≡ drop start bytes ∷ [] → trimmed (drop start bytes) ≡ last_part bytes
unfolding last_part
whole_last bytes start none one =
    let whole : drop start bytes ≡ bytes = ap (λ n. drop n bytes) none in
    ap (λ xs. trimmed xs) whole ∙ sym (ap (λ parts. trimmed (slice_index_or parts (length parts - 1) [])) (subst (λ xs. parts_of xs ≡ xs ∷ []) whole one))

-- the parts of one byte that ends a record
alone : (c : ℕ) → is_separator c ≡ true → parts_of (c ∷ []) ≡ [] ∷ [] ∷ []
unfolding parts_of
alone c ends = grind (arith, common_steps)

behind_at : (bytes : List ℕ) (k : ℕ) → k < length bytes → is_separator (get_or bytes k 0) ≡ true → parts_of (drop (k + 1) bytes) ≡ drop (k + 1) bytes ∷ [] → trimmed (drop (k + 1) bytes) ≡ last_part bytes
unfolding last_part
behind_at bytes k within ends one =
    let before = unfinished (take k bytes) in
    let front : take (k + 1) bytes ≡ take k bytes ++ get_or bytes k 0 ∷ [] = take_more bytes k 0 within in
    let ended = parts_of-ended (take k bytes) (get_or bytes k 0 ∷ []) before.0 [] before.1 (alone (get_or bytes k 0) ends) in
    let whole = parts_of-open (take k bytes ++ get_or bytes k 0 ∷ []) (drop (k + 1) bytes) [] ended one in
    let all : (take k bytes ++ get_or bytes k 0 ∷ []) ++ drop (k + 1) bytes ≡ bytes = ap (λ xs. xs ++ drop (k + 1) bytes) (sym front) ∙ take-append-drop (k + 1) bytes in
    let parts : parts_of bytes ≡ ended_parts ((take k bytes ++ get_or bytes k 0 ∷ []) ++ drop (k + 1) bytes) ++ drop (k + 1) bytes ∷ [] = ap parts_of (sym all) ∙ whole in
    sym (ap (λ ps. trimmed (slice_index_or ps (length ps - 1) [])) parts ∙ ap (λ p. trimmed p) (last_at (ended_parts ((take k bytes ++ get_or bytes k 0 ∷ []) ++ drop (k + 1) bytes)) (drop (k + 1) bytes)))

-- and else what follows the separator before it
pub behind_last : (bytes : List ℕ) (start : ℕ) → 0 < start → start ≤ length bytes → is_separator (get_or bytes (start - 1) 0) ≡ true → parts_of (drop start bytes) ≡ drop start bytes ∷ [] → trimmed (drop start bytes) ≡ last_part bytes
behind_last bytes start some within ends one =
    let next : start - 1 + 1 ≡ start = omega arith in
    subst (λ n. trimmed (drop n bytes) ≡ last_part bytes) next (behind_at bytes (start - 1) (omega arith) ends (subst (λ n. parts_of (drop n bytes) ≡ drop n bytes ∷ []) (sym next) one))
