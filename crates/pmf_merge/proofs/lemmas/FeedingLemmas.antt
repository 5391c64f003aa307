-- A piece of which some bytes were taken.
use Rattle.std.{proofs.Common.{◌≡◌, ℕ, Bool, true, false, is_some, if◌then◌else◌, ◌^◌, ◌+◌, ◌-◌, ◌<◌, ◌≤◌, List, ◌++◌, length, take, drop, Option, Some, None, refl, sym, ◌∙◌, ap, subst, arith, append_assoc, append-nil}, proofs.lemmas.List.{drop-drop, drop-take, length-drop, length-take-le, take-append-drop}, proofs.lemmas.Grind.{common_steps}, specs.Io.KnownBytes.{Consumes, IsAtEnd}}
use Rattle.pmf_ledger.specs.{Loading.{Reading, fault_through, reading_through}}
use Rattle.pmf_merge.specs.{Feeding.{IsFed, IsFedWhole}, declared.feed.Feed.{Feed}}

-- what was read and not taken
abbrev pub unread_of : Feed → List ℕ
unread_of feed = take (feed.end - feed.at) (drop feed.at feed.piece.items)

rest_of_piece : (piece : List ℕ) (at end n : ℕ) → at ≤ end → n ≤ end - at → take (end - (at + n)) (drop (at + n) piece) ≡ drop n (take (end - at) (drop at piece))
rest_of_piece piece at end n rises few =
    let all : end - at ≡ n + (end - (at + n)) = omega (arith, rises, few) in
    let joint : drop n (drop at piece) ≡ drop (at + n) piece = grind (arith, common_steps, drop-drop) in
    ap (λ xs. take (end - (at + n)) xs) (sym joint) ∙ sym (drop-take n (end - (at + n)) (drop at piece)) ∙ ap (λ k. drop n (take k (drop at piece))) (sym all)

module _ (start left : Option (List ℕ)) (feed : Feed) (text : List ℕ) (r : Reading) (fed : IsFed start left feed text r) where
  pub unread_length : length (unread_of feed) ≡ feed.end - feed.at
  unread_length =
      let rises = fed.rises in let within = fed.within in let long = length-drop feed.at feed.piece.items in
      length-take-le (feed.end - feed.at) (drop feed.at feed.piece.items) (omega (arith, rises, within, long))

  -- some more are taken
  pub more_taken : (n : ℕ) → n ≤ length (unread_of feed) →
      (feed.at + n ≤ feed.end) × Consumes start left ((text ++ take n (unread_of feed)) ++ take (feed.end - (feed.at + n)) (drop (feed.at + n) feed.piece.items))
  more_taken n few =
      let rises = fed.rises in let long = unread_length in
      let count : n ≤ feed.end - feed.at = omega (arith, few, long) in
      let rest = rest_of_piece feed.piece.items feed.at feed.end n rises count in (
        omega (arith, rises, count),
        subst (Consumes start left)
            (sym (ap (λ xs. (text ++ take n (unread_of feed)) ++ xs) rest ∙ append_assoc text (take n (unread_of feed)) (drop n (unread_of feed))
            ∙ ap (λ xs. text ++ xs) (take-append-drop n (unread_of feed)))) fed.read,
      )

  -- up to a place of the piece
  pub taken_to : (to : ℕ) → feed.at ≤ to → to ≤ length (take feed.end feed.piece.items) →
      (to ≤ feed.end) × Consumes start left ((text ++ take (to - feed.at) (drop feed.at (take feed.end feed.piece.items))) ++ take (feed.end - to) (drop to feed.piece.items))
  taken_to to rise below =
      let rises = fed.rises in let long = unread_length in let all = length-take-le feed.end feed.piece.items fed.within in
      let place : feed.at + (to - feed.at) ≡ to = omega (arith, rise) in
      let end : feed.end ≡ feed.at + (feed.end - feed.at) = omega (arith, rises) in
      let same : unread_of feed ≡ drop feed.at (take feed.end feed.piece.items) =
      sym (ap (λ n. drop feed.at (take n feed.piece.items)) end ∙ drop-take feed.at (feed.end - feed.at) feed.piece.items) in
      let parts = more_taken (to - feed.at) (omega (arith, rise, below, all, long)) in
      let bytes = subst (λ xs. Consumes start left ((text ++ take (to - feed.at) xs) ++ take (feed.end - (feed.at + (to - feed.at))) (drop (feed.at + (to - feed.at)) feed.piece.items))) same parts.1 in
      (omega (arith, below, all), subst (λ n. Consumes start left ((text ++ take (to - feed.at) (drop feed.at (take feed.end feed.piece.items))) ++ take (feed.end - n) (drop n feed.piece.items))) place bytes)

  -- the end of the text
  pub fed_whole : IsAtEnd left → feed.at ≡ feed.end → fault_through text ≡ None → reading_through text ≡ r → IsFedWhole start left text r
  fed_whole ended all faultless is =
      let none : feed.end - feed.at ≡ 0 = omega (arith, all) in
      record { whole = subst (Consumes start left) (ap (λ k. text ++ take k (drop feed.at feed.piece.items)) none ∙ append-nil text) fed.read; ended = ended; faultless = faultless; reading_is = is }

pub no_some : {X : Type 0} (found : Option X) → is_some found ≡ false → found ≡ None
no_some None is = refl
no_some (Some x) is = let wrong : true ≡ false = is in cc

-- a piece more was read, or there is none
pub measure_less : (old new : ℕ) (more then_more : Bool) → more ≡ true → old + (if then_more then 1 else 0) ≤ new → new < 2 ^ 64 →
    2 ^ 64 - new + (if then_more then 1 else 0) < 2 ^ 64 - old + (if more then 1 else 0)
measure_less old new more true is rises few = rw is (omega (arith, rises, few))
measure_less old new more false is rises few = rw is (omega (arith, rises, few))
