-- What the faults of texts say of the bytes that were read.
use Rattle.std.{proofs.Common.{◌≡◌, ◌⊎◌, ℕ, ◌<◌, List, [], ◌∷◌, ◌++◌, length, get_or, Option, Some, None, Result, Ok, Err, IfErr, Contains, refl, sym, ◌∙◌, ap, subst, arith, inl, inr, append_assoc, append-nil}, proofs.lemmas.List.Elements.{Contains-push}, specs.Io.KnownBytes.{Consumes}}
use Rattle.pmf_event.specs.{declared.profile.Profile.{Profile}, Section.{Trace}}
use Rattle.pmf_verdict.specs.Checked.{Checked}
use Rattle.pmf_ledger.{specs.{declared.block_lines.{BlockFault.{BlockFault}, BlockFault.TheVariants.{Text, OutOfOrder}}, declared.loading.LedgerFault.{LedgerFault}, BlockReading.{GivesBlock, IsOutOfOrder, RefusesFront}, Loading.{Reading, fault_through, reading_through}}, proofs.lemmas.TextFrontLemmas.{reading_is}}
use Rattle.pmf_merge.{specs.{Feeding.{IsFed, IsFedWhole, IsTextFault}, Heads.{IsMerging}, Merging.{AreRead, HasToldProfile, IsMergeFaultOf}, Refusing.{IsFeedFault, IsOfNoText, IsReadFault}, declared.feed.Feed.{Feed}, declared.fault.MergeFault.{MergeFault}}, proofs.lemmas.FeedingLemmas.{unread_of}}
use Rattle.pmf_merge.specs.declared.fault.MergeFault.TheVariants as fault

-- a front of what was read was read
pub consumed_front : (start left : Option (List ℕ)) (text rest : List ℕ) → Consumes start left (text ++ rest) → (between : Option (List ℕ)) × Consumes start between text
consumed_front None left text rest whole = (None, tt)
consumed_front (Some xs) None text rest whole = absurd whole
consumed_front (Some xs) (Some ys) text rest whole = (Some (rest ++ ys), whole ∙ append_assoc text rest ys)

module _ (start left : Option (List ℕ)) (feed : Feed) (text : List ℕ) (r : Reading) (fed : IsFed start left feed text r) where
  -- what is refused of a piece
  pub text_refused : (found : BlockFault) → RefusesFront (text ++ unread_of feed) found → IsTextFault start found
  text_refused (Text found) refuses = λ of_text. (text ++ unread_of feed, left, fed.read, subst (λ xs. fault_through xs ≡ Some found) (append-nil (text ++ unread_of feed)) (refuses of_text []))
  text_refused (OutOfOrder name) refuses = (text ++ unread_of feed, left, fed.read, subst (λ xs. IsOutOfOrder (reading_through xs).blocks name) (append-nil (text ++ unread_of feed)) (refuses []))

  -- and at the end
  pub end_refused : (found : LedgerFault) → fault_through text ≡ Some found → IsTextFault start (Text found)
  end_refused found is = λ of_text. let front = consumed_front start left text (unread_of feed) fed.read in (text, front.0, front.1, is)

-- what is not read is not read of this text
pub of_read : (start : Option (List ℕ)) (index : ℕ) (found : MergeFault) → IsReadFault index found → IsFeedFault start index found
of_read start index (fault.Read of) is = is
of_read start index (fault.Text of found) is = absurd is
of_read start index (fault.ProfileMismatch of) is = absurd is
of_read start index (fault.Conflict name) is = absurd is
of_read start index (fault.Write written) is = absurd is
of_read start index fault.OutOfMemory is = tt

-- what is no text's is told of any texts
pub of_no_text : (starts : List (Option (List ℕ))) (found : MergeFault) → IsOfNoText found → IsMergeFaultOf starts found
of_no_text starts (fault.Read of) is = absurd is
of_no_text starts (fault.Text of found) is = absurd is
of_no_text starts (fault.ProfileMismatch of) is = absurd is
of_no_text starts (fault.Conflict name) is = absurd is
of_no_text starts (fault.Write written) is = tt
of_no_text starts fault.OutOfMemory is = tt

pub IfErr_map : {X E : Type 0} (P Q : E → Type 0) (result : Result X E) → IfErr result P → ((e : E) → P e → Q e) → IfErr result Q
IfErr_map P Q (Ok x) holds follows = tt
IfErr_map P Q (Err e) holds follows = follows e holds

-- one text's fault is one of the texts
pub of_feed : (starts : List (Option (List ℕ))) (index : ℕ) (start : Option (List ℕ)) (found : MergeFault) → index < length starts → get_or starts index None ≡ start → IsFeedFault start index found → IsMergeFaultOf starts found
of_feed starts index start (fault.Read of) below same here = subst (λ i. i < length starts) (sym here) below
of_feed starts index start (fault.Text of found) below same (here, is) = (subst (λ i. i < length starts) (sym here) below, subst (λ left. IsTextFault left found) (sym same ∙ ap (λ i. get_or starts i None) (sym here)) is)
of_feed starts index start (fault.ProfileMismatch of) below same is = absurd is
of_feed starts index start (fault.Conflict name) below same is = absurd is
of_feed starts index start (fault.Write written) below same is = absurd is
of_feed starts index start fault.OutOfMemory below same is = tt

-- what was read of a text, up to a section or to its end, tells its profile
pub told_by : (start left : Option (List ℕ)) (feed : Feed) (text : List ℕ) (r : Reading) → IsFed start left feed text r →
    (IsFedWhole start left text r ⊎ ((s : Trace) × Contains r.blocks s)) → HasToldProfile start r.profile
told_by start left feed text r fed so_far =
    let front = consumed_front start left text (unread_of feed) fed.read in
    let same = reading_is text feed.reader.front.items fed.taken.line r fed.taken.within in (
      text,
      front,
      ap (λ (e : Reading). e.profile) same,
      elim so_far [ inl whole ↦ inl whole.faultless | inr (s, found) ↦ inr (s, subst (λ ss. Contains ss s) (sym (ap (λ (e : Reading). e.blocks) same)) found) ],
    )

-- as does what is read up to the next one
pub told_next : (start left : Option (List ℕ)) (feed : Feed) (text : List ℕ) (r e : Reading) (given : Option Checked) → IsFed start left feed text e → GivesBlock r e given →
    (given ≡ None → IsFedWhole start left text e) → HasToldProfile start e.profile
told_next start left feed text r e None fed gives over = told_by start left feed text e fed (inl (over refl))
told_next start left feed text r e (Some v) fed (is, by) over = told_by start left feed text e fed (inr (v.section, subst (λ ss. Contains ss v.section) (sym is) (Contains-push r.blocks v.section)))

first_of : (feeds : List Feed) → 0 < length feeds → Feed
first_of [] some = absurd (omega (arith, some))
first_of (feed ∷ feeds) some = feed

-- the texts are read side by side
module _ (n : ℕ) (starts lefts : List (Option (List ℕ))) (feeds : List Feed) (heads : List (Option Checked)) (profile : Profile) (out : List Checked)
    (m : IsMerging n starts lefts feeds heads profile out) where
  feed_of : 0 < n → Feed
  feed_of some = let long = m.feeds_are in first_of feeds (omega (arith, some, long))

  -- what was taken of each was read
  pub is_read : (i : ℕ) → i < n → AreRead (get_or starts i None) (m.texts i)
  is_read i below =
      let fed = m.fed i (feed_of (omega (arith, below))) below in
      consumed_front (get_or starts i None) (get_or lefts i None) (m.texts i) (unread_of (get_or feeds i (feed_of (omega (arith, below))))) fed.read

  pub read_as : (i : ℕ) → i < n → reading_through (m.texts i) ≡ m.readings i
  read_as i below =
      let d = feed_of (omega (arith, below)) in
      let fed = m.fed i d below in reading_is (m.texts i) (get_or feeds i d).reader.front.items fed.taken.line (m.readings i) fed.taken.within

  -- and each tells the one profile
  pub tells_profile : (i : ℕ) → i < n → HasToldProfile (get_or starts i None) profile
  tells_profile i below =
      let d = feed_of (omega (arith, below)) in
      subst (HasToldProfile (get_or starts i None)) (m.by_one i below)
      (told_by (get_or starts i None) (get_or lefts i None) (get_or feeds i d) (m.texts i) (m.readings i) (m.fed i d below) (so_far (get_or heads i None) refl))
    where
      so_far : (head : Option Checked) → get_or heads i None ≡ head → IsFedWhole (get_or starts i None) (get_or lefts i None) (m.texts i) (m.readings i) ⊎ ((s : Trace) × Contains (m.readings i).blocks s)
      so_far None none = inl (m.over i below none)
      so_far (Some v) some = inr (v.section, (m.head i v below some).0)
