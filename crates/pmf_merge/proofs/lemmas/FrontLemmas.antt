-- What is written where a merge stops: a front of a text.
use Rattle.std.{proofs.{Common.{◌≡◌, ℕ, ◌≤◌, List, [], ◌++◌, length, take, Option, refl, sym, ap, subst, ◌∙◌, arith, append_assoc, take_at}, lemmas.List.{take-append-le}, KnownBytes.{Appends-nil}}, specs.Io.KnownBytes.{Appends}}
use Rattle.pmf_device.specs.{declared.page.{Page.{Page}, Stop.{Stop}}, Pages.{IsPage, StopsIn}}
use Rattle.pmf_device.specs.declared.page.Stop.TheVariants as stop
use Rattle.pmf_event.specs.declared.profile.Profile.{Profile}
use Rattle.pmf_event.specs.declared.profile.Profile.TheVariants.{One}
use Rattle.pmf_verdict.specs.Checked.{Checked}
use Rattle.pmf_ledger.specs.{LedgerText.{text_of_end}, RawText.{RawBlock, text_on_trust}, Telling.{text_behind}, declared.form.Form.{Form}}
use Rattle.pmf_merge.specs.{RawWritten.{IsRawWritten, IsTextOfBlocks}, Refusing.{WritesFront}, Written.{IsTextOfSome, IsWritten}, declared.{raw_written.RawWritten.{RawWritten}, written.Written.{Written}}}

module _ (IsText : List ℕ → Type 0) (text : List ℕ) (is : IsText text) where
  -- nothing was written
  pub front-none : (held : Option (List ℕ)) → WritesFront IsText held held
  front-none held = (text, 0, is, Appends-nil held)

  -- so far it was written
  pub front-kept : (held holds : Option (List ℕ)) (front rest behind : List ℕ) (page : Page) → text ≡ (front ++ rest) ++ behind → IsPage held holds front page → WritesFront IsText held holds
  front-kept held holds front rest behind page whole so_far =
      let all = whole ∙ append_assoc front rest behind in
      (text, length front, is, subst (Appends held holds) (sym (ap (take (length front)) all ∙ take_at front (rest ++ behind) (length front) refl)) so_far.written)

  -- so many bytes of what was made of it
  front-of : (held holds : Option (List ℕ)) (made rest : List ℕ) (count : ℕ) → text ≡ made ++ rest → count ≤ length made → Appends held holds (take count made) → WritesFront IsText held holds
  front-of held holds made rest count whole within some = (text, count, is, subst (Appends held holds) (sym (ap (take count) whole ∙ take-append-le count made rest within)) some)

  -- a write stopped
  pub front-stopped : (held holds : Option (List ℕ)) (made rest : List ℕ) (stop : Stop) → text ≡ made ++ rest → StopsIn (λ so. so ≡ made) held holds stop → WritesFront IsText held holds
  front-stopped held holds made rest (stop.Failed written) whole (so, same, within, some) =
      front-of held holds made rest written whole (let long = ap length same in omega (arith, within, long)) (subst (λ xs. Appends held holds (take written xs)) same some)
  front-stopped held holds made rest stop.OutOfMemory whole (so, written, same, within, some) =
      front-of held holds made rest written whole (let long = ap length same in omega (arith, within, long)) (subst (λ xs. Appends held holds (take written xs)) same some)

-- so it is where nothing was told yet, and of the sections that were told
pub front_of_none : (form : Form) (held : Option (List ℕ)) → WritesFront (IsTextOfSome form) held held
front_of_none form held = front-none (IsTextOfSome form) _ (One, [], refl) held

pub front_of_some : (form : Form) (profile : Profile) (held holds : Option (List ℕ)) (out : List Checked) (written : Written) → IsWritten form profile held holds out written → WritesFront (IsTextOfSome form) held holds
front_of_some form profile held holds out written is =
    front-kept (IsTextOfSome form) _ (profile, out, refl) held holds is.front _ (text_behind form out) written.page (ap (λ xs. xs ++ text_behind form out) (sym is.whole)) is.page

-- the same of blocks as they stand
pub front_of_no_block : (held : Option (List ℕ)) → WritesFront IsTextOfBlocks held held
front_of_no_block held = front-none IsTextOfBlocks _ (One, [], refl) held

pub front_of_blocks : (profile : Profile) (held holds : Option (List ℕ)) (out : List RawBlock) (written : RawWritten) → IsRawWritten profile held holds out written → WritesFront IsTextOfBlocks held holds
front_of_blocks profile held holds out written is =
    front-kept IsTextOfBlocks (text_on_trust profile out) (profile, out, refl) held holds is.front _ (text_of_end (length out)) written.page (ap (λ xs. xs ++ text_of_end (length out)) (sym is.whole)) is.page
