-- What is written to files, one text after another, and what is cut of a stream so far.
use Rattle.std.{proofs.Common.{inl, inr, ◌≡◌, ℕ, ◌==◌, if◌then◌else◌, List, [], ◌∷◌, ◌++◌, Option, refl, sym, ap, subst, ◌∙◌, append-nil, append_assoc, eq-eqb, ne_eqb}, proofs.lemmas.Bool.{cases_eq}, proofs.KnownBytes.{Appends-kept, Appends-nil, Appends-trans, Consumes-nil, Consumes-trans}, specs.Io.KnownBytes.{Appends, Consumes, IsAtEnd}}
use Rattle.pmf_cut.specs.{declared.cutter.Cutter.{Cutter}, declared.output.Text.{Text}, Outputs.{bytes_for}, Cutting.{HasCutAll, HasRead, handed_with, lost_in}}
use Rattle.pmf_stream.specs.Files.{AppendsEach, AppendsTo, CutsSoFar, IsCutOf, WritesOut}

bytes-push : (texts : List Text) (text : Text) (file : ℕ) → bytes_for (texts ++ text ∷ []) file ≡ bytes_for texts file ++ (if text.file == file then text.bytes.items else [])
bytes-push [] text file = append-nil (if text.file == file then text.bytes.items else [])
bytes-push (first ∷ texts) text file = ap (λ rest. (if first.file == file then first.bytes.items else []) ++ rest) (bytes-push texts text file) ∙ sym (append_assoc _ (bytes_for texts file) _)

-- one text more
pub each-more : (held mid holds : ℕ → Option (List ℕ)) (texts : List Text) (text : Text) → AppendsEach held mid (bytes_for texts) → AppendsTo mid holds text.file text.bytes.items →
    AppendsEach held holds (bytes_for (texts ++ text ∷ []))
each-more held mid holds texts text written more file = elim (cases_eq text.file file) [
  | inl same ↦ subst (Appends (held file) (holds file)) (sym (bytes-push texts text file ∙ rw (eq-eqb text.file file same) refl))
      (Appends-trans (held file) (mid file) (holds file) _ _ (written file) (subst (λ f. Appends (mid f) (holds f) text.bytes.items) same more.0))
  | inr apart ↦ subst (Appends (held file) (holds file)) (sym (bytes-push texts text file ∙ rw (ne_eqb text.file file apart) (append-nil (bytes_for texts file))))
      (Appends-kept (held file) (mid file) (holds file) _ (written file) (more.1 file (λ same. apart (sym same))))
]

-- nothing was read yet
pub so-far-none : (step : ℕ) (left : Option (List ℕ)) (held : ℕ → Option (List ℕ)) (cutter : Cutter) → HasRead step [] (λ file. []) cutter → CutsSoFar step left left held held cutter
so-far-none step left held cutter reads = record { log = []; consumed = Consumes-nil left; handed = λ file. []; written = λ file. Appends-nil (held file); reads = reads }

-- a piece was read, and what it gave was written
pub so-far-more : (step : ℕ) (left mid rest : Option (List ℕ)) (held here holds : ℕ → Option (List ℕ)) (old took new : Cutter) (piece : List ℕ) → CutsSoFar step left mid held here old → Consumes mid rest piece →
    ((step : ℕ) (log : List ℕ) (handed : ℕ → List ℕ) → HasRead step log handed old → HasRead step (log ++ piece) handed took) → WritesOut took new here holds → CutsSoFar step left rest held holds new
so-far-more step left mid rest held here holds old took new piece so_far consumed takes out = record {
  log = so_far.log ++ piece;
  consumed = Consumes-trans left mid rest so_far.log piece so_far.consumed consumed;
  handed = handed_with so_far.handed out.texts;
  written = λ file. Appends-trans (held file) (here file) (holds file) _ _ (so_far.written file) (out.written file);
  reads = out.drains.reads step _ _ (takes step _ _ so_far.reads);
}

-- the stream has ended
pub cut-of : (step : ℕ) (left rest last : Option (List ℕ)) (held here holds : ℕ → Option (List ℕ)) (old took new : Cutter) → CutsSoFar step left rest held here old → Consumes rest last [] → IsAtEnd last →
    ((step : ℕ) (log : List ℕ) (handed : ℕ → List ℕ) → HasRead step log handed old → HasCutAll step log handed took) → WritesOut took new here holds → (told : ℕ) → (told ≡ 0 → lost_in new.sections.items ≡ 0) →
    IsCutOf step left last held holds told
cut-of step left rest last held here holds old took new so_far none ended all out told lost = let is-cut = out.drains.ends step _ _ (all step _ _ so_far.reads) in record {
  log = so_far.log;
  consumed = subst (Consumes left last) (append-nil so_far.log) (Consumes-trans left rest last so_far.log [] so_far.consumed none);
  ended = ended;
  texts = handed_with so_far.handed out.texts;
  cut = record {
    parts = is-cut.parts;
    section = is-cut.section;
    whole = is-cut.whole;
    numbered = is-cut.numbered;
    of_it = is-cut.of_it;
    among = is-cut.among;
    nothing_else = is-cut.nothing_else;
    orders = λ is. is-cut.orders (ap (λ list. lost_in list.items) (sym out.drains.same) ∙ lost is);
  };
  written = λ file. Appends-trans (held file) (here file) (holds file) _ _ (so_far.written file) (out.written file);
}
