-- What the writing of a command's text says of its answer.
use Rattle.std.proofs.Common.{List, ℕ, subst, sym, Option, Result, Ok, Err}
use Rattle.pmf_stream.specs.{declared.fault.StreamFault.{StreamFault}, Answering.{Answers, Writes}}
use Rattle.pmf_stream.specs.declared.fault.StreamFault.TheVariants as fault

pub Answers-written : {T E : Type 0} (IsText : T → List ℕ → Type 0) (IsRefusal : E → Type 0) (held holds : Option (List ℕ)) (done : T) (text : List ℕ) (result : Result T (StreamFault E)) →
    IsText done text → Writes done text held holds result → Answers IsText IsRefusal held holds result
Answers-written IsText IsRefusal held holds done text (Ok told) is written = (text, subst (λ t. IsText t text) (sym written.0) is, written.1)
Answers-written IsText IsRefusal held holds done text (Err (fault.WriteFault count)) is written = (done, text, is, written.0, written.1)
Answers-written IsText IsRefusal held holds done text (Err fault.ReadFault) is written = absurd written
Answers-written IsText IsRefusal held holds done text (Err (fault.Refused found)) is written = absurd written
Answers-written IsText IsRefusal held holds done text (Err fault.OutOfMemory) is written = absurd written
