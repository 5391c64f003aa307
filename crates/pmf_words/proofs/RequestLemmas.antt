-- What the matches of a command say of its options, and what the parts of a command have to do with its words.
use Rattle.std.{proofs.Common.{◌≡◌, ℕ, ◌<◌, ◌^◌, Bool, List, [], ◌∷◌, ◌||◌, refl, sym, ◌∙◌, ap, subst, Option, Some, None, Result, Ok, Err, option_map, map, codes, true, false, Bor, unwrap_or, IfOk, decimal, inl, inr}, specs.Prelude.{IsErr, IsErrAnd, MatchResult}, specs.List.{list_any}, specs.Str.Parse.{ParsesUnsigned, ExplainsUnsignedError, HasUnsignedDigitsIfOk}, proofs.lemmas.Bool.{true≢false}, proofs.lemmas.Fmt.{parse-decimal}, specs.declared.alloc.AllocError.{AllocError}, specs.declared.num.ParseIntError.{ParseIntError}}
use Rattle.clap.{specs.Matches.{ReadsOne}, specs.declared.parser.matches.Found.{Found}, specs.Words.{Text, one_text, rows_of, rule_of, with_rule, with_subcommand, app_of, AddsArg, AddsSubcommand, App, HasKind, IsAmong, Rule, fault_of, is_simple, is_simple_and_free, kind_of}, specs.declared.builder.arg.Arg.{Arg}, specs.declared.builder.command.Command.{Command}, specs.declared.builder.value_parser.ValueParser.{ValueParser}, specs.declared.error.Error.{Error}, proofs.OnLiterals.{clap_on_literals}, proofs.WalkLemmas.{one_text-rows}}
use Rattle.pmf_words.specs.Words.{HasWords, IsMaybeNumberOf, IsNumberOf, IsFlagOf, IsRefusedWith, own_kinds, pmfarm_words, program_of}

ok-same : {E : Type 0} (r : Result ℕ E) (v k : ℕ) → r ≡ Ok v → r ≡ Ok k → v ≡ k
ok-same r v k a b = cc

err-other : {E : Type 0} (r : Result ℕ E) (e : E) (k : ℕ) → r ≡ Err e → r ≡ Ok k → ⊥
err-other r e k a b = cc

number-of-ok : (E : Type 0) (bits v k : ℕ) → k < 2 ^ 64 → k < 2 ^ bits → ParsesUnsigned {E = E} bits 10 (decimal k) (Ok v) → v ≡ k
number-of-ok E bits v k small below read = ok-same {E = E} (Ok v) v k refl (parse-decimal bits k (decimal k) (Ok v) below small refl read)

pub number-named : (bits : ℕ) (f : Found) (name : Text) (o : Option ℕ) (n d : ℕ) → ((k : ℕ) → k < 2 ^ bits → k < 2 ^ 64) →
    ((t : List ℕ) → one_text f name ≡ Some t → ReadsOne (λ bs r. ParsesUnsigned bits 10 bs r × ExplainsUnsignedError 10 bs r × HasUnsignedDigitsIfOk bs r) t o) →
    n ≡ unwrap_or o d → IsNumberOf (rows_of f) name bits n
number-named bits f name None n d small reads is k below named =
    let read = reads (decimal k) (one_text-rows f name ∙ named) in
    absurd (err-other _ read.0 k refl (parse-decimal bits k (decimal k) _ below (small k below) refl read.1.0))
number-named bits f name (Some v) n d small reads is k below named =
    let read = reads (decimal k) (one_text-rows f name ∙ named) in
    is ∙ number-of-ok ParseIntError bits v k (small k below) below read.0

-- the same of an option that may be left out
pub maybe-number-named : (bits : ℕ) (f : Found) (name : Text) (o : Option ℕ) → ((k : ℕ) → k < 2 ^ bits → k < 2 ^ 64) →
    (one_text f name ≡ None → o ≡ None) →
    ((t : List ℕ) → one_text f name ≡ Some t → ReadsOne (λ bs r. ParsesUnsigned bits 10 bs r × ExplainsUnsignedError 10 bs r × HasUnsignedDigitsIfOk bs r) t o) →
    IsMaybeNumberOf (rows_of f) name bits o
maybe-number-named bits f name None small none reads = record {
  given = λ k below named. absurd (err-other _ (reads (decimal k) (one_text-rows f name ∙ named)).0 k refl (parse-decimal bits k (decimal k) _ below (small k below) refl (reads (decimal k) (one_text-rows f name ∙ named)).1.0));
  left_out = λ _. refl;
}
maybe-number-named bits f name (Some v) small none reads = record {
  given = λ k below named. ap Some (number-of-ok ParseIntError bits v k (small k below) below (reads (decimal k) (one_text-rows f name ∙ named)).0);
  left_out = λ named. none (one_text-rows f name ∙ named);
}

-- no flag is both
pub not-both : {P : Type 0} (b : Bool) → b ≡ true → b ≡ false → P
not-both b is_set is_clear = absurd (true≢false (sym is_set ∙ is_clear))

pub flag-named : (f : Found) (name : Text) (flag : Bool) → (one_text f name ≡ Some (codes "true") → flag ≡ true) →
    (one_text f name ≡ Some (codes "false") → flag ≡ false) → IsFlagOf (rows_of f) name flag
flag-named f name flag given left_out = record {
  given = λ is. given (one_text-rows f name ∙ is);
  left_out = λ is. left_out (one_text-rows f name ∙ is);
}

-- a command with one argument more, and with one subcommand more
pub words-arg : (old new : Command) (a : Arg) (words : App) (r : Rule) → HasWords words old → AddsArg old a new → rule_of a ≡ r → a.global ≡ false → HasWords (with_rule words r) new
words-arg old new a words r has adds is local = record {
  app = adds.shape local ∙ ap (λ w. with_rule w (rule_of a)) has.app ∙ ap (with_rule words) is;
  local = adds.globals ∙ rw (has.local, local) refl;
}

pub words-subcommand : (old new sub : Command) (words more : App) → HasWords words old → HasWords more sub → AddsSubcommand old sub new → HasWords (with_subcommand words more.top) new
words-subcommand old new sub words more has own adds = record {
  app = adds.shape own.local ∙ ap (λ w. with_subcommand w (app_of sub).top) has.app ∙ ap (λ (a : App). with_subcommand words a.top) own.app;
  local = adds.globals ∙ rw (has.local, own.local) refl;
}

ok-is : {X E : Type 0} (x y : X) → ◌≡◌ {A = Result X E} (Ok x) (Ok y) → y ≡ x
ok-is x y e = cc

-- the same where memory sufficed
pub added-arg : (old r : Result Command AllocError) (a : Arg) (words : App) (rule : Rule) → IfOk old (HasWords words) → rule_of a ≡ rule → a.global ≡ false →
    IfOk r (λ made. (c : Command) × (b : Arg) × (old ≡ Ok c) × (◌≡◌ {A = Result Arg AllocError} (Ok a) (Ok b)) × AddsArg c b made) → IfOk r (HasWords (with_rule words rule))
added-arg old (Err e) a words rule has is local adds = adds
added-arg old (Ok made) a words rule has is local (c, b, e, same, adds) =
    words-arg c made a words rule (subst (λ o. IfOk o (HasWords words)) e has) (subst (λ x. AddsArg c x made) (ok-is {E = AllocError} a b same) adds) is local

pub added-subcommand : (old sub r : Result Command AllocError) (words more : App) → IfOk old (HasWords words) → IfOk sub (HasWords more) →
    IfOk r (λ made. (c : Command) × (d : Command) × (old ≡ Ok c) × (sub ≡ Ok d) × AddsSubcommand c d made) → IfOk r (HasWords (with_subcommand words more.top))
added-subcommand old sub (Err e) words more has own adds = adds
added-subcommand old sub (Ok made) words more has own (c, d, e, f, adds) =
    words-subcommand c made d words more (subst (λ o. IfOk o (HasWords words)) e has) (subst (λ o. IfOk o (HasWords more)) f own) adds

-- the word of an option, and the words of an argument with several
pub text-named : (o : Option (Bor Text)) (d : Bor Text) (t : Text) → option_map (λ s. s.now) o ≡ Some t → (unwrap_or o d).now ≡ t
text-named None d t is = let bad : None ≡ Some t = is in cc
text-named (Some s) d t is = let same : Some s.now ≡ Some t = is in cc

pub texts-named : (o : Option (Bor (List (Bor Text)))) (d : Bor (List (Bor Text))) (ts : Option (List Text)) → d.now ≡ [] → option_map (λ s. map (λ v. v.now) s.now) o ≡ ts → map (λ v. v.now) (unwrap_or o d).now ≡ unwrap_or ts []
texts-named None d ts none is = subst (λ o. map (λ v. v.now) d.now ≡ unwrap_or o []) is (ap (map (λ v. v.now)) none)
texts-named (Some s) d ts none is = ap (λ o. unwrap_or o []) is

-- ---- the words of the program

pub any-map : {X : Type 0} (f : X → Text) (p : Text → Bool) (xs : List X) → list_any (λ x. p (f x)) xs ≡ list_any p (map f xs)
any-map f p [] = refl
any-map f p (x ∷ xs) = ap (λ b. p (f x) || b) (any-map f p xs)

pub is_simple-words : (all patch : Bool) (p q r : ValueParser) → is_simple (pmfarm_words all patch p q r) ≡ true
unfolding clap_on_literals
is_simple-words true true p q r = refl
is_simple-words true false p q r = refl
is_simple-words false true p q r = refl
is_simple-words false false p q r = refl

pub is_free-words : (all patch : Bool) (p q r : ValueParser) → is_simple_and_free (pmfarm_words all patch p q r) ≡ true
unfolding clap_on_literals
is_free-words true true p q r = refl
is_free-words true false p q r = refl
is_free-words false true p q r = refl
is_free-words false false p q r = refl

-- an error that is passed on
pub passed_on : {X E : Type 0} (Done : X → Type 0) (Why : E → Type 0) (result : Result X E) (e : E) → IsErr result × IsErrAnd result (λ other. other ≡ e) → Why e → MatchResult result Done Why
passed_on Done Why (Ok done) e is because = absurd cc
passed_on Done Why (Err other) e is because = subst Why (sym is.1) because

-- an error of the parser, and one of the program's own
pub refused-by_parser : (words : List Text) (p q r : ValueParser) (a : App) (e : Error) → a ≡ program_of words p q r → HasKind (fault_of a words) e → IsRefusedWith words (kind_of e)
refused-by_parser words p q r a e is (inl memory) = inl memory
refused-by_parser words p q r a e is (inr among) = inr (p, q, r, inl (subst (λ b. IsAmong (kind_of e) (fault_of b words)) is among))

pub refused-itself : (words : List Text) (p q r : ValueParser) (e : Error) → fault_of (program_of words p q r) words ≡ [] → HasKind own_kinds e → IsRefusedWith words (kind_of e)
refused-itself words p q r e passed (inl memory) = inl memory
refused-itself words p q r e passed (inr among) = inr (p, q, r, inr (passed, among))
