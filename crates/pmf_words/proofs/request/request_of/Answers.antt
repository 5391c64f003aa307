use Rattle.std.proofs.Common.{◌≡◌, ◌∙◌, Bool, true, List, [], ap, subst, sym, codes, map, bytes_eq, string_bytes}
use Rattle.clap.specs.{Words.{Text, app_of, fault_of, is_simple, is_simple_and_free, kind_of, subcommand_of}, declared.builder.{command.Command.{Command}, value_parser.ValueParser.{ValueParser}}}
use Rattle.pmf_words.{specs.Words.{HasWords, IsRefusedWith, IsRequestBy, IsRequestOf, names_all, names_patch, pmfarm_words, program_of}, proofs.RequestLemmas.{is_free-words, is_simple-words, any-map, passed_on, refused-by_parser, refused-itself}}
use Rattle.pmf_words.proofs.request.request_of.Goals as goal

-- the command that was made reads the words that were looked at
module _ (words : List Text) (all patch : Bool) (is_all : all ≡ names_all words) (is_patch : patch ≡ names_patch words) (p q r : ValueParser) (made : Command) (has : HasWords (pmfarm_words all patch p q r) made) where
  app : app_of made ≡ program_of words p q r
  app = has.app ∙ ap (λ (b : Bool). pmfarm_words b patch p q r) is_all ∙ ap (λ (b : Bool). pmfarm_words (names_all words) b p q r) is_patch

  simple : is_simple (app_of made) ≡ true
  simple = ap is_simple has.app ∙ is_simple-words all patch p q r

  free : is_simple_and_free (app_of made) ≡ true
  free = ap is_simple_and_free has.app ∙ is_free-words all patch p q r

  passed : fault_of (app_of made) words ≡ [] → fault_of (program_of words p q r) words ≡ []
  passed none = sym (ap (λ a. fault_of a words) app) ∙ none

pub returns : goal.returns
returns c =
    let made = c.in_ok-program.ensures in
    let words = map string_bytes c.args.words.now in
    let all : c.has_word-all.result ≡ names_all words = c.has_word-all.ensures ∙ any-map string_bytes (λ word. bytes_eq word (codes "--all")) c.args.words.now in
    let patch : c.has_word-patch.result ≡ names_patch words = c.has_word-patch.ensures ∙ any-map string_bytes (λ word. bytes_eq word (codes "--patch")) c.args.words.now in
    let command = c.in_ok-program.field-0 in
    let app_is = app words c.has_word-all.result c.has_word-patch.result all patch made.0 made.1 made.2 command made.3 in
    let named = (c.in_ok-matches.ensures.matches (simple words c.has_word-all.result c.has_word-patch.result all patch made.0 made.1 made.2 command made.3)).1 in
    let none = c.in_ok-matches.ensures.kinds (free words c.has_word-all.result c.has_word-patch.result all patch made.0 made.1 made.2 command made.3) in
    let request = c.in_ok-request.request in (
      made.0,
      made.1,
      made.2,
      passed words c.has_word-all.result c.has_word-patch.result all patch made.0 made.1 made.2 command made.3 none,
      λ command rows is.
          subst (λ (b : Bool). IsRequestBy (names_all words) b command rows request) patch
          (subst (λ (b : Bool). IsRequestBy b c.has_word-patch.result command rows request) all
          (c.in_ok-request.ensures command rows (named ∙ ap (λ a. subcommand_of a words) app_is ∙ is))),
    )

pub returns-in_err-matches : goal.returns-in_err-matches
returns-in_err-matches c =
    let made = c.in_ok-program.ensures in
    let words = map string_bytes c.args.words.now in
    let all : c.has_word-all.result ≡ names_all words = c.has_word-all.ensures ∙ any-map string_bytes (λ word. bytes_eq word (codes "--all")) c.args.words.now in
    let patch : c.has_word-patch.result ≡ names_patch words = c.has_word-patch.ensures ∙ any-map string_bytes (λ word. bytes_eq word (codes "--patch")) c.args.words.now in
    let command = c.in_ok-program.field-0 in
    let is_free = free words c.has_word-all.result c.has_word-patch.result all patch made.0 made.1 made.2 command made.3 in
    passed_on (IsRequestOf words) (λ e. IsRefusedWith words (kind_of e)) c.from_residual-in_err-matches.result c.in_err-matches.field-0.0 c.from_residual-in_err-matches.ensures
    (refused-by_parser words made.0 made.1 made.2 (app_of command) c.in_err-matches.field-0.0 (app words c.has_word-all.result c.has_word-patch.result all patch made.0 made.1 made.2 command made.3) (c.in_err-matches.ensures.kinds is_free))

pub returns-in_err-request : goal.returns-in_err-request
returns-in_err-request c =
    let made = c.in_ok-program.ensures in
    let words = map string_bytes c.args.words.now in
    let all : c.has_word-all.result ≡ names_all words = c.has_word-all.ensures ∙ any-map string_bytes (λ word. bytes_eq word (codes "--all")) c.args.words.now in
    let patch : c.has_word-patch.result ≡ names_patch words = c.has_word-patch.ensures ∙ any-map string_bytes (λ word. bytes_eq word (codes "--patch")) c.args.words.now in
    let command = c.in_ok-program.field-0 in
    let none = c.in_ok-matches.ensures.kinds (free words c.has_word-all.result c.has_word-patch.result all patch made.0 made.1 made.2 command made.3) in
    passed_on (IsRequestOf words) (λ e. IsRefusedWith words (kind_of e)) c.from_residual-in_err-request.result c.in_err-request.field-0.0 c.from_residual-in_err-request.ensures
    (refused-itself words made.0 made.1 made.2 c.in_err-request.field-0.0 (passed words c.has_word-all.result c.has_word-patch.result all patch made.0 made.1 made.2 command made.3 none) c.in_err-request.ensures)
