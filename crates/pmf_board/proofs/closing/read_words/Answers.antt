use Rattle.std.{proofs.Common.{rules, ◌≡◌, ◌<◌, ◌++◌, ◌∷◌, [], length, ◌∙◌, subst}, specs.Mem.Slots.{slots_items}}
use Rattle.pmf_board.{specs.Rule.{entry_of}, proofs.lemmas.CloseLemmas.{read_more}}
use Rattle.pmf_board.proofs.closing.read_words.Goals as goal

pub loop-section-preserved : goal.loop-section-preserved
loop-section-preserved c =
    let words = slots_items c.args.closed.now.words in
    let below = c.loop-section-test.true in
    let within : c.loop-section.section < length words = subst (λ n. c.loop-section.section < n) (c.requires.all ∙ c.args.closed.now.words.ok.0) (search rules) in
    let more : c.push_reserved.new.self.items ≡ c.loop-section.entries.items ++ entry_of c.word-word.result ∷ [] = search rules in
    record {
      so_far = read_more words c.loop-section.section c.word-word.result _ _ within c.word-word.ensures c.loop-section.invariant.so_far more;
      within = search rules;
      room = search rules;
    }
