use Rattle.std.proofs.Common.{◌≡◌, Some, refl, sym, subst, ◌∙◌}
use Rattle.pmf_event.specs.declared.name.Name.{Name}
use Rattle.pmf_ledger.specs.{Names.{IsBefore}, RawText.{raw_of}}
use Rattle.pmf_merge.{specs.RawFeeding.{rest_of}, proofs.lemmas.RawFeedLemmas.{kept_rises, no_text_falls, not_less}, proofs.raw_feed.RawFeed.keep.Goals.{in-Some+in-Less, in_default}}
use Rattle.pmf_merge.proofs.raw_feed.RawFeed.keep.Goals as goal

pub returns-in_default-order : goal.returns-in_default-order
returns-in_default-order c =
    let order = c.order.ensures in
    let falls = not_less c.order.result c.in-Some.last c.args.found.name c.in_default-order.not-Less order.equal order.greater in
    record {
      kept = λ start left told fed. tt;
      refused = λ start left told fed. (refl, no_text_falls start left told c.args.self.now fed c.args.found c.in-Some.last c.requires c.in-Some.is falls);
      profile = refl;
    }

pub returns-clause-kept : goal.returns-clause-kept
returns-clause-kept c = λ start left told fed.
    let after : (name : Name) → c.args.self.now.last ≡ Some name → IsBefore name c.args.found.name =
    λ name is. elim c.match-self.branch [
      | in-Some+in-Less w ↦
          let both : Some w.in-Some.last ≡ Some name = sym w.in-Some.is ∙ is in let same : w.in-Some.last ≡ name = cc in
          subst (λ n. IsBefore n c.args.found.name) same (w.order.ensures.less w.in-Less.is)
      | in_default w ↦ absurd (w.in_default.not-Some name is)
    ] in
    record {
      fed = record { front = fed.front; begins = fed.begins; read = fed.read; count = fed.count; last = fed.last };
      next = (c.requires, kept_rises start left told c.args.self.now fed (raw_of (rest_of c.args.self.now.unread) c.args.found) after);
    }
