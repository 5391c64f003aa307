use Rattle.std.proofs.{Common.{refl, sym, ◌∙◌}, lemmas.Bool.{false≢true}}
use Rattle.pmf_stream.proofs.lemmas.BesideLemmas.{gone_on}
use Rattle.pmf_stream.proofs.checking.WatchedIntake.take.Goals as goal

pub returns-in_ok-extend_from_slice-in-Ok : goal.returns-in_ok-extend_from_slice-in-Ok
returns-in_ok-extend_from_slice-in-Ok g c = (
  λ run bytes stands. (c.in-Ok.ensures.ok run bytes stands.0, c.in-Ok.ensures.faultless run bytes stands.0),
  record { same = refl; all = λ keeps. c.in_ok-extend_from_slice-in-Ok.ensures.items },
  record {
    same = refl;
    goes = λ run bytes stands is.
        gone_on c.args.self.now.profile run bytes c.args.piece.now c.only_section.result c.replace-before.result c.args.self.now.beside c.read_ahead-ahead.result.1 c.replace-before.ensures.value (c.only_section.ensures run bytes stands.0) c.read_ahead-ahead.ensures.goes is;
  },
)

pub returns-else-self : goal.returns-else-self
returns-else-self g c = (
  λ run bytes stands. (c.in-Ok.ensures.ok run bytes stands.0, c.in-Ok.ensures.faultless run bytes stands.0),
  record { same = refl; all = λ keeps. absurd (false≢true (sym c.if-self.false ∙ keeps)) },
  record {
    same = refl;
    goes = λ run bytes stands is.
        gone_on c.args.self.now.profile run bytes c.args.piece.now c.only_section.result c.replace-before.result c.args.self.now.beside c.read_ahead-ahead.result.1 c.replace-before.ensures.value (c.only_section.ensures run bytes stands.0) c.read_ahead-ahead.ensures.goes is;
  },
)

pub read_ahead-ahead-requires-sync-T : goal.read_ahead-ahead-requires-sync-T
read_ahead-ahead-requires-sync-T g c = λ κs lives. c.requires
