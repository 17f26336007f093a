use Rattle.std.proofs.Common.{rules, ◌≡◌, inr, List, ℕ, None, ap, false, refl, subst, sym, ◌∙◌, true}
use Rattle.inf_reader.specs.Reading.{is_mode_ended}
use Rattle.inf_sources.specs.{Inclusions.Nesting, Open.Open, Open.nesting}
use Rattle.inf_sources.proofs.Calls.{fit_none}
use Rattle.inf_unit.specs.Directives.{Characters, Include}
use Rattle.inf_compilation.specs.Actions.{Compilation}
use Rattle.inf_session.specs.{Session.asked_nothing, Session.included, Standing.HasRoom}
use Rattle.inf_session.specs.{Standing.state, Weights.Turns}
use Rattle.inf_session.proofs.{Opening.carries_out, Opening.including_stops, Opening.leaves, Opening.leaving_stops, Opening.not_ended}
use Rattle.inf_session.proofs.Promises.{memory_alone, promised_all, promised_as, promised_from_all, promised_here, promised_went}
use Rattle.inf_session.proofs.Turning.{turned_went}
use Rattle.inf_session.proofs.session.Session.carry_out.Goals.{in-Ended, in_default}
use Rattle.inf_session.proofs.session.Session.carry_out.Goals as goal

pub returns-then-is_over-clause-called : goal.returns-then-is_over-clause-called
returns-then-is_over-clause-called g c = promised_here None refl refl (λ s o start told. search rules) (λ failed s o start. tt) tt

pub returns-then-matches-clause-called : goal.returns-then-matches-clause-called
returns-then-matches-clause-called g c =
    let going = sym c.is_over.ensures ∙ c.if-is_over.false in
    let ends : is_mode_ended c.args.self.now.progress.reader.mode ≡ true = search rules in
    promised_as (memory_alone c.leave.result None c.args.lost.now c.leave.ensures.memory)
    (promised_all c.leave.ensures.called (λ s o start step told. step told ∙ leaves s o _ going ends)
    (λ failed s o start e h. leaving_stops going ends h) (λ never. never))

pub returns-in-Include-clause-called : goal.returns-in-Include-clause-called
returns-in-Include-clause-called g c =
    let text = c.as_slice.result.now in let unit = c.in-Include.unit in
    let going = sym c.is_over.ensures ∙ c.if-is_over.false in
    let reads : is_mode_ended c.args.self.now.progress.reader.mode ≡ false = elim c.match-matches.branch [
      | in-Ended w ↦ (let never = sym w.matches-is ∙ c.if-matches.false in cc)
      | in_default w ↦ not_ended c.args.self.now.progress.reader.mode w.in_default.not-Ended
    ] in
    let asks = sym c.in-Include.ensures.asked ∙ ap (λ (t : List ℕ). Include t unit) (sym c.as_slice.ensures.value) in
    promised_from_all refl refl c.include.ensures.called (λ s o start step told. step told
    ∙ ap (λ (w : Compilation). included s o unit text (record (state s start (g.F.Files.openings c.args.files.now) c.args.self.now told)
    { work = w })) c.take_asked.ensures.nothing ∙ carries_out s o (Include text unit) _ going reads asks)
    (λ failed s o start e h. including_stops going reads asks
    (λ told. ap (λ (w : Compilation). record (state s start (g.F.Files.openings c.args.files.now) c.args.self.now told) { work = w })
    c.take_asked.ensures.nothing) h) (λ never. never)

pub returns-in-Characters-clause-called : goal.returns-in-Characters-clause-called
returns-in-Characters-clause-called g c =
    let f = g.F.Files in let set = c.in-Characters.set in
    let going = sym c.is_over.ensures ∙ c.if-is_over.false in
    let reads : is_mode_ended c.args.self.now.progress.reader.mode ≡ false = elim c.match-matches.branch [
      | in-Ended w ↦ (let never = sym w.matches-is ∙ c.if-matches.false in cc)
      | in_default w ↦ not_ended c.args.self.now.progress.reader.mode w.in_default.not-Ended
    ] in
    let asks = sym c.in-Characters.ensures.asked in let turned = c.set_characters.ensures in
    promised_went (turned_went f c.args.files.now set c.args.self.now.open_files c.set_characters.new.self turned.value turned.nested
    turned.given_all turned.given)
    refl (ap (λ (o : Open). o.nest.limit) turned.value) (λ goes. ap (λ (o : Open). o.lexer.has_failed) turned.value ∙ goes)
    (fit_none f c.args.files.now c.args.self.now.open_files) refl (λ honest start nested told.
    let s = f.sources c.args.files.now in let old = f.openings c.args.files.now in
    let was = state s start old c.args.self.now told in
    ap (λ (w : Compilation). record was { nesting = nesting s start old c.set_characters.new.self; work = w }) c.take_asked.ensures.nothing
    ∙ ap (λ (n : Nesting). record (asked_nothing was) { nesting = n }) (turned.nesting s start old)
    ∙ carries_out s _ (Characters set) was going reads asks)

pub returns-in-Characters-clause-goes_on : goal.returns-in-Characters-clause-goes_on
returns-in-Characters-clause-goes_on g c =
    let reads : is_mode_ended c.args.self.now.progress.reader.mode ≡ false = elim c.match-matches.branch [
      | in-Ended w ↦ (let never = sym w.matches-is ∙ c.if-matches.false in cc)
      | in_default w ↦ not_ended c.args.self.now.progress.reader.mode w.in_default.not-Ended
    ] in
    inr (Turns c.in-Characters.set reads c.set_characters.ensures.value)

pub returns-in-Characters-clause-room : goal.returns-in-Characters-clause-room
returns-in-Characters-clause-room g c =
    subst (λ (o : Open). HasRoom c.args.self.now.room o) (sym c.set_characters.ensures.value) c.requires.room

pub returns-in-End-clause-called : goal.returns-in-End-clause-called
returns-in-End-clause-called g c = promised_here None refl refl (λ s o start told. search rules) (λ failed s o start. tt) tt

pub returns-in-Nothing-clause-called : goal.returns-in-Nothing-clause-called
returns-in-Nothing-clause-called g c = promised_here None refl refl (λ s o start told. search rules) (λ failed s o start. tt) tt
