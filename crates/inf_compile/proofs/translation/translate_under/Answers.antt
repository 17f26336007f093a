use Rattle.std.proofs.Common.{ℕ, List, refl, ap, subst, sym}
use Rattle.inf_devices.specs.Files.{Rose}
use Rattle.inf_sources.specs.{Open.IsNested, Open.Open, Open.nesting}
use Rattle.inf_sources.proofs.Calls.{went_as, went_none}
use Rattle.inf_session.specs.{Choices.Choices, Choices.chosen, Leading.GivenUp, Session.State}
use Rattle.inf_session.specs.{Standing.state}
use Rattle.inf_session.specs.{declared.setup.Setup.Setup}
use Rattle.inf_settings.specs.Bounds.{Limits, limits_of}
use Rattle.inf_compile.specs.Translated.{Leaves, Translated}
use Rattle.inf_compile.proofs.{Concluding.begun_is, Translating.leaves_none, Translating.translated_none}
use Rattle.inf_compile.proofs.translation.translate_under.Goals as goal

pub returns-in-Ok-clause-translated : goal.returns-in-Ok-clause-translated
returns-in-Ok-clause-translated g c = λ honest start nested.
    let files = g.F.Files in let s = files.sources c.args.files.now in let old = files.openings c.args.files.now in
    let now = files.openings c.read_out.new.files in let o = chosen c.args.setup in let session = c.in-Ok.session in
    let before = g.M.Sink.taken c.args.messages.now in let after = g.M.Sink.taken c.read_out.new.messages in
    let limits = limits_of c.args.setup.settings.now in let r = c.read_out.result in let begins = c.in-Ok.ensures.begins in
    let P : Limits → Choices → (List ℕ → State) → Type 0 =
    λ l p was. Translated l s p c.args.serial.now was start now r.0 before after (GivenUp l
    (Rose (files.faults c.args.files.now) (files.faults c.read_out.new.files)) s p was before after start now r.0) r.1 in
    subst (P limits o) (λ i told. begun_is s o start old (nesting s start old c.args.open_files) session told
    (ap (λ (x : Open). nesting s start old x) c.in-Ok.ensures.files) begins.begun begins.going begins.conditionals begins.quoted begins.passed
    i) (subst (λ (p : Setup). P limits (chosen p) (state s start old session)) c.in-Ok.ensures.setup
    (subst (λ (l : Limits). P l (chosen session.setup) (state s start old session)) c.requires.limits
    (c.read_out.ensures.translated honest start (subst (λ (x : Open). IsNested start old x) (sym c.in-Ok.ensures.files) nested))))

pub returns-in-Ok-clause-leaves : goal.returns-in-Ok-clause-leaves
returns-in-Ok-clause-leaves g c =
    subst (λ (x : Open). Leaves g.F.Files g.M.Sink c.args.files.now c.read_out.new.files x c.read_out.result.0 c.args.messages.now
    c.read_out.new.messages c.args.serial.now c.read_out.result.1) c.in-Ok.ensures.files c.read_out.ensures.leaves

pub returns-in-Err-clause-translated : goal.returns-in-Err-clause-translated
returns-in-Err-clause-translated g c = λ honest start nested. translated_none (λ told. refl)

pub returns-in-Err-clause-leaves : goal.returns-in-Err-clause-leaves
returns-in-Err-clause-leaves g c = leaves_none
    (went_as g.F.Files c.args.files.now c.args.files.now c.args.open_files c.args.open_files c.in-Err.open_files c.in-Err.ensures.back
    (went_none g.F.Files c.args.files.now c.args.open_files)) refl

pub new-requires : goal.new-requires
new-requires g c = λ s. ap (λ (l : Limits). l s) c.requires.limits
