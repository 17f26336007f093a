use Rattle.std.proofs.Common.{IsTrue, IfOk, IfErr, OnErr, OnOk, ◌≡◌, inl, ℕ, List, Option, ap, codes, true, false, refl, subst, sym, ◌∙◌}
use Rattle.std.proofs.lemmas.Result.{IfErr-weaker, IfOk-weaker, on_err_weaker}
use Rattle.inf_opcode.proofs.Growing.{on_err}
use Rattle.inf_devices.specs.{Files.Rose, Files.Sources, Sinks.Takes}
use Rattle.inf_command.specs.FileNames.{source_name}
use Rattle.inf_session.specs.{Choices.Choices, Session.start}
use Rattle.inf_settings.specs.Bounds.{limits_of}
use Rattle.inf_compile.specs.Comes.{Begins, OpenedBy, StopsEarly}
use Rattle.inf_compile.specs.Compiling.{Compiles, DeliversPart, chosen_by, named_by}
use Rattle.inf_compile.specs.Promised.{GivesUp}
use Rattle.inf_ending.specs.{Ending.missing, Faults.IfStory, declared.compiled.Status.Status}
use Rattle.inf_compile.proofs.Concluding.{early_none, if_memory_more}
use Rattle.inf_compile.proofs.Delivering.{all_named, more_caused, none_clean, none_read, none_told, refused_begins, refused_compiles}
use Rattle.inf_compile.proofs.Delivering.{unfailed_always}
use Rattle.inf_compile.proofs.{Promised.gives_up, Telling.tells_none}
use Rattle.inf_compile.proofs.compile.compile.Goals as goal
use Rattle.inf_compile.proofs.compile.compile.Goals.{After-compile_named}

pub returns-then-names_nothing-clause-headline : goal.returns-then-names_nothing-clause-headline
returns-then-names_nothing-clause-headline g c = λ honest.
    let options = c.args.options.now in let s = g.F.Files.sources c.args.files.now in let o = chosen_by s options in
    let word = options.source in let date = c.args.date in let before = g.M.Sink.taken c.args.messages.now in
    let story_old = g.S.Sink.taken c.args.story.now in let after = g.M.Sink.taken c.refuse.new.messages in
    let none = sym c.names_nothing.ensures ∙ c.if-names_nothing.true in
    IfOk-weaker c.refuse.result (λ r. (r ≡ Status.Errors) × Takes before after (missing (codes ".inf")).messages)
    (λ r. Compiles (named_by word s) o date (source_name word) r before after story_old story_old)
    (λ r k. refused_compiles word date s o r before after story_old story_old none k.0 k.1 refl) c.refuse.ensures.ok

pub returns-then-names_nothing-clause-begins : goal.returns-then-names_nothing-clause-begins
returns-then-names_nothing-clause-begins g c = λ honest.
    let options = c.args.options.now in let s = g.F.Files.sources c.args.files.now in let o = chosen_by s options in
    let word = options.source in let date = c.args.date in let before = g.M.Sink.taken c.args.messages.now in
    let after = g.M.Sink.taken c.refuse.new.messages in
    let none = sym c.names_nothing.ensures ∙ c.if-names_nothing.true in
    on_err_weaker c.refuse.result (λ k. refused_begins word date s o before after none k) c.refuse.ensures.err

pub returns-then-names_nothing-clause-part : goal.returns-then-names_nothing-clause-part
returns-then-names_nothing-clause-part g c =
    λ honest. IfErr-weaker c.refuse.result _ _ (λ fault cause. none_told fault _ _ cause) c.refuse.ensures.fault

-- A statement by the name of the source holds by the word, where the word is not empty.
by_word : (g : _) (c : After-compile_named g) (P : Sources → Choices → List ℕ → Type 0) →
    let s = g.F.Files.sources c.args.files.now in let word = c.args.options.now.source in let o = chosen_by s c.args.options.now in
    (IsTrue (g.F.Files.is_honest c.args.files.now) → P s o (source_name word)) →
    IsTrue (g.F.Files.is_honest c.args.files.now) → P (named_by word s) o (source_name word)
by_word g c P named honest =
    let s = g.F.Files.sources c.args.files.now in let word = c.args.options.now.source in
    all_named (λ (x : Sources). P x (chosen_by s c.args.options.now) (source_name word)) word s
    (sym c.names_nothing.ensures ∙ c.if-names_nothing.false) (named honest)

pub returns-clause-headline : goal.returns-clause-headline
returns-clause-headline g c =
    by_word g (goal.at.returns-clause-headline g c).After-compile_named (λ x o name. IfOk c.compile_named.result (λ r. Compiles x o c.args.date name r (g.M.Sink.taken c.args.messages.now)
    (g.M.Sink.taken c.compile_named.new.messages) (g.S.Sink.taken c.args.story.now) (g.S.Sink.taken c.compile_named.new.story)))
    c.compile_named.ensures.headline

pub returns-clause-once : goal.returns-clause-once
returns-clause-once g c =
    let files = g.F.Files in
    by_word g (goal.at.returns-clause-once g c).After-compile_named (λ x o name. OnOk c.compile_named.result (OpenedBy (x name) x o name (files.openings c.args.files.now)
    (files.openings c.compile_named.new.files))) c.compile_named.ensures.once

pub returns-clause-begins : goal.returns-clause-begins
returns-clause-begins g c =
    by_word g (goal.at.returns-clause-begins g c).After-compile_named (λ x o name. OnErr c.compile_named.result (Begins x o c.args.date name (g.M.Sink.taken c.args.messages.now)
    (g.M.Sink.taken c.compile_named.new.messages))) c.compile_named.ensures.begins

pub returns-clause-part : goal.returns-clause-part
returns-clause-part g c =
    by_word g (goal.at.returns-clause-part g c).After-compile_named (λ x o name. IfErr c.compile_named.result (λ fault. IfStory fault (λ n. DeliversPart x o c.args.date name n
    (g.M.Sink.taken c.args.messages.now) (g.M.Sink.taken c.compile_named.new.messages)
    (g.S.Sink.taken c.args.story.now) (g.S.Sink.taken c.compile_named.new.story)))) c.compile_named.ensures.part

pub returns-clause-given_up : goal.returns-clause-given_up
returns-clause-given_up g c =
    let files = g.F.Files in let first = c.args.files.now in let last = c.compile_named.new.files in
    by_word g (goal.at.returns-clause-given_up g c).After-compile_named (λ x o name. IfErr c.compile_named.result (λ fault. GivesUp (Rose (files.faults first) (files.faults last)) x o name
    (files.openings first) (files.openings last) (g.M.Sink.taken c.args.messages.now) (g.M.Sink.taken c.compile_named.new.messages) fault))
    c.compile_named.ensures.given_up

pub returns-then-names_nothing-clause-given_up : goal.returns-then-names_nothing-clause-given_up
returns-then-names_nothing-clause-given_up g c = λ honest.
    let options = c.args.options.now in let s = g.F.Files.sources c.args.files.now in let o = chosen_by s options in
    let named = named_by options.source s in let m = g.M.Sink in let before = m.taken c.args.messages.now in
    let after = m.taken c.refuse.new.messages in let was = start named o (source_name options.source) in
    gives_up _ _ _ _ _ _ _ _ c.refuse.result (on_err c.refuse.result (inl refl))
    (if_memory_more c.refuse.result (c.refuse.new.messages ≡ c.args.messages.now) (StopsEarly (limits_of o.settings) named o was before after)
    (λ same. subst (λ (x : Option (List ℕ)). StopsEarly (limits_of o.settings) named o was before x) (sym (ap m.taken same))
    (early_none (limits_of o.settings) named o was before)) c.refuse.ensures.memory)
    (IfErr-weaker c.refuse.result _ _ (λ fault cause. none_read fault _ _ cause) c.refuse.ensures.fault)

pub returns-then-names_nothing-clause-leaves : goal.returns-then-names_nothing-clause-leaves
returns-then-names_nothing-clause-leaves g c =
    let faults = g.F.Files.faults c.args.files.now in let refused = c.refuse.ensures in
    record {
      errors = λ e. refl;
      clean = none_clean c.refuse.result _ _ _ (IfOk-weaker c.refuse.result _ (λ r. r ≡ Status.Errors) (λ r k. k.0) refused.ok)
          refused.fault;
      seen = tells_none c.refuse.result faults faults refl;
      quiet = refused.quiet;
      fault = IfErr-weaker c.refuse.result _ _ (λ fault cause. more_caused fault _ _ _ cause) refused.fault;
      untouched = IfErr-weaker c.refuse.result _ _ (λ fault cause. unfailed_always fault _ _) refused.fault;
    }

pub returns-clause-leaves : goal.returns-clause-leaves
returns-clause-leaves g c = c.compile_named.ensures.leaves
