use Rattle.std.proofs.Common.{rules, ◌≡◌, ℕ, List, IfErr, refl, ap, inl, subst, ◌∙◌}
use Rattle.inf_devices.specs.Files.{Rose}
use Rattle.inf_command.specs.FileNames.{source_name}
use Rattle.inf_compile.specs.{Chosen.chosen_for, Comes.IsUnread, Compiling.chosen_by, Promised.GivesUp}
use Rattle.inf_compile.proofs.Concluding.{early_none, if_memory_any}
use Rattle.inf_opcode.proofs.Growing.{on_err}
use Rattle.inf_compile.proofs.Delivering.{begins_whole, clean_where_delivered, never_story, opened_whole}
use Rattle.inf_compile.proofs.Promised.{gives_up, if_story_alone, if_story_caused, never_read, refused_leaves, untold_with_errors}
use Rattle.inf_compile.proofs.Telling.{tells_none}
use Rattle.inf_ending.specs.{Faults.Caused, Faults.UnlessMessages, Faults.UnlessRead, declared.faults.Fault.Fault}
use Rattle.inf_ending.proofs.Quiet.{hides_always}
use Rattle.inf_compile.proofs.compile.compile_named.Goals as goal

pub returns-clause-begins : goal.returns-clause-begins
returns-clause-begins g c = λ honest.
    let files = g.F.Files in let s = files.sources c.args.files.now in let options = c.args.options.now in
    let named = c.as_str.ensures.value ∙ c.in_ok-name.ensures.bytes in
    on_err c.deliver.result (begins_whole s _ (chosen_by s options) c.args.date _ _ (files.openings c.args.files.now)
    (files.openings c.translate.new.files)
    (g.M.Sink.taken c.args.messages.now) (g.M.Sink.taken c.translate.new.messages) c.in_ok-compiled.compiled
    (ap (λ (name : List ℕ). chosen_for s name options) named) named (c.in_ok-compiled.ensures.comes honest))

pub returns-clause-given_up : goal.returns-clause-given_up
returns-clause-given_up g c = λ honest.
    let files = g.F.Files in let s = files.sources c.args.files.now in let options = c.args.options.now in
    let named = c.as_str.ensures.value ∙ c.in_ok-name.ensures.bytes in
    gives_up _ _ _ _ _ _ _ _ c.deliver.result (on_err c.deliver.result (opened_whole s _ (chosen_by s options) c.args.date _ _
    (files.openings c.args.files.now) (files.openings c.translate.new.files) (g.M.Sink.taken c.args.messages.now)
    (g.M.Sink.taken c.translate.new.messages) c.in_ok-compiled.compiled (ap (λ (name : List ℕ). chosen_for s name options) named) named
    (c.in_ok-compiled.ensures.comes honest))) (never_story c.deliver.result _ _ c.deliver.ensures.story)
    (never_read c.deliver.result _ _ c.deliver.ensures.story)

pub returns-in_err-name-clause-given_up : goal.returns-in_err-name-clause-given_up
returns-in_err-name-clause-given_up g c = λ honest.
    gives_up _ _ _ _ _ _ _ _ c.from_residual.result (on_err c.from_residual.result (inl refl))
    (if_memory_any c.from_residual.result _ (early_none _ _ _ _ _)) (search rules)

pub returns-in_err-compiled-clause-given_up : goal.returns-in_err-compiled-clause-given_up
returns-in_err-compiled-clause-given_up g c = λ honest.
    let files = g.F.Files in let s = files.sources c.args.files.now in let options = c.args.options.now in
    let named = c.as_str.ensures.value ∙ c.in_ok-name.ensures.bytes in
    let At : List ℕ → Fault → Type 0 = λ name fault. GivesUp (Rose (files.faults c.args.files.now) (files.faults c.translate.new.files)) s
    (chosen_for s name options) name (files.openings c.args.files.now) (files.openings c.translate.new.files)
    (g.M.Sink.taken c.args.messages.now) (g.M.Sink.taken c.translate.new.messages) fault in
    let told : IfErr c.translate.result (λ fault. At (source_name options.source) fault) =
    subst (λ name. IfErr c.translate.result (λ fault. At name fault)) named (c.translate.ensures.given_up honest) in
    let passed : IfErr c.from_residual-in_err-compiled.result (λ fault. At (source_name options.source) fault) = search rules in
    passed

pub returns-clause-leaves : goal.returns-clause-leaves
returns-clause-leaves g c =
    let left = c.in_ok-compiled.ensures.leaves in let deliver = c.deliver.ensures in
    record {
      errors = untold_with_errors c.deliver.result c.in_ok-compiled.compiled deliver.status deliver.ok left.errors;
      clean = clean_where_delivered c.args.date _ c.deliver.result c.in_ok-compiled.compiled (g.M.Sink.taken c.args.messages.now)
          (g.M.Sink.taken c.translate.new.messages) (g.S.Sink.taken c.args.story.now) (g.S.Sink.taken c.deliver.new.story)
          deliver.status deliver.ok deliver.story left.errors left.clean;
      seen = tells_none c.deliver.result (g.F.Files.faults c.args.files.now) (g.F.Files.faults c.translate.new.files) left.seen.0;
      quiet = hides_always c.deliver.result (g.M.Sink.failures c.args.messages.now) (g.M.Sink.failures c.translate.new.messages)
          left.quiet.0;
      fault = if_story_caused c.deliver.result _ _ _ _ deliver.story;
      untouched = if_story_alone c.deliver.result _ _ deliver.story;
    }

pub returns-in_err-name-clause-leaves : goal.returns-in_err-name-clause-leaves
returns-in_err-name-clause-leaves g c =
    let files = g.F.Files in let first = c.args.files.now in let told = g.M.Sink.failures c.args.messages.now in
    let caused : IfErr c.from_residual.result (λ f. Caused f (λ name. IsUnread files first first) (Rose told told)) = search rules in
    let seen : IfErr c.from_residual.result (λ f. UnlessRead f (files.faults first ≡ files.faults first)) = search rules in
    let quiet : IfErr c.from_residual.result (λ f. UnlessMessages f (told ≡ told)) = search rules in
    refused_leaves c.args.story.now c.from_residual.result c.from_residual.ensures.0 caused seen quiet

pub returns-in_err-compiled-clause-leaves : goal.returns-in_err-compiled-clause-leaves
returns-in_err-compiled-clause-leaves g c =
    let files = g.F.Files in let first = c.args.files.now in let now = c.translate.new.files in let r = c.translate.result in
    let x = c.from_residual-in_err-compiled.result in let left = c.translate.ensures.leaves in
    let before = g.M.Sink.failures c.args.messages.now in let after = g.M.Sink.failures c.translate.new.messages in
    let was_caused : IfErr r (λ f. Caused f (λ name. IsUnread files first now) (Rose before after)) = left.fault in
    let caused : IfErr x (λ f. Caused f (λ name. IsUnread files first now) (Rose before after)) = search rules in
    let was_seen : IfErr r (λ f. UnlessRead f (files.faults now ≡ files.faults first)) = left.seen.1 in
    let seen : IfErr x (λ f. UnlessRead f (files.faults now ≡ files.faults first)) = search rules in
    let was_quiet : IfErr r (λ f. UnlessMessages f (after ≡ before)) = left.quiet.1 in
    let quiet : IfErr x (λ f. UnlessMessages f (after ≡ before)) = search rules in
    refused_leaves c.args.story.now x c.from_residual-in_err-compiled.ensures.0 caused seen quiet
