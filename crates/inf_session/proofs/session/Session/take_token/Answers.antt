use Rattle.std.proofs.Common.{◌≡◌, string_capacity, true, Err, Some, ℕ, List, [], ◌∷◌, ◌≤◌, reverse, unwrap_or, inl, inr, refl, ap, length}
use Rattle.std.proofs.Common.{subst, sym, ◌∙◌}
use Rattle.std.specs.Prelude.{slice_get}
use Rattle.inf_characters.specs.declared.characters.CharSet.{CharSet}
use Rattle.inf_sources.specs.{Calls.IsUnreadable, Inclusions.Nesting, Quoted.is_quoted_kind, declared.open_file.OpenFile.OpenFile}
use Rattle.inf_sources.specs.Open.{files_of, lexers_of, nesting}
use Rattle.inf_sources.proofs.Places.{files_are}
use Rattle.inf_lexer.specs.Names.{Nest, innermost_name}
use Rattle.inf_unit.specs.{Atoms.is_short, Messages.FileNames}
use Rattle.inf_compilation.specs.Context.{Context}
use Rattle.inf_reader.specs.{Handing.is_between, Reading.is_mode_ended, Standing.standing}
use Rattle.inf_session.specs.{Choices.chosen, Session.State, Session.context_of, Standing.state, Taking.Taken}
use Rattle.inf_session.specs.{Taking.token_at}
use Rattle.inf_ending.specs.declared.faults.Fault.{Fault}
use Rattle.inf_session.proofs.Promises.{promised_as, promised_failed, promised_went, told_halt}
use Rattle.inf_session.proofs.Weighing.{room_less}
use Rattle.inf_session.proofs.Taking.{step_is, taken_as, taken_ends, taken_within, token_is}
use Rattle.inf_session.proofs.TextTurns.{short_by}
use Rattle.inf_session.proofs.session.Session.take_token.Goals as goal

pub returns-clause-moves : goal.returns-clause-moves
returns-clause-moves g c =
    let before = c.args.self.now in let token = c.in-Ok.token in let took = c.in-Ok.ensures.took.0 in
    let stand = standing before.progress in
    let context : Context = record { names = c.names.result.now.names; set = c.characters.result; settings = before.setup.settings.now } in
    let t = token_at (is_between stand.reading) token.kind c.spelling.result.now token.place stand.work in
    elim took.one [
      | inl end ↦ inl (ap (λ (x : Taken). is_mode_ended x.stand.reading.mode) c.in_ok-self.ensures
          ∙ taken_ends g.B.Bounds.most context t before.conditionals stand before.quoted end)
      | inr less ↦ inr (room_less c.args.self.now.open_files.lexer c.next.new.self.lexer less c.in-Ok.ensures.reads.on.few)
    ]

pub returns-in-Err-Read-clause-called : goal.returns-in-Err-Read-clause-called
returns-in-Err-Read-clause-called g c =
    let files = g.F.Files in let s = files.sources c.args.files.now in let old = files.openings c.args.files.now in
    let before = c.args.self.now.open_files in let after = c.next.new.self in let next = c.in-Err-Read.ensures in
    let reads = rw c.in-Err-Read.field-0-is at next.reads in
    let unreadable : IsUnreadable files c.args.files.now c.next.new.files before after =
    elim reads.on.cause [ inl rose ↦ inl rose | inr long ↦ inr (inl long) ] in
    promised_as (ap (λ (e : Fault). Some e) (sym c.lose.ensures))
    (promised_failed reads.went refl (ap (λ (n : Nest). n.limit) reads.nest) tt unreadable (λ honest start nested. record {
      opened = inl (λ told. reads.opened honest start nested);
      unread = λ told. record {
        cause = reads.on.cause;
        not_ended = rw c.in-Err-Read.field-0-is at (next.refused honest start);
        goes_on = reads.on.on;
        openings = reads.opened honest start nested;
        names = ap (λ (n : Nest). n.names) reads.nest;
        numbers = ap (λ (n : ℕ). n ∷ files_of (lexers_of (reverse after.outer))) reads.file
            ∙ ap (λ (fs : List OpenFile). before.lexer.file ∷ files_of (lexers_of (reverse fs))) reads.outer
            ∙ sym (files_are s start old before nested);
        name_is = c.give_room-name.ensures ∙ ap (λ (n : Nest). unwrap_or (slice_get n.names after.lexer.file) []) reads.nest
            ∙ ap (λ (k : ℕ). unwrap_or (slice_get before.nest.names k) []) reads.file;
      };
    }))

pub returns-in-Err-Memory-clause-called : goal.returns-in-Err-Memory-clause-called
returns-in-Err-Memory-clause-called g c =
    let reads = rw c.in-Err-Memory.field-0-is at c.in-Err-Memory.ensures.reads in
    promised_failed reads.went refl (ap (λ (n : Nest). n.limit) reads.nest) reads.on.calm tt
    (λ honest start nested. record { opened = inl (λ told. reads.opened honest start nested); unread = tt })

pub returns-in_err-self-clause-called : goal.returns-in_err-self-clause-called
returns-in_err-self-clause-called g c =
    let reads = c.in-Ok.ensures.reads in
    promised_as (told_halt c.from_residual.result _ _ c.from_residual.ensures.1)
    (promised_failed reads.went refl (ap (λ (n : Nest). n.limit) reads.nest) reads.on.calm tt
    (λ honest start nested. record { opened = inl (λ told. reads.opened honest start nested); unread = tt }))

pub returns-clause-called : goal.returns-clause-called
returns-clause-called g c =
    let read = c.in-Ok.ensures.reads in
    promised_went read.went refl (ap (λ (n : Nest). n.limit) read.nest) (λ goes. c.in-Ok.ensures.failed) read.fits read.on.calm
    (λ honest start nested told.
    let files = g.F.Files in let token = c.in-Ok.token in
    let before : State = state (files.sources c.args.files.now) start (files.openings c.args.files.now) c.args.self.now told in
    let now = nesting (files.sources c.args.files.now) start (files.openings c.next.new.files) c.next.new.self in
    let reads = c.in-Ok.ensures.token honest start nested in let bytes = c.spelling.result.now in
    let o = chosen c.args.self.now.setup in
    let context : Context = record {
      names = c.names.result.now.names;
      set = c.characters.result;
      settings = c.args.self.now.setup.settings.now;
    } in
    let named : c.names.result.now.names ≡ before.nesting.names = ap (λ (n : Nest). n.names) (c.names.ensures ∙ read.nest) in
    let set_is : c.characters.result ≡ before.nesting.cursor.set =
    c.characters.ensures.innermost ∙ ap (λ (n : Nesting). n.cursor.set) reads.goes_on in
    let same : context ≡ context_of o before = ap (λ (names : FileNames). record context { names = names }) named
    ∙ ap (λ (set : CharSet). record context { names = before.nesting.names; set = set }) set_is in
    let x : Taken = taken_as c.take.new.conditionals (standing c.take.new.progress) c.in_ok-self.field-0 in
    let t = token_at (is_between before.reading) token.kind bytes token.place before.work in
    step_is g.B.Bounds.most o before now x context t reads.goes_on same
    (token_is before (is_between before.reading) token.kind bytes token.place refl reads.kind reads.place (c.spelling.ensures ∙
    reads.bytes)) c.in_ok-self.ensures)

pub take-requires : goal.take-requires
take-requires g c = subst (λ (bytes : List ℕ). is_short c.in-Ok.token.kind bytes ≡ true) (sym c.spelling.ensures)
    (short_by c.in-Ok.token.kind c.next.new.self.lexer.kept.bytes c.in-Ok.ensures.took.0.short)

pub give_room-name-requires : goal.give_room-name-requires
give_room-name-requires g c =
    subst (λ (n : Nest). length (innermost_name n) ≤ string_capacity c.args.self.now.room) (sym c.next.ensures.reads.nest) c.requires.room

pub returns-clause-room : goal.returns-clause-room
returns-clause-room g c =
    subst (λ (n : Nest). length (innermost_name n) ≤ string_capacity c.args.self.now.room) (sym c.next.ensures.reads.nest) c.requires.room

pub returns-clause-longest : goal.returns-clause-longest
returns-clause-longest g c = λ few_before.
    let before = c.args.self.now in let token = c.in-Ok.token in let most = before.open_files.nest.limit in
    let stand = standing before.progress in
    let context : Context = record { names = c.names.result.now.names; set = c.characters.result; settings = before.setup.settings.now } in
    let t = token_at (is_between stand.reading) token.kind c.spelling.result.now token.place stand.work in
    let few = λ (is : is_quoted_kind token.kind ≡ true). subst (λ (bytes : List ℕ). length bytes ≤ most) (sym c.spelling.ensures)
    (c.in-Ok.ensures.took.1 is) in
    subst (λ n. n ≤ most) (sym (ap (λ (x : Taken). x.quoted) c.in_ok-self.ensures))
    (taken_within g.B.Bounds.most context t before.conditionals stand before.quoted most few few_before)

pub returns-in-Err-Read-clause-same : goal.returns-in-Err-Read-clause-same
returns-in-Err-Read-clause-same g c = (c.next.ensures.reads.nest, (c.next.ensures.reads.outer, refl))

pub returns-in-Err-Memory-clause-same : goal.returns-in-Err-Memory-clause-same
returns-in-Err-Memory-clause-same g c = (c.next.ensures.reads.nest, (c.next.ensures.reads.outer, refl))

pub returns-in_err-self-clause-same : goal.returns-in_err-self-clause-same
returns-in_err-self-clause-same g c = (c.next.ensures.reads.nest, (c.next.ensures.reads.outer, refl))

pub returns-clause-same : goal.returns-clause-same
returns-clause-same g c = (c.next.ensures.reads.nest, (c.next.ensures.reads.outer, refl))

pub returns-clause-few : goal.returns-clause-few
returns-clause-few g c = c.in-Ok.ensures.reads.on.few
