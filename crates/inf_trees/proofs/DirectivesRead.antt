-- Tokens that begin as a directive that is one unit are that directive, and have its effect.
use Rattle.std.proofs.Common.{◌≡◌, ℕ, ◌+◌, ◌≤◌, List, [], ◌∷◌, ◌++◌, length, true, false, refl, sym, ◌∙◌, ap, subst, arith}
use Rattle.std.proofs.lemmas.Bool.{eqb-true}
use Rattle.std.proofs.lemmas.List.{length-append}
use Rattle.inf_settings.specs.Bounds.{Limits}
use Rattle.inf_machine.specs.Grammar.{Did, Event, Took, has}
use Rattle.inf_syntax.specs.declared.actions.Action.{Action}
use Rattle.inf_grammar.specs.Language.{grammar}
use Rattle.inf_unit.specs.Units.{Unit as UnitAtHand, no_unit, over}
use Rattle.inf_compilation.specs.Context.{Context}
use Rattle.inf_compilation.specs.Actions.{Compilation, opens, piece_begun, took}
use Rattle.inf_reader.specs.Directives.{directive_end}
use Rattle.inf_statement_laws.specs.{Happenings.Acts, Happenings.Happening, Happenings.Takes, Laid.next_comes, Laid.passed, Laid.run}
use Rattle.inf_statement_laws.specs.{Readings.Seen, Readings.plainly_at}
use Rattle.inf_statement_laws.proofs.Laying.{run_then}
use Rattle.inf_expression_laws.specs.Gathered.{AreSeen}
use Rattle.inf_language.specs.{Constants.piece_done, Units.TakeAll}
use Rattle.inf_language.specs.Texts.{atoms_of, happenings_before, happenings_of, tokens_of}
use Rattle.inf_language.proofs.{Derivations.happenings-append, Derivations.seen_front, Derivations.texts_take_all}
use Rattle.inf_language.proofs.{TextsActed.texts_do_their_actions}
use Rattle.inf_trees.specs.{Directives.Directive, Directives.DirectivesAreTrees, Directives.directive_done, Room.have_room}
use Rattle.inf_trees.specs.{Trees.parts_told, Trees.with_parts}
use Rattle.inf_trees.proofs.{DirectiveEnds.directives_over, DirectiveTexts.piece_text, Pending.OfFree, Semicolons.last_seen}
use Rattle.inf_trees.proofs.{Semicolons.opens_nothing, Semicolons.over_taken, StatementsRead.take_front, UnitWalks.OfDirective}
use Rattle.inf_trees.proofs.{UnitsGo.Goes, UnitsTyped.units_typed}
use Rattle.inf_trees.proofs.Needs.{Bytes, Kind, Places, front_needs, little_room, needs, needs_in}

-- Lemmas about the semicolon

-- behind a unit that is over the semicolon has no report
semicolon_taken : (context : Context) (s : Seen) (u : UnitAtHand) (w : Compilation) → opens s.token.kind ≡ false → w.unit ≡ over true u
    → piece_done (next_comes (passed s.behind (took context s.token w))) ≡ piece_done (passed s.behind w)
semicolon_taken context s u w plain is = ap (λ x. piece_done (next_comes (passed s.behind x))) (over_taken context s u w plain is)

-- The effect of the tokens of a directive, with its unit read

directive_runs : (limits : Limits) (context : Context) (tokens : List Seen) (semicolon : Seen) (early : List (Event Action))
    (w : Compilation) → (r : Goes limits no_unit tokens early) → have_room limits no_unit r.parts ≡ true
    → opens semicolon.token.kind ≡ false
    → let d : Directive = record { unit = r.parts; semicolon = semicolon } in
    piece_done (run limits context (happenings_before semicolon.token.place early tokens
    ++ Acts (plainly_at semicolon.token.place) Action.EndDirective ∷ Takes semicolon.token semicolon.behind ∷ []) (piece_begun w))
    ≡ piece_done (directive_done limits context d (piece_begun w))
directive_runs limits context tokens semicolon early w r room plain =
    let place = semicolon.token.place in
    let begun = piece_begun w in
    let front = happenings_before place early tokens in
    let end : List Happening = Acts (plainly_at place) Action.EndDirective ∷ Takes semicolon.token semicolon.behind ∷ [] in
    let ready = record (parts_told context no_unit r.parts begun) { unit = with_parts r.parts no_unit } in
    ap piece_done (run_then limits context front end begun)
    ∙ (ap (λ x. piece_done (run limits context end x)) (r.does context place begun refl room)
    ∙ semicolon_taken context semicolon ready.unit (directive_end limits context place ready) plain
    (directives_over limits context place ready))

none_needed : {A : Type 0} (m n more : ℕ) → m ≤ n → n ≤ more → more ≤ 0 → 1 ≤ m → A
none_needed m n more own front few e = absurd (none own front few e)
  where
    none : m ≤ n → n ≤ more → more ≤ 0 → 1 ≤ m → ⊥
    none own front few e = omega (arith, own, front, few, e)

pub directives_are_trees : (limits : Limits) → DirectivesAreTrees limits
directives_are_trees limits seen events text begins are_seen few none =
    let d = piece_text (atoms_of seen) events begins text in
    let u = units_typed limits OfDirective d.text refl seen refl d.typed refl tt [] [] OfFree in
    let late : List (Event Action) = Did Action.EndDirective ∷ Took u.atom ∷ [] in
    let again = subst (λ x. AreSeen (atoms_of x) (tokens_of x)) (sym u.same) are_seen in
    let count : length u.body + 1 ≡ length seen = sym (length-append u.body (u.last ∷ [])) ∙ ap length u.same in
    let all = take_front Action.EndDirective u.atom u.acts u.body u.last
    (subst (λ l. TakeAll l (u.body ++ u.last ∷ [])) (sym u.are)
    (subst (λ l. TakeAll events l) (sym u.same) (texts_take_all d.text seen refl))) in
    let is_semicolon = subst (λ c. has (grammar.atoms_of c) u.last.atom ≡ true) (eqb-true u.class 0 u.closes) u.is in
    let plain = opens_nothing u.last is_semicolon (last_seen u.body u.last again) in
    let r = u.going no_unit (seen_front u.body u.last again) (omega arith) (omega (arith, few, count)) in
    let needed = λ (kind : Kind). subst (λ es. needs_in kind u.acts ≤ needs_in kind es) u.are (front_needs kind u.acts late) in
    let room = little_room limits r.parts no_unit (record {
      on = refl;
      line = λ e. none_needed (needs Places r.parts) (needs_in Places u.acts) (needs_in Places events) (r.weighs Places) (needed Places)
          d.places e;
      once = within (needs Bytes r.parts) (needs_in Bytes u.acts) (needs_in Bytes events) (r.weighs Bytes) (needed Bytes) d.bytes;
      first = λ e. none_needed (needs Bytes r.parts) (needs_in Bytes u.acts) (needs_in Bytes events) (r.weighs Bytes) (needed Bytes)
          d.bytes e;
    }) in
    record {
      tree = record { unit = r.parts; semicolon = u.last };
      same = ap (λ l. l ++ u.last ∷ []) r.same ∙ u.same;
      written = r.written;
      does = λ context w. ap piece_done ((texts_do_their_actions limits).act 1 seen events text none context (piece_begun w))
          ∙ (ap (λ l. piece_done (run limits context (happenings_of events l) (piece_begun w))) (sym u.same)
          ∙ (ap (λ es. piece_done (run limits context (happenings_of es (u.body ++ u.last ∷ [])) (piece_begun w))) (sym u.are)
          ∙ (ap (λ hs. piece_done (run limits context hs (piece_begun w))) (happenings-append u.acts late u.body u.last [] all)
          ∙ directive_runs limits context u.body u.last u.acts w r room plain)));
    }
  where
    within : (m n more : ℕ) → m ≤ n → n ≤ more → more ≤ 0 → m ≤ 1
    within m n more own front few = omega (arith, own, front, few)
