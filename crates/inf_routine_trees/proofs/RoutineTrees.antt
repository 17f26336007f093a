-- Routines are trees.
use Rattle.std.proofs.Common.{◌≡◌, ℕ, suc, ◌+◌, ◌<◌, None, List, [], ◌∷◌, ◌++◌, length, refl, sym, ◌∙◌, ap, subst, append-nil}
use Rattle.std.proofs.Common.{append_assoc, arith}
use Rattle.inf_scanner.specs.declared.tokens.Place.{Place}
use Rattle.inf_settings.specs.Bounds.{Limits}
use Rattle.inf_machine.specs.declared.symbols.Symbol.{Symbol}
use Rattle.inf_machine.specs.Grammar.{Event, IsOneOf, IsText, Took, first, here, row as a_row, token}
use Rattle.inf_syntax.specs.{Rows.row, declared.actions.Action.Action}
use Rattle.inf_syntax.specs.declared.parts.names.TheConstants as Part
use Rattle.inf_grammar.specs.Language.{grammar}
use Rattle.inf_compilation.specs.{Actions.Compilation, Context.Context}
use Rattle.inf_reader.specs.Acting.{act}
use Rattle.inf_statement_laws.specs.{Happenings.Acts, Happenings.Happening, Happenings.Takes, Laid.next_comes, Laid.run, Readings.Seen}
use Rattle.inf_statement_laws.specs.{Readings.plainly_at}
use Rattle.inf_statement_laws.proofs.{Acts.inside_act, Acts.quiet_run, Acts.took_none, Laying.run_then, Rules.header_parts, Rules.number}
use Rattle.inf_statement_laws.proofs.{Rules.quiet_header}
use Rattle.inf_expression_laws.specs.Gathered.{AreSeen}
use Rattle.inf_expression_laws.proofs.OperatorRows.{free}
use Rattle.inf_language.specs.Texts.{atoms_of, happenings_before, happenings_of, tokens_of}
use Rattle.inf_language.proofs.{Derivations.happenings-append, Derivations.texts_take_all, TextsActed.texts_do_their_actions}
use Rattle.inf_trees.specs.Trees.{parts_told, with_parts}
use Rattle.inf_trees.proofs.UnitsRead.{before-append, place_before, seen_parts}
use Rattle.inf_trees.proofs.Symbols.{act_first, nothing_left, parts_of, token_first}
use Rattle.inf_routine_trees.specs.Bodies.{Tree, TreeWritten, token_done}
use Rattle.inf_routine_trees.specs.Routines.{Header, Routine, RoutinesAreTrees, header_parts as parts_of_header, routine_done}
use Rattle.inf_routine_trees.specs.Routines.{routine_seen, routine_symbols, routine_with}
use Rattle.inf_routine_trees.proofs.{BodyTrees.body_tree, Headers.header_text, Pieces.quiet_text, Trees.moved_seen, Trees.tree_runs}
use Rattle.inf_routine_trees.proofs.Effects.{Effects, given, given-append, given_behind, none_effects, none_given}

-- A routine is a directive.

routine_row : IsOneOf (row routine_symbols) (grammar.rows_of (number Part.DIRECTIVE))
unfolding grammar
routine_row = first

routine_text : (atoms : List ℕ) (events : List (Event Action)) → IsText grammar routine_symbols atoms events
    → IsText grammar (Part.DIRECTIVE ∷ []) atoms events
routine_text atoms events text =
    a_row routine_row (free atoms) (subst (λ l. IsText grammar l atoms events) (sym (append-nil routine_symbols)) text)

-- No action comes behind its last token.

abbrev front_symbols : List (Symbol Action)
front_symbols =
    Part.DO_ROUTINE ∷ Part.OPEN_BRACKET ∷ Part.NAME ∷ Part.DIRECTIVE_1 ∷ Part.DO_END_LOCALS ∷ Part.SEMICOLON ∷ Part.DIRECTIVE_2 ∷
    Part.DO_END_ROUTINE ∷ Part.CLOSE_BRACKET ∷ []

-- a text of the last semicolon
record IsLast (seen : List Seen) (events : List (Event Action)) : Type 0 where
  s : Seen
  atom : ℕ
  same : s ∷ [] ≡ seen
  are : events ≡ Took atom ∷ []

is_last : {atoms : List ℕ} {events : List (Event Action)} → IsText grammar (Part.SEMICOLON ∷ []) atoms events → (seen : List Seen)
    → atoms_of seen ≡ atoms → IsLast seen events
is_last (token h here) [] is = cc
is_last (token {atom = atom} h here) (s ∷ []) is = record { s = s; atom = atom; same = refl; are = refl }
is_last (token h here) (s ∷ t ∷ seen) is = cc

last_happens : (next : Place) (seen : List Seen) (events : List (Event Action)) → IsText grammar routine_symbols (atoms_of seen) events
    → happenings_of events seen ≡ happenings_before next events seen
last_happens next seen events text =
    let p = parts_of front_symbols (Part.SEMICOLON ∷ []) seen events text in
    let l = is_last p.of_rest p.rest refl in
    let all = texts_take_all p.of_front p.front refl in
    let seen_are : p.front ++ l.s ∷ [] ≡ seen = ap (λ x. p.front ++ x) l.same ∙ p.same in
    let events_are : events ≡ p.early ++ Took l.atom ∷ [] = p.are ∙ ap (λ x. p.early ++ x) l.are in
    ap (λ x. happenings_of events x) (sym seen_are)
    ∙ (ap (λ es. happenings_of es (p.front ++ l.s ∷ [])) events_are
    ∙ (happenings-append p.early (Took l.atom ∷ []) p.front l.s [] all
    ∙ (sym (before-append next p.early (Took l.atom ∷ []) p.front (l.s ∷ []) all)
    ∙ (ap (λ es. happenings_before next es (p.front ++ l.s ∷ [])) (sym events_are)
    ∙ ap (λ x. happenings_before next events x) seen_are))))

-- Lemmas about the routine

-- The tokens of a text are a routine, and its happenings, with effects behind the ends of statements, have the effect of the routine with
-- these behind its statements.
pub record Runs (limits : Limits) (seen : List Seen) (events : List (Event Action)) : Type 0 where
  pub tree : Routine
  pub same : routine_seen tree ≡ seen
  pub written : TreeWritten tree.body
  pub runs : (effects : Effects) (context : Context) (w : Compilation) → w.closed ≡ 0 → w.opening ≡ None
      → run limits context (given effects (happenings_of events seen)) w ≡ routine_done limits context (routine_with effects tree) w

pub routine_runs : (limits : Limits) (seen : List Seen) (events : List (Event Action))
    → IsText grammar routine_symbols (atoms_of seen) events
    → AreSeen (atoms_of seen) (tokens_of seen) → length seen + 1 < 4294967295 → Runs limits seen events
routine_runs limits seen events text are_seen few =
    let h = parts_of header_parts (Part.DO_END_LOCALS ∷ Part.SEMICOLON ∷ Part.DIRECTIVE_2 ∷ Part.DO_END_ROUTINE ∷ Part.CLOSE_BRACKET ∷
    Part.SEMICOLON ∷ []) seen events text in
    let parts = seen_parts h.front h.rest (moved_seen (sym h.same) are_seen) in
    let e = act_first Action.EndLocals (Part.SEMICOLON ∷ Part.DIRECTIVE_2 ∷ Part.DO_END_ROUTINE ∷ Part.CLOSE_BRACKET ∷ Part.SEMICOLON ∷
    []) h.rest h.late h.of_rest in
    let s = token_first (Part.DIRECTIVE_2 ∷ Part.DO_END_ROUTINE ∷ Part.CLOSE_BRACKET ∷ Part.SEMICOLON ∷ []) h.rest e.late e.text in
    let behind = moved_seen (sym s.same) parts.1 in
    let s_count : suc (length s.rest) ≡ length h.rest = ap length s.same in
    let b = parts_of (Part.DIRECTIVE_2 ∷ []) (Part.DO_END_ROUTINE ∷ Part.CLOSE_BRACKET ∷ Part.SEMICOLON ∷ []) s.rest s.late s.text in
    let inside = seen_parts b.front b.rest (moved_seen (sym b.same) behind.1) in
    let r = act_first Action.EndRoutine (Part.CLOSE_BRACKET ∷ Part.SEMICOLON ∷ []) b.rest b.late b.of_rest in
    let c = token_first (Part.SEMICOLON ∷ []) b.rest r.late r.text in
    let l = token_first [] c.rest c.late c.text in
    let n = nothing_left l.rest l.late l.text in
    let place = c.s.token.place in
    let at = place_before b.rest place in
    let header = happenings_before (place_before h.rest place) h.early h.front in
    let quiet = quiet_text header_parts quiet_header (place_before h.rest place) h.front h.early h.of_front in
    let names = header_text limits h.front h.early h.of_front in
    let body = body_tree limits at b.front b.early b.of_front inside.0 (omega (arith, few, h.count, s_count, b.count)) in
    let head : Header = record { bracket = names.bracket; name = names.name; locals = names.locals; semicolon = s.s } in
    let tree : Routine = record { header = head; body = body.tree; closing = c.s; last = l.s } in
    let front = names.bracket ∷ names.name ∷ names.locals in
    let body_happens = happenings_before at b.early b.front in
    let heads = plainly_at s.s.token.place in
    let ends = plainly_at place in
    let last : List Happening = Acts ends Action.EndRoutine ∷ Takes c.s.token c.s.behind ∷ Takes l.s.token l.s.behind ∷ [] in
    let all : happenings_before place events seen
    ≡ header ++ Acts heads Action.EndLocals ∷ Takes s.s.token s.s.behind ∷ (body_happens ++ last) =
    h.happen place
    ∙ ap (λ x. header ++ x) (e.happen place
    ∙ (ap (λ x. Acts (plainly_at x) Action.EndLocals ∷ happenings_before place e.late h.rest) (s.place place)
    ∙ ap (λ x. Acts heads Action.EndLocals ∷ x) (s.happen place
    ∙ ap (λ x. Takes s.s.token s.s.behind ∷ x) (b.happen place
    ∙ ap (λ x. body_happens ++ x) (r.happen place
    ∙ (ap (λ x. Acts (plainly_at x) Action.EndRoutine ∷ happenings_before place r.late b.rest) (c.place place)
    ∙ ap (λ x. Acts ends Action.EndRoutine ∷ x) (c.happen place
    ∙ ap (λ x. Takes c.s.token c.s.behind ∷ x) (l.happen place ∙ ap (λ x. Takes l.s.token l.s.behind ∷ x) (n.happen place))))))))) in
    record {
      tree = tree;
      same = ap (λ x. (front ++ s.s ∷ []) ++ (x ++ c.s ∷ l.s ∷ [])) body.all ∙ (append_assoc front (s.s ∷ []) (b.front ++ c.s ∷ l.s ∷ [])
          ∙ (ap (λ x. x ++ s.s ∷ (b.front ++ c.s ∷ l.s ∷ [])) names.same
          ∙ (ap (λ x. h.front ++ s.s ∷ (b.front ++ c.s ∷ l.s ∷ x)) (sym n.none)
          ∙ (ap (λ x. h.front ++ s.s ∷ (b.front ++ c.s ∷ x)) l.same
          ∙ (ap (λ x. h.front ++ s.s ∷ (b.front ++ x)) c.same
          ∙ (ap (λ x. h.front ++ s.s ∷ x) b.same ∙ (ap (λ x. h.front ++ x) s.same ∙ h.same)))))));
      written = body.written;
      runs = λ effects context w ahead none.
          let parts = parts_of_header head in
          let named : Compilation = record (parts_told context w.unit parts w) { unit = with_parts parts w.unit } in
          let headed = act limits context s.s.token.place Action.EndLocals named in
          let ready = token_done context s.s headed in
          let read : run limits context header w ≡ named = names.runs context (place_before h.rest place) w none in
          let named_open = ap (λ (v : Compilation). v.closed) (sym read) ∙ ((quiet_run limits context header w quiet).1 ∙ ahead) in
          let inside_given = given effects body_happens in
          let others : List Happening = Acts heads Action.EndLocals ∷ Takes s.s.token s.s.behind ∷ (inside_given ++ last) in
          let headed_open = inside_act limits context s.s.token.place Action.EndLocals named refl named_open in
          let ready_open = took_none context s.s.token headed ∙ headed_open in
          ap (λ hs. run limits context (given effects hs) w) (last_happens place seen events text ∙ all)
          ∙ (ap (λ hs. run limits context hs w)
          (given_behind effects (record { all = header; are = quiet })
          (Acts heads Action.EndLocals ∷ Takes s.s.token s.s.behind ∷ (body_happens ++ last))
          ∙ ap (λ l. header ++ Acts heads Action.EndLocals ∷ Takes s.s.token s.s.behind ∷ l) (given-append effects body_happens last))
          ∙ (run_then limits context header others w
          ∙ (ap (run limits context others) read
          ∙ (run_then limits context inside_given last ready
          ∙ ap (run limits context last) (tree_runs limits at b.front b.early body effects context ready ready_open refl)))));
    }

pub routines_are_trees : (limits : Limits) → RoutinesAreTrees limits
routines_are_trees limits seen events text are_seen few none_ahead =
    let r = routine_runs limits seen events text are_seen few in
    record {
      tree = r.tree;
      same = r.same;
      written = r.written;
      does = λ context w ahead.
          let begins = next_comes w in
          (texts_do_their_actions limits).act (number Part.DIRECTIVE) seen events (routine_text (atoms_of seen) events text) none_ahead
          context w
          ∙ (ap (λ hs. run limits context hs begins) (sym (none_given (happenings_of events seen)))
          ∙ (r.runs [] context begins ahead refl
          ∙ ap (λ (x : Tree × Effects). routine_done limits context (record r.tree { body = x.0 }) begins) (none_effects r.tree.body)));
    }
